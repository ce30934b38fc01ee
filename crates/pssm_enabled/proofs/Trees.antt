-- From each vertex from which a way leads on a route can go on: over the same transition out of a junction or exit point whenever it comes there,
-- and over all out of a fork or an entry point.
use Rattle.std.proofs.Common.{◌≡◌, ◌⊎◌, ◌<◌, List, [], ◌∷◌, ◌++◌, length, Contains, refl, sym, subst, ◌∙◌, inl, inr, ⊎_elim, arith}
use Rattle.std.proofs.lemmas.List.Elements.{Contains-append_left, Contains-append_right, Contains-append_cases}
use Rattle.pssm_model.specs.declared.ids.VertexId.{VertexId}
use Rattle.pssm_model.specs.declared.ids.TransId.{TransId}
use Rattle.pssm_model.specs.declared.elements.DraftMachine.{DraftMachine}
use Rattle.pssm_model.specs.declared.elements.Transition.{Transition}
use Rattle.pssm_model.specs.declared.elements.VertexKind.TheVariants as kinds
use Rattle.pssm_model.specs.Forest.{HasKind, transition_at}
use Rattle.pssm_model.specs.Shapes.{HasShape}
use Rattle.pssm_model.specs.Legs.{Leaves, Enters, IsCut}
use Rattle.pssm_model.specs.Paths.{LeadsOn}
use Rattle.pssm_model.specs.Paths.LeadsOn.{after}
use Rattle.pssm_model.specs.Routes.{Truth, IsTrueAt}
use Rattle.pssm_model.specs.WellFormed.{KeepsModelRules}
use Rattle.pssm_model.proofs.ElementLaws.{some_at, mapped_at, leaves_one, enters_one, nothing_in_nil}
use Rattle.pssm_model.proofs.RouteLaws.{in_one, is_one}
use Rattle.pssm_model_laws.proofs.Known.{Known}
use Rattle.pssm_model_laws.proofs.KnownPlaces.{known_vertex_kind}
use Rattle.pssm_model_laws.proofs.LegShapes.{cut_no_junction}
use Rattle.pssm_model_laws.proofs.Through.{kinds_clash, not_through, end_not_through, known_through, step_leads, target_there, join_from_state, fork_to_end, exit_one_out}
use Rattle.pssm_enabled.specs.Fitting.{IsThrough, PassesBy}
use Rattle.pssm_enabled.specs.Ways.{IsPassedOver, HasWay}
use Rattle.pssm_enabled.specs.Ways.HasWay.{ends as way_ends, over as way_over, all as way_all}
use Rattle.pssm_enabled.specs.Behind.{CanGoOn, GoesOnFrom}
use Rattle.pssm_enabled.proofs.Members.{in_front, in_rest, front_or_rest}
use Rattle.pssm_enabled.proofs.Leaving.{leaving_is_there}
use Rattle.pssm_enabled.proofs.Deciding.{some_transition, leaves_decided, true_decided, those}
use Rattle.pssm_enabled.proofs.Descent.{by_descent}
use Rattle.pssm_enabled.proofs.LeadingOn.{passed_through, entry_through, entry_not_passed, known_passed, way_at_end}
use Rattle.pssm_enabled.proofs.Unguarded.{always_true, fork_true}

-- the members of a list, those of another, and one in front of both
module _ {X : Type 0} (x : X) (left right : List X) where
  at_head : Contains (x ∷ (left ++ right)) x
  at_head = in_front x (left ++ right)

  at_left : (y : X) → Contains left y → Contains (x ∷ (left ++ right)) y
  at_left y h = in_rest x y (left ++ right) (Contains-append_left left right y h)

  at_right : (y : X) → Contains right y → Contains (x ∷ (left ++ right)) y
  at_right y h = in_rest x y (left ++ right) (Contains-append_right left right y h)

  parts : (y : X) → Contains (x ∷ (left ++ right)) y → (x ≡ y) ⊎ Contains left y ⊎ Contains right y
  parts y h = ⊎_elim (λ same. inl same) (λ more. inr (Contains-append_cases left right y more)) (front_or_rest x y (left ++ right) h)

-- a transition that leaves a vertex ends somewhere
pub target_some : (m : DraftMachine) (t : TransId) (v : VertexId) → Leaves m t v → (w : VertexId) × Enters m t w
target_some m t v leaves =
    let x = some_at m.transitions t.0 (leaving_is_there m t v leaves) in
    (x.0.target, mapped_at (λ (y : Transition). y.target) (transition_at m t) x.0 x.1)

-- a true transition out of the vertex from whose end a way leads on
pub record IsGood (m : DraftMachine) (truth : Truth) (v : VertexId) (t : TransId) : Type 0 where
  pub leaves : Leaves m t v
  pub holds : IsTrueAt m truth t
  pub ways : (w : VertexId) → Enters m t w → HasWay m truth w

-- a transition out of the vertex from whose end no way leads on
record IsStuck (m : DraftMachine) (truth : Truth) (v : VertexId) (t : TransId) : Type 0 where
  leaves : Leaves m t v
  stuck : ((w : VertexId) → Enters m t w → HasWay m truth w) → ⊥

-- what a way says of the vertex from which it leads on
pub way_good : {m : DraftMachine} {truth : Truth} {v : VertexId} → HasWay m truth v → IsPassedOver m v → (t : TransId) × IsGood m truth v t
way_good (way_ends none entry) passed = absurd (none passed)
way_good {m = m} {truth = truth} (way_over {w = w} {t = t} over leaves holds enters way) passed =
    (t, record { leaves = leaves; holds = holds; ways = λ x e. subst (HasWay m truth) (enters_one m t w x enters e) way })
way_good {m = m} (way_all {v = v} k each) passed = absurd (entry_not_passed m v k passed)

pub way_entry : {m : DraftMachine} {truth : Truth} {v : VertexId} → HasWay m truth v → HasKind m v kinds.EntryPoint → (t : TransId) (w : VertexId)
    → Leaves m t v → Enters m t w → HasWay m truth w
way_entry (way_ends none entry) k t w leaves enters = absurd (entry k)
way_entry {m = m} (way_over {v = v} over left holds into way) k t w leaves enters = absurd (entry_not_passed m v k over)
way_entry (way_all kind each) k t w leaves enters = each t w leaves enters

module _ {m : DraftMachine} (rules : KeepsModelRules m) where
  -- no transition out of a vertex through which routes go on ends on a join
  pub no_join_after : (t : TransId) (v w : VertexId) → IsThrough m v → Leaves m t v → Enters m t w → HasKind m w kinds.Join → ⊥
  no_join_after t v w through leaves enters join =
      not_through m v kinds.State (λ none. none) (join_from_state rules t w v join enters leaves) through

  pub fork_goes_on : (truth : Truth) (t : TransId) (v w : VertexId) → HasKind m v kinds.Fork → Leaves m t v → Enters m t w → CanGoOn m truth w
  fork_goes_on truth t v w fork leaves enters =
      let end = fork_to_end rules t v w fork leaves enters in
      (way_at_end m truth w (end_not_through m w end), no_join_after t v w (inr (inl fork)) leaves enters)

module _ {m : DraftMachine} (shape : HasShape m) (rules : KeepsModelRules m) (truth : Truth) where
  -- The ends of transitions out of the vertex are known to have a way on, or not.
  abbrev AreEndsKnown : VertexId → Type 0
  AreEndsKnown v = (t : TransId) (w : VertexId) → Leaves m t v → Enters m t w → Known (HasWay m truth w)

  good_by : (v : VertexId) → AreEndsKnown v → (t : TransId) → Known (IsGood m truth v t)
  good_by v known t =
      ⊎_elim
      (λ leaves. ⊎_elim
      (λ holds.
      let w = target_some m t v leaves in
      ⊎_elim
      (λ way. inl (record { leaves = leaves; holds = holds; ways = λ x e. subst (HasWay m truth) (enters_one m t w.0 x w.1 e) way }))
      (λ none. inr (λ good. none (good.ways w.0 w.1)))
      (known t w.0 leaves w.1))
      (λ not. inr (λ good. not good.holds))
      (true_decided m truth t v leaves))
      (λ other. inr (λ good. other good.leaves))
      (leaves_decided m t v)

  stuck_by : (v : VertexId) → AreEndsKnown v → (t : TransId) → Known (IsStuck m truth v t)
  stuck_by v known t =
      ⊎_elim
      (λ leaves.
      let w = target_some m t v leaves in
      ⊎_elim
      (λ way. inr (λ h. h.stuck (λ x e. subst (HasWay m truth) (enters_one m t w.0 x w.1 e) way)))
      (λ none. inl (record { leaves = leaves; stuck = λ all. none (all w.0 w.1) }))
      (known t w.0 leaves w.1))
      (λ other. inr (λ h. other h.leaves))
      (leaves_decided m t v)

  way_over_known : (v : VertexId) → IsPassedOver m v → AreEndsKnown v → Known (HasWay m truth v)
  way_over_known v passed known =
      ⊎_elim
      (λ found.
      let w = target_some m found.0 v found.1.leaves in
      inl (way_over passed found.1.leaves found.1.holds w.1 (found.1.ways w.0 w.1)))
      (λ none. inr (λ way. let good = way_good way passed in none good.0 good.1))
      (some_transition m (IsGood m truth v) (good_by v known) (λ t good. leaving_is_there m t v good.leaves))

  way_all_known : (v : VertexId) → HasKind m v kinds.EntryPoint → AreEndsKnown v → Known (HasWay m truth v)
  way_all_known v entry known =
      ⊎_elim
      (λ found. inr (λ way. found.1.stuck (λ w enters. way_entry way entry found.0 w found.1.leaves enters)))
      (λ none. inl (way_all entry (λ t w leaves enters. ⊎_elim
      (λ way. way)
      (λ no. absurd (none t (record { leaves = leaves; stuck = λ all. no (all w enters) })))
      (known t w leaves enters))))
      (some_transition m (IsStuck m truth v) (stuck_by v known) (λ t h. leaving_is_there m t v h.leaves))

  way_known_more : (v : VertexId) → v.0 < length m.vertices
      → ((u : TransId) (w : VertexId) → IsThrough m v → Leaves m u v → Enters m u w → IsThrough m w → Known (HasWay m truth w)) → Known (HasWay m truth v)
  way_known_more v there next =
      let ends_known = λ (through : IsThrough m v) (t : TransId) (w : VertexId) (leaves : Leaves m t v) (enters : Enters m t w). ⊎_elim
      (λ second. next t w through leaves enters second)
      (λ none. inl (way_at_end m truth w none))
      (known_through m w) in
      ⊎_elim
      (λ passed. way_over_known v passed (ends_known (passed_through m v passed)))
      (λ none. ⊎_elim
      (λ entry. way_all_known v entry (ends_known (entry_through m v entry)))
      (λ other. inl (way_ends none other))
      (known_vertex_kind m v kinds.EntryPoint))
      (known_passed m v)

  -- whether a way leads on is known
  pub known_way : (v : VertexId) → v.0 < length m.vertices → Known (HasWay m truth v)
  known_way v there = by_descent shape rules (λ w. Known (HasWay m truth w)) way_known_more v there

  -- the transition by which routes go on from a junction or exit point
  pick_of : (v : VertexId) → ((t : TransId) × IsGood m truth v t) ⊎ ((t : TransId) → IsGood m truth v t → ⊥) → TransId
  pick_of v (inl found) = found.0
  pick_of v (inr none) = record { 0 = 0 }

  pick_good : (v : VertexId) (found : ((t : TransId) × IsGood m truth v t) ⊎ ((t : TransId) → IsGood m truth v t → ⊥))
      → (t : TransId) × IsGood m truth v t → IsGood m truth v (pick_of v found)
  unfolding pick_of
  pick_good v (inl found) some = found.1
  pick_good v (inr none) some = absurd (none some.0 some.1)

  choice : (v : VertexId) → ((t : TransId) × IsGood m truth v t) ⊎ ((t : TransId) → IsGood m truth v t → ⊥)
  choice v =
      some_transition m (IsGood m truth v) (good_by v (λ t w leaves enters. known_way w (target_there shape t w enters)))
      (λ t good. leaving_is_there m t v good.leaves)

  picked : VertexId → TransId
  picked v = pick_of v (choice v)

  picked_good : (v : VertexId) → IsPassedOver m v → HasWay m truth v → IsGood m truth v (picked v)
  unfolding picked
  picked_good v passed way = pick_good v (choice v) (way_good way passed)

  -- One of the transitions goes on from a junction, and all that there are from a fork, join, entry or exit point.
  record GoesOn (v : VertexId) (ts : List TransId) : Type 0 where
    one : HasKind m v kinds.Junction → (t : TransId) × Contains ts t × Leaves m t v
    every : IsCut m v → (t : TransId) → Leaves m t v → Contains ts t

  goes_wider : (v : VertexId) (ts us : List TransId) → ((t : TransId) → Contains ts t → Contains us t) → GoesOn v ts → GoesOn v us
  goes_wider v ts us more h = record {
    one = λ k. (let one = h.one k in (one.0, more one.0 one.1, one.2));
    every = λ cut t leaves. more t (h.every cut t leaves);
  }

  -- what comes behind the roots, which leave the vertex
  record IsForest (v : VertexId) (us ts : List TransId) (come : List VertexId) : Type 0 where
    roots : (t : TransId) → Contains us t → Contains ts t
    guards : (t : TransId) → Contains ts t → IsTrueAt m truth t
    leave : (t : TransId) → Contains ts t → Contains us t ⊎ ((w : VertexId) × Contains come w × Leaves m t w × IsThrough m w)
    ends : (t : TransId) (w : VertexId) → Contains ts t → Enters m t w → Contains come w
    entered : (w : VertexId) → Contains come w → (t : TransId) × Contains ts t × Enters m t w
    goes : (w : VertexId) → Contains come w → GoesOn w ts
    picks : (t : TransId) (w : VertexId) → Contains ts t → Leaves m t w → IsPassedOver m w → t ≡ picked w
    led : (w : VertexId) → Contains come w → IsThrough m w → IsThrough m v × LeadsOn m v w

  record SomeForest (v : VertexId) (us : List TransId) : Type 0 where
    transitions : List TransId
    vertices : List VertexId
    forest : IsForest v us transitions vertices

  -- a vertex with what comes behind it
  record SomeTree (v : VertexId) : Type 0 where
    roots : List TransId
    leave : (t : TransId) → Contains roots t → Leaves m t v × IsThrough m v
    goes : GoesOn v roots
    behind : SomeForest v roots

  -- a root: a true transition out of the vertex, from whose end a way leads on
  record IsRoot (v : VertexId) (t : TransId) : Type 0 where
    leaves : Leaves m t v
    holds : IsTrueAt m truth t
    on : (w : VertexId) → Enters m t w → CanGoOn m truth w
    picks : IsPassedOver m v → t ≡ picked v

  no_forest : (v : VertexId) → SomeForest v []
  no_forest v = record {
    transitions = [];
    vertices = [];
    forest = record {
      roots = λ t inside. inside;
      guards = λ t inside. absurd (nothing_in_nil t inside);
      leave = λ t inside. absurd (nothing_in_nil t inside);
      ends = λ t w inside. absurd (nothing_in_nil t inside);
      entered = λ w inside. absurd (nothing_in_nil w inside);
      goes = λ w inside. absurd (nothing_in_nil w inside);
      picks = λ t w inside. absurd (nothing_in_nil t inside);
      led = λ w inside. absurd (nothing_in_nil w inside);
    };
  }

  -- one root more, with the tree at its end
  module _ (v w : VertexId) (u : TransId) (us : List TransId) (through : IsThrough m v) (root : IsRoot v u) (enters : Enters m u w) (tree : SomeTree w)
      (rest : SomeForest v us) where
    abbrev ts : List TransId
    ts = u ∷ (tree.behind.transitions ++ rest.transitions)

    abbrev come : List VertexId
    come = w ∷ (tree.behind.vertices ++ rest.vertices)

    t_left : (t : TransId) → Contains tree.behind.transitions t → Contains ts t
    t_left t h = at_left u tree.behind.transitions rest.transitions t h

    t_right : (t : TransId) → Contains rest.transitions t → Contains ts t
    t_right t h = at_right u tree.behind.transitions rest.transitions t h

    v_left : (x : VertexId) → Contains tree.behind.vertices x → Contains come x
    v_left x h = at_left w tree.behind.vertices rest.vertices x h

    v_right : (x : VertexId) → Contains rest.vertices x → Contains come x
    v_right x h = at_right w tree.behind.vertices rest.vertices x h

    t_parts : (t : TransId) → Contains ts t → (u ≡ t) ⊎ Contains tree.behind.transitions t ⊎ Contains rest.transitions t
    t_parts t h = parts u tree.behind.transitions rest.transitions t h

    v_parts : (x : VertexId) → Contains come x → (w ≡ x) ⊎ Contains tree.behind.vertices x ⊎ Contains rest.vertices x
    v_parts x h = parts w tree.behind.vertices rest.vertices x h

    -- Where a transition begins that is no root.
    abbrev Begins : TransId → Type 0
    Begins t = Contains (u ∷ us) t ⊎ ((x : VertexId) × Contains come x × Leaves m t x × IsThrough m x)

    leave_tree : (t : TransId) → Contains tree.behind.transitions t → Begins t
    leave_tree t inside =
        ⊎_elim
        (λ first. let at = tree.leave t first in inr (w, at_head w tree.behind.vertices rest.vertices, at.0, at.1))
        (λ further. inr (further.0, v_left further.0 further.1, further.2, further.3))
        (tree.behind.forest.leave t inside)

    leave_rest : (t : TransId) → Contains rest.transitions t → Begins t
    leave_rest t inside =
        ⊎_elim
        (λ first. inl (in_rest u t us first))
        (λ further. inr (further.0, v_right further.0 further.1, further.2, further.3))
        (rest.forest.leave t inside)

    with_root : SomeForest v (u ∷ us)
    with_root = record {
      transitions = ts;
      vertices = come;
      forest = record {
        roots = λ t inside. ⊎_elim
            (λ same. subst (Contains ts) same (at_head u tree.behind.transitions rest.transitions))
            (λ more. t_right t (rest.forest.roots t more))
            (front_or_rest u t us inside);
        guards = λ t inside. ⊎_elim
            (λ same. subst (IsTrueAt m truth) same root.holds)
            (⊎_elim (tree.behind.forest.guards t) (rest.forest.guards t))
            (t_parts t inside);
        leave = λ t inside. ⊎_elim
            (λ same. inl (subst (Contains (u ∷ us)) same (in_front u us)))
            (⊎_elim (leave_tree t) (leave_rest t))
            (t_parts t inside);
        ends = λ t x inside e. ⊎_elim
            (λ same. subst (Contains come) (enters_one m u w x enters (subst (λ k. Enters m k x) (sym same) e))
            (at_head w tree.behind.vertices rest.vertices))
            (⊎_elim
            (λ here. v_left x (tree.behind.forest.ends t x here e))
            (λ there. v_right x (rest.forest.ends t x there e)))
            (t_parts t inside);
        entered = λ x inside. ⊎_elim
            (λ same. (u, at_head u tree.behind.transitions rest.transitions, subst (Enters m u) same enters))
            (⊎_elim
            (λ here. let by = tree.behind.forest.entered x here in (by.0, t_left by.0 by.1, by.2))
            (λ there. let by = rest.forest.entered x there in (by.0, t_right by.0 by.1, by.2)))
            (v_parts x inside);
        goes = λ x inside. ⊎_elim
            (λ same. subst (λ y. GoesOn y ts) same
            (goes_wider w tree.roots ts (λ t first. t_left t (tree.behind.forest.roots t first)) tree.goes))
            (⊎_elim
            (λ here. goes_wider x tree.behind.transitions ts t_left (tree.behind.forest.goes x here))
            (λ there. goes_wider x rest.transitions ts t_right (rest.forest.goes x there)))
            (v_parts x inside);
        picks = λ t x inside leaves passed. ⊎_elim
            (λ same.
            let here : v ≡ x = leaves_one m t v x (subst (λ k. Leaves m k v) same root.leaves) leaves in
            subst (λ y. t ≡ picked y) here (sym same ∙ root.picks (subst (IsPassedOver m) (sym here) passed)))
            (⊎_elim
            (λ here. tree.behind.forest.picks t x here leaves passed)
            (λ there. rest.forest.picks t x there leaves passed))
            (t_parts t inside);
        led = λ x inside second. ⊎_elim
            (λ same. (through, step_leads m v x u through second root.leaves (subst (Enters m u) same enters)))
            (⊎_elim
            (λ here.
            let led = tree.behind.forest.led x here second in
            (through, after (step_leads m v w u through led.0 root.leaves enters) led.1))
            (λ there. rest.forest.led x there second))
            (v_parts x inside);
      };
    }

  -- the roots one after another
  grow : (v : VertexId) → IsThrough m v → ((t : TransId) (w : VertexId) → Leaves m t v → Enters m t w → CanGoOn m truth w → SomeTree w)
      → (us : List TransId) → ((t : TransId) → Contains us t → IsRoot v t) → SomeForest v us
  grow v through next [] root = no_forest v
  grow v through next (u ∷ us) root =
      let first = root u (in_front u us) in
      let w = target_some m u v first.leaves in
      with_root v w.0 u us through first w.1 (next u w.0 first.leaves w.1 (first.on w.0 w.1))
      (grow v through next us (λ t inside. root t (in_rest u t us inside)))

  -- a vertex at which routes end
  bare : (v : VertexId) → (IsThrough m v → ⊥) → SomeTree v
  bare v none = record {
    roots = [];
    leave = λ t inside. absurd (nothing_in_nil t inside);
    goes = record { one = λ k. absurd (none (inl k)); every = λ cut. absurd (none (inr cut)) };
    behind = no_forest v;
  }

  -- a junction or exit point
  over_tree : (v : VertexId) → IsPassedOver m v → IsGood m truth v (picked v)
      → ((t : TransId) (w : VertexId) → Leaves m t v → Enters m t w → CanGoOn m truth w → SomeTree w) → SomeTree v
  over_tree v passed good next =
      let through = passed_through m v passed in
      let u = picked v in
      record {
        roots = u ∷ [];
        leave = λ t inside. (subst (λ x. Leaves m x v) (sym (is_one u t inside)) good.leaves, through);
        goes = record {
          one = λ k. (u, in_one u, good.leaves);
          every = λ cut t leaves. subst (Contains (u ∷ [])) (exit_one_out rules v u t (exit_of cut) good.leaves leaves) (in_one u);
        };
        behind = grow v through next (u ∷ []) (λ t inside. subst (IsRoot v) (sym (is_one u t inside)) (record {
          leaves = good.leaves;
          holds = good.holds;
          on = λ w enters. (good.ways w enters, no_join_after rules u v w through good.leaves enters);
          picks = λ over. refl;
        }));
      }
    where
      exit_of : IsCut m v → HasKind m v kinds.ExitPoint
      exit_of cut = ⊎_elim (λ junction. absurd (cut_no_junction m v cut junction)) (λ exit. exit) passed

  -- a fork or an entry point
  down_tree : (v : VertexId) → HasKind m v kinds.Fork ⊎ HasKind m v kinds.EntryPoint → HasWay m truth v
      → ((t : TransId) (w : VertexId) → Leaves m t v → Enters m t w → CanGoOn m truth w → SomeTree w) → SomeTree v
  down_tree v down way next =
      let through : IsThrough m v = ⊎_elim (λ fork. inr (inl fork)) (λ entry. entry_through m v entry) down in
      let all = those (λ t. Leaves m t v) (λ t. leaves_decided m t v) (length m.transitions) in
      let out = λ (t : TransId) (inside : Contains all.0 t). ((all.1.members t).0 inside).2 in
      record {
        roots = all.0;
        leave = λ t inside. (out t inside, through);
        goes = record {
          one = λ junction. absurd (⊎_elim
              (λ fork. kinds_clash m v kinds.Junction kinds.Fork (λ e. cc) junction fork)
              (λ entry. kinds_clash m v kinds.Junction kinds.EntryPoint (λ e. cc) junction entry)
              down);
          every = λ cut t leaves. (all.1.members t).1 (omega arith, leaving_is_there m t v leaves, leaves);
        };
        behind = grow v through next all.0 (λ t inside. record {
          leaves = out t inside;
          holds = ⊎_elim
              (λ fork. fork_true rules truth t v (out t inside) fork)
              (λ entry. always_true rules truth t v (out t inside) (inr (inr entry)))
              down;
          on = λ w enters. ⊎_elim
              (λ fork. fork_goes_on rules truth t v w fork (out t inside) enters)
              (λ entry. (
                way_entry way entry t w (out t inside) enters,
                no_join_after rules t v w through (out t inside) enters,
              ))
              down;
          picks = λ passed. absurd (⊎_elim
              (λ fork. ⊎_elim
              (λ junction. kinds_clash m v kinds.Junction kinds.Fork (λ e. cc) junction fork)
              (λ exit. kinds_clash m v kinds.ExitPoint kinds.Fork (λ e. cc) exit fork)
              passed)
              (λ entry. entry_not_passed m v entry passed)
              down);
        });
      }

  tree_more : (v : VertexId) → v.0 < length m.vertices
      → ((u : TransId) (w : VertexId) → IsThrough m v → Leaves m u v → Enters m u w → IsThrough m w → CanGoOn m truth w → SomeTree w)
      → CanGoOn m truth v → SomeTree v
  tree_more v there further (way, no_join) =
      let next = λ (through : IsThrough m v) (t : TransId) (w : VertexId) (leaves : Leaves m t v) (enters : Enters m t w) (on : CanGoOn m truth w). ⊎_elim
      (λ second. further t w through leaves enters second on)
      (λ none. bare w none)
      (known_through m w) in
      let over = λ (passed : IsPassedOver m v). over_tree v passed (picked_good v passed way) (next (passed_through m v passed)) in
      ⊎_elim
      (λ through. ⊎_elim
      (λ junction. over (inl junction))
      (⊎_elim
      (λ fork. down_tree v (inl fork) way (next through))
      (⊎_elim
      (λ join. absurd (no_join join))
      (⊎_elim
      (λ entry. down_tree v (inr entry) way (next through))
      (λ exit. over (inr exit)))))
      through)
      (λ none. bare v none)
      (known_through m v)

  tree_at : (v : VertexId) → v.0 < length m.vertices → CanGoOn m truth v → SomeTree v
  tree_at v there = by_descent shape rules (λ w. CanGoOn m truth w → SomeTree w) tree_more v there

  -- the transitions of a tree
  module _ (v : VertexId) (tree : SomeTree v) where
    abbrev behind_all : List TransId
    behind_all = tree.behind.transitions

    passes_by : (w : VertexId) → GoesOn w behind_all → PassesBy m (Contains behind_all) w
    passes_by w h = record {
      one = λ k.
          let one = h.one k in (
            one.0,
            one.1,
            one.2,
            λ u inside leaves.
                tree.behind.forest.picks u w inside leaves (inl k) ∙ sym (tree.behind.forest.picks one.0 w one.1 one.2 (inl k)),
          );
      every = h.every;
    }

    goes_from : GoesOnFrom m truth v behind_all
    goes_from = record {
      come = v ∷ tree.behind.vertices;
      begins = in_front v tree.behind.vertices;
      guards = tree.behind.forest.guards;
      leave = λ t inside. ⊎_elim
          (λ first. let at = tree.leave t first in (v, in_front v tree.behind.vertices, at.0, at.1))
          (λ further. (further.0, in_rest v further.0 tree.behind.vertices further.1, further.2, further.3))
          (tree.behind.forest.leave t inside);
      ends = λ t w inside e. in_rest v w tree.behind.vertices (tree.behind.forest.ends t w inside e);
      entered = λ w inside. ⊎_elim
          (λ same. inl (sym same))
          (λ more. inr (tree.behind.forest.entered w more))
          (front_or_rest v w tree.behind.vertices inside);
      passes = λ w inside. passes_by w (⊎_elim
          (λ same. subst (λ x. GoesOn x behind_all) same (goes_wider v tree.roots behind_all tree.behind.forest.roots tree.goes))
          (λ more. tree.behind.forest.goes w more)
          (front_or_rest v w tree.behind.vertices inside));
      led = λ w inside through. ⊎_elim
          (λ same. inl same)
          (λ more. inr (tree.behind.forest.led w more through))
          (front_or_rest v w tree.behind.vertices inside);
    }

  -- a route can go on from each vertex from which a way leads on
  pub some_behind : (v : VertexId) → v.0 < length m.vertices → CanGoOn m truth v → (ts : List TransId) × GoesOnFrom m truth v ts
  some_behind v there on = let tree = tree_at v there on in (behind_all v tree, goes_from v tree)
