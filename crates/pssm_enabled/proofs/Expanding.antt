-- How a route goes on from one vertex after another behind the end of a way, each once.
use Rattle.std.proofs.Common.{◌≡◌, ◌⊎◌, ◌↔◌, ◌<◌, ◌≤◌, ◌+◌, ℕ, suc, List, [], ◌∷◌, ◌++◌, length, take, get_or, sum_by, cond, Bool, true, false, Some, Contains, refl, sym, subst, ◌∙◌, inl, inr, ⊎_elim, arith}
use Rattle.std.proofs.lemmas.List.{take_all, get_or-take, get_or_default, length-take-le}
use Rattle.std.proofs.lemmas.List.Elements.{Contains-append_left, Contains-append_right, Contains-append_cases}
use Rattle.pssm_model.specs.declared.ids.VertexId.{VertexId}
use Rattle.pssm_model.specs.declared.ids.TransId.{TransId}
use Rattle.pssm_model.specs.declared.elements.DraftMachine.{DraftMachine}
use Rattle.pssm_model.specs.declared.elements.VertexKind.TheVariants as kinds
use Rattle.pssm_model.specs.declared.elements.Vertex.{Vertex}
use Rattle.pssm_model.specs.Forest.{HasKind, vertex_at}
use Rattle.pssm_model.specs.Shapes.{HasShape}
use Rattle.pssm_model.specs.Legs.{Leaves, Enters, IsCut}
use Rattle.pssm_model.specs.Paths.{LeadsOn}
use Rattle.pssm_model.specs.Paths.LeadsOn.{after}
use Rattle.pssm_model.specs.Routes.{Truth, IsTrueAt}
use Rattle.pssm_model.specs.WellFormed.{KeepsModelRules}
use Rattle.pssm_model.proofs.ElementLaws.{kind_at, leaves_one, enters_one, nothing_in_nil}
use Rattle.pssm_model.proofs.RouteLaws.{in_one, is_one}
use Rattle.pssm_model_laws.proofs.Through.{kinds_clash, step_leads, target_there, exit_one_out}
use Rattle.pssm_model_laws.proofs.LegShapes.{cut_no_junction}
use Rattle.pssm_enabled.specs.declared.passing.Points.{Points}
use Rattle.pssm_enabled.specs.Fitting.{IsThrough, PassesBy}
use Rattle.pssm_enabled.specs.inner.Fitting.{IsMarked}
use Rattle.pssm_enabled.specs.Ways.{IsPassedOver, HasWay}
use Rattle.pssm_enabled.specs.inner.Passing.{KnowsWays, IsFoundOnce, IsFurther, found_by}
use Rattle.pssm_enabled.specs.Behind.{CanGoOn, GoesOnFrom}
use Rattle.pssm_enabled.specs.inner.Behind.{GoesOnAtOnce, IsGoingOn, IsFurtherBy}
use Rattle.pssm_enabled.proofs.Fitting.{other_passes}
use Rattle.pssm_enabled.proofs.Choosing.{seen_more, seen_last, seen_cases}
use Rattle.pssm_enabled.proofs.LeadingOn.{passed_through, entry_through}
use Rattle.pssm_enabled.proofs.Trees.{way_good, way_entry, no_join_after, fork_goes_on}
use Rattle.pssm_enabled.proofs.Unguarded.{always_true, fork_true}

-- where nothing is marked nothing is found
sum_of_none : (good : List Bool) → ((n : ℕ) → IsMarked good n → ⊥) → sum_by (λ (b : Bool). cond b 1 0) good ≡ 0
sum_of_none [] none = refl
sum_of_none (true ∷ good) none = absurd (none 0 refl)
sum_of_none (false ∷ good) none = sum_of_none good (λ n. none (suc n))

pub none_found_once : (m : DraftMachine) (points : Points) → points.count ≡ 0 → ((v : VertexId) → IsMarked points.good v.0 → ⊥) → IsFoundOnce m points
none_found_once m points empty none = record {
  marks = λ v. (
    λ is. absurd (none v is),
    λ has. absurd (nothing_in_nil v (subst (λ n. Contains (take n points.found) v) empty has)),
  );
  there = λ v has. absurd (nothing_in_nil v (subst (λ n. Contains (take n points.found) v) empty has));
  counted = empty ∙ sym (sum_of_none points.good (λ n is. none (record { 0 = n }) is));
  room = omega (arith, empty);
  once = λ i j d first second. absurd (omega (arith, first, second, empty));
}

-- the vertex at a place was found, and is there
pub found_here : (m : DraftMachine) (points : Points) (place : ℕ) (d : VertexId) → IsFoundOnce m points → place < points.count
    → length points.found ≡ 4096 → Contains (found_by points) (get_or points.found place d)
found_here m points place d h lt long =
    let room = h.room in
    let whole = length-take-le points.count points.found (omega (arith, room, long)) in
    let inside : place < length points.found = omega (arith, lt, room, long) in
    let w = get_or points.found place d in (
      place,
      omega (arith, lt, whole),
      get_or-take points.count points.found place w lt ∙ get_or_default points.found place w d inside,
    )

pub found_at_there : {m : DraftMachine} {points : Points} (place : ℕ) (d : VertexId) → IsFoundOnce m points → place < points.count
    → length points.found ≡ 4096 → (get_or points.found place d).0 < length m.vertices
found_at_there {m = m} {points = points} place d h lt long = h.there (get_or points.found place d) (found_here m points place d h lt long)

module _ {m : DraftMachine} (rules : KeepsModelRules m) (truth : Truth) (v : VertexId) where
  exit_of : IsPassedOver m v → IsCut m v → HasKind m v kinds.ExitPoint
  exit_of passed cut = ⊎_elim (λ junction. absurd (cut_no_junction m v cut junction)) (λ exit. exit) passed

  -- over a true transition out of a junction or exit point from whose end a way leads on
  pub at_once_over : IsPassedOver m v → (t : TransId) → Leaves m t v → IsTrueAt m truth t → ((w : VertexId) → Enters m t w → HasWay m truth w)
      → GoesOnAtOnce m truth v (t ∷ [])
  at_once_over passed t leaves holds ways =
      let through = passed_through m v passed in
      record {
        leave = λ u inside. (subst (λ x. Leaves m x v) (sym (is_one t u inside)) leaves, through);
        guards = λ u inside. subst (IsTrueAt m truth) (sym (is_one t u inside)) holds;
        ways = λ u w inside enters.
            let into = subst (λ x. Enters m x w) (is_one t u inside) enters in
            (ways w into, no_join_after rules t v w through leaves into);
        passes = record {
          one = λ junction. (t, in_one t, leaves, λ u inside out. is_one t u inside);
          every = λ cut u out. subst (Contains (t ∷ [])) (exit_one_out rules v t u (exit_of passed cut) leaves out) (in_one t);
        };
      }

  -- over all out of a fork or an entry point
  pub at_once_all : HasKind m v kinds.Fork ⊎ HasKind m v kinds.EntryPoint → HasWay m truth v → (ts : List TransId)
      → ((t : TransId) → Contains ts t ↔ Leaves m t v) → GoesOnAtOnce m truth v ts
  at_once_all down way ts lists =
      let through : IsThrough m v = ⊎_elim (λ fork. inr (inl fork)) (λ entry. entry_through m v entry) down in
      record {
        leave = λ t inside. ((lists t).0 inside, through);
        guards = λ t inside. ⊎_elim
            (λ fork. fork_true rules truth t v ((lists t).0 inside) fork)
            (λ entry. always_true rules truth t v ((lists t).0 inside) (inr (inr entry)))
            down;
        ways = λ t w inside enters. ⊎_elim
            (λ fork. fork_goes_on rules truth t v w fork ((lists t).0 inside) enters)
            (λ entry. (way_entry way entry t w ((lists t).0 inside) enters, no_join_after rules t v w through ((lists t).0 inside) enters))
            down;
        passes = record {
          one = λ junction. absurd (⊎_elim
              (λ fork. kinds_clash m v kinds.Junction kinds.Fork (λ e. cc) junction fork)
              (λ entry. kinds_clash m v kinds.Junction kinds.EntryPoint (λ e. cc) junction entry)
              down);
          every = λ cut t leaves. (lists t).1 leaves;
        };
      }

  -- and over none where a route ends
  pub at_once_none : PassesBy m (λ t. ⊥) v → GoesOnAtOnce m truth v []
  at_once_none ends = record {
    leave = λ t inside. absurd (nothing_in_nil t inside);
    guards = λ t inside. absurd (nothing_in_nil t inside);
    ways = λ t w inside enters. absurd (nothing_in_nil t inside);
    passes = record { one = λ junction. absurd ((ends.one junction).1); every = λ cut t leaves. absurd (ends.every cut t leaves) };
  }

  -- a route ends at a vertex of another kind
  pub others_end : (x : Vertex) → vertex_at m v ≡ Some x → (x.kind ≡ kinds.Junction → ⊥) → (x.kind ≡ kinds.ExitPoint → ⊥)
      → (x.kind ≡ kinds.Fork → ⊥) → (x.kind ≡ kinds.EntryPoint → ⊥) → (HasKind m v kinds.Join → ⊥) → PassesBy m (λ t. ⊥) v
  others_end x at junction exit fork entry join =
      other_passes m (λ (t : TransId). ⊥) v
      (λ k. junction ((kind_at m v x kinds.Junction at).0 k))
      (λ cut. ⊎_elim
      (λ k. fork ((kind_at m v x kinds.Fork at).0 k))
      (⊎_elim
      (λ k. join k)
      (⊎_elim (λ k. entry ((kind_at m v x kinds.EntryPoint at).0 k)) (λ k. exit ((kind_at m v x kinds.ExitPoint at).0 k))))
      cut)

  -- so it goes on from there
  pub goes_none : PassesBy m (λ t. ⊥) v → GoesOnFrom m truth v []
  goes_none ends = record {
    come = v ∷ [];
    begins = in_one v;
    guards = λ t inside. absurd (nothing_in_nil t inside);
    leave = λ t inside. absurd (nothing_in_nil t inside);
    ends = λ t w inside enters. absurd (nothing_in_nil t inside);
    entered = λ w inside. inl (is_one v w inside);
    passes = λ w inside. subst (PassesBy m (Contains [])) (sym (is_one v w inside))
        (record { one = λ junction. absurd ((ends.one junction).1); every = λ cut t leaves. absurd (ends.every cut t leaves) });
    led = λ w inside through. inl (sym (is_one v w inside));
  }

  -- one of the transitions out of a junction or exit point leads on
  pub some_leads : HasShape m → (good : List Bool) → KnowsWays m truth good → IsPassedOver m v → HasWay m truth v
      → ((t : TransId) → Leaves m t v → IsTrueAt m truth t × ((w : VertexId) → Enters m t w → IsMarked good w.0) → ⊥) → ⊥
  some_leads shape good known passed way none =
      let found = way_good way passed in
      none found.0 found.1.leaves (
        found.1.holds,
        λ w enters. (known w (target_there shape found.0 w enters)).1 (found.1.ways w enters),
      )

-- the ends of transitions are added one after another
module _ (m : DraftMachine) (old : Points) (ts : List TransId) where
  pub further_none : IsFoundOnce m old → IsFurtherBy m old old (take 0 ts)
  further_none once = record {
    once = once;
    members = λ w. (λ has. inl has, λ h. ⊎_elim (λ has. has) (λ by. absurd (nothing_in_nil by.0 by.1)) h);
    kept = λ n le. refl;
    count = omega arith;
  }

  pub further_more : (n : ℕ) (d : TransId) (mid new : Points) (w : VertexId) → n < length ts → Enters m (get_or ts n d) w → IsFurtherBy m old mid (take n ts)
      → IsFoundOnce m new → IsFurther mid new w → IsFurtherBy m old new (take (n + 1) ts)
  further_more n d mid new w lt enters h once further = record {
    once = once;
    members = λ x. (
      λ has. ⊎_elim
          (λ was. ⊎_elim
          (λ before. inl before)
          (λ by. inr (by.0, seen_more ts n d lt by.0 by.1, by.2))
          ((h.members x).0 ((h.once.marks x).0 was)))
          (λ same. inr (get_or ts n d, seen_last ts n d lt, subst (Enters m (get_or ts n d)) (sym same) enters))
          ((further.marks x).0 ((once.marks x).1 has)),
      λ is. (once.marks x).0 ((further.marks x).1 (⊎_elim
          (λ before. inl ((h.once.marks x).1 ((h.members x).1 (inl before))))
          (λ by. ⊎_elim
          (λ was. inl ((h.once.marks x).1 ((h.members x).1 (inr (by.0, was, by.2)))))
          (λ same. inr (enters_one m (get_or ts n d) x w (subst (λ t. Enters m t x) (sym same) by.2) enters))
          (seen_cases ts n d lt by.0 by.1))
          is)),
    );
    kept = λ k le. (let least = h.count in further.kept k (omega (arith, le, least)) ∙ h.kept k le);
    count = let first = h.count in let second = further.count in omega (arith, first, second);
  }

  pub further_all : (n : ℕ) (new : Points) → length ts ≤ n → IsFurtherBy m old new (take n ts) → IsFurtherBy m old new ts
  further_all n new all h = subst (IsFurtherBy m old new) (take_all n ts all) h

module _ (m : DraftMachine) (truth : Truth) (v : VertexId) where
  -- at first the vertex alone
  pub going_begins : (none come : Points) → ((x : VertexId) → IsMarked none.good x.0 → ⊥) → IsFoundOnce m come → IsFurther none come v → CanGoOn m truth v
      → IsGoingOn m truth v [] come 0
  going_begins none come nothing once further on =
      let alone = λ (w : VertexId) (has : Contains (found_by come) w). ⊎_elim
      (λ was. absurd (nothing w was))
      (λ (same : w ≡ v). same)
      ((further.marks w).0 ((once.marks w).1 has)) in
      record {
        begins = (once.marks v).0 ((further.marks v).1 (inr refl));
        ways = λ w has. subst (CanGoOn m truth) (sym (alone w has)) on;
        guards = λ t inside. absurd (nothing_in_nil t inside);
        leave = λ t inside. absurd (nothing_in_nil t inside);
        ends = λ t w inside enters. absurd (nothing_in_nil t inside);
        entered = λ w has. inl (alone w has);
        passes = λ w inside. absurd (nothing_in_nil w inside);
        led = λ w has through. inl (sym (alone w has));
        reached = omega arith;
      }

  module _ (ts out : List TransId) (come new : Points) (place : ℕ) (d w : VertexId) (h : IsGoingOn m truth v ts come place) (once : IsFoundOnce m come)
      (lt : place < come.count) (room : come.count ≤ length come.found) (at : get_or come.found place d ≡ w) (step : GoesOnAtOnce m truth w out)
      (further : IsFurtherBy m come new out) where
    inside : place < length come.found
    inside = omega (arith, lt, room)

    same_done : take (place + 1) new.found ≡ take (place + 1) come.found
    same_done = further.kept (place + 1) (omega (arith, lt))

    done_more : (x : VertexId) → Contains (take place come.found) x → Contains (take (place + 1) new.found) x
    done_more x has = subst (λ xs. Contains xs x) (sym same_done) (seen_more come.found place d inside x has)

    done_last : Contains (take (place + 1) new.found) w
    done_last = subst (λ xs. Contains xs w) (sym same_done) (subst (Contains (take (place + 1) come.found)) at (seen_last come.found place d inside))

    done_cases : (x : VertexId) → Contains (take (place + 1) new.found) x → Contains (take place come.found) x ⊎ (w ≡ x)
    done_cases x has =
        ⊎_elim
        (λ was. inl was)
        (λ same. inr (sym at ∙ same))
        (seen_cases come.found place d inside x (subst (λ xs. Contains xs x) same_done has))

    -- the vertex at the place is found, and is none of those before
    w_found : Contains (found_by come) w
    w_found = (
      place,
      (let whole = length-take-le come.count come.found room in omega (arith, lt, whole)),
      get_or-take come.count come.found place w lt ∙ get_or_default come.found place w d inside ∙ at,
    )

    w_new : Contains (take place come.found) w → ⊥
    w_new has =
        let long = length-take-le place come.found (omega (arith, inside)) in
        let below = has.1 in
        let less : has.0 < place = omega (arith, below, long) in
        let within : has.0 < length come.found = omega (arith, less, inside) in
        let before : get_or come.found has.0 d ≡ w =
        get_or_default come.found has.0 d w within ∙ sym (get_or-take place come.found has.0 w less) ∙ has.2 in
        once.once has.0 place d less lt (before ∙ sym at)

    old_on : (x : VertexId) → Contains (take place come.found) x → PassesBy m (Contains (ts ++ out)) x
    old_on x has =
        let by = h.passes x has in
        record {
          one = λ junction.
              let one = by.one junction in (
                one.0,
                Contains-append_left ts out one.0 one.1,
                one.2,
                λ u either leaves. ⊎_elim
                    (λ was. one.3 u was leaves)
                    (λ new_one. absurd (w_new (subst (Contains (take place come.found))
                    (leaves_one m u x w leaves (step.leave u new_one).0) has)))
                    (Contains-append_cases ts out u either),
              );
          every = λ cut u leaves. Contains-append_left ts out u (by.every cut u leaves);
        }

    new_on : PassesBy m (Contains (ts ++ out)) w
    new_on = record {
      one = λ junction.
          let one = step.passes.one junction in (
            one.0,
            Contains-append_right ts out one.0 one.1,
            one.2,
            λ u either leaves. ⊎_elim
                (λ was.
                let from = h.leave u was in
                absurd (w_new (subst (Contains (take place come.found)) (leaves_one m u from.0 w from.2 leaves) from.1)))
                (λ new_one. one.3 u new_one leaves)
                (Contains-append_cases ts out u either),
          );
      every = λ cut u leaves. Contains-append_right ts out u (step.passes.every cut u leaves);
    }

    -- where the way on leads
    onward_led : (x : VertexId) (t : TransId) → Contains out t → Enters m t x → IsThrough m x → (v ≡ x) ⊎ (IsThrough m v × LeadsOn m v x)
    onward_led x t among enters second =
        let from = step.leave t among in
        let go = step_leads m w x t from.1 second from.0 enters in
        ⊎_elim
        (λ same. inr (subst (IsThrough m) (sym same) from.1, subst (λ y. LeadsOn m y x) (sym same) go))
        (λ led. inr (led.0, after led.1 go))
        (h.led w w_found from.1)

    pub going_more : IsGoingOn m truth v (ts ++ out) new (place + 1)
    going_more = record {
      begins = (further.members v).1 (inl h.begins);
      ways = λ x has. ⊎_elim (λ was. h.ways x was) (λ by. step.ways by.0 x by.1 by.2) ((further.members x).0 has);
      guards = λ t either. ⊎_elim (h.guards t) (step.guards t) (Contains-append_cases ts out t either);
      leave = λ t either. ⊎_elim
          (λ was. let from = h.leave t was in (from.0, done_more from.0 from.1, from.2, from.3))
          (λ new_one. let from = step.leave t new_one in (w, done_last, from.0, from.1))
          (Contains-append_cases ts out t either);
      ends = λ t x either enters. (further.members x).1 (⊎_elim
          (λ was. inl (h.ends t x was enters))
          (λ new_one. inr (t, new_one, enters))
          (Contains-append_cases ts out t either));
      entered = λ x has. ⊎_elim
          (λ was. ⊎_elim
          (λ same. inl same)
          (λ by. inr (by.0, Contains-append_left ts out by.0 by.1, by.2))
          (h.entered x was))
          (λ by. inr (by.0, Contains-append_right ts out by.0 by.1, by.2))
          ((further.members x).0 has);
      passes = λ x has. ⊎_elim
          (λ was. old_on x was)
          (λ same. subst (PassesBy m (Contains (ts ++ out))) same new_on)
          (done_cases x has);
      led = λ x has through. ⊎_elim
          (λ was. h.led x was through)
          (λ by. onward_led x by.0 by.1 by.2 through)
          ((further.members x).0 has);
      reached = let most = further.count in omega (arith, lt, most);
    }

  -- at the end it goes on from all
  pub going_ends : (ts : List TransId) (come : Points) (place : ℕ) → come.count ≤ place → IsGoingOn m truth v ts come place → GoesOnFrom m truth v ts
  going_ends ts come place all h =
      let least = h.reached in
      let same : place ≡ come.count = omega (arith, all, least) in
      record {
        come = found_by come;
        begins = h.begins;
        guards = h.guards;
        leave = λ t inside. (let from = h.leave t inside in
            (from.0, subst (λ n. Contains (take n come.found) from.0) same from.1, from.2, from.3));
        ends = h.ends;
        entered = h.entered;
        passes = λ x has. h.passes x (subst (λ n. Contains (take n come.found) x) (sym same) has);
        led = h.led;
      }
