-- Transitions that fit together make a route: one to which it did not come would stand on a cycle of pseudostates.
use Rattle.std.proofs.Common.{◌≡◌, ◌∙◌, ◌+◌, ◌≤◌, ◌<◌, ◌↔◌, ℕ, zero, suc, List, [], ◌∷◌, ◌++◌, length, Bool, false, All, Contains, IsTrue, sym, subst, inl, inr, ⊎_elim, arith, eqb}
use Rattle.std.specs.List.{list_any, IsDistinct}
use Rattle.std.proofs.lemmas.Bool.{eqb-true, eqb-false, cases_Bool}
use Rattle.std.proofs.lemmas.Cmp.{nat_eq_equiv}
use Rattle.std.proofs.lemmas.List.{length_push}
use Rattle.std.proofs.lemmas.List.Elements.{Contains-push_cases, All-contains}
use Rattle.std.proofs.lemmas.Map.Keys.{IsDistinct-push}
use Rattle.std.proofs.lemmas.Map.Steps.{length-le_from_distinct_below}
use Rattle.std.proofs.lemmas.Map.Views.{Contains-from_any}
use Rattle.pssm_model.specs.declared.ids.VertexId.{VertexId}
use Rattle.pssm_model.specs.declared.ids.TransId.{TransId}
use Rattle.pssm_model.specs.declared.elements.DraftMachine.{DraftMachine}
use Rattle.pssm_model.specs.declared.elements.VertexKind.{VertexKind}
use Rattle.pssm_model.specs.declared.elements.VertexKind.TheVariants as kinds
use Rattle.pssm_model.specs.declared.elements.Element.TheVariants as elements
use Rattle.pssm_model.specs.declared.elements.FaultPlace.TheVariants as places
use Rattle.pssm_model.specs.declared.steps.Route.{Route}
use Rattle.pssm_model.specs.Forest.{HasKind}
use Rattle.pssm_model.specs.Shapes.{HasShape}
use Rattle.pssm_model.specs.Legs.{Leaves, Enters, On, IsCut, transitions_of}
use Rattle.pssm_model.specs.Paths.{LeadsOn}
use Rattle.pssm_model.specs.Paths.LeadsOn.{after}
use Rattle.pssm_model.specs.Routes.{IsAscending, IsReached, IsRoute, HasStarts, EndsAt, GoesOnAt}
use Rattle.pssm_model.specs.Routes.IsReached.{start as begins, on as goes}
use Rattle.pssm_model.specs.WellFormed.{KeepsModelRules}
use Rattle.pssm_model.specs.WellFormed.Breaks.{E05}
use Rattle.pssm_model.proofs.ElementLaws.{same_vertex, leaves_one, enters_one, nothing_in_nil}
use Rattle.pssm_model_laws.proofs.Through.{IsThroughKind, kinds_clash, not_through, step_leads, source_there, no_cycle}
use Rattle.pssm_model_laws.proofs.RouteOrder.{of_start, of_rest, start_or_rest, before_rest, rest_leaves_through}
use Rattle.pssm_model_laws.proofs.StateRoutes.{leaves_some}
use Rattle.pssm_model.proofs.RouteLaws.{in_one}
use Rattle.pssm_enabled.proofs.Marks.{empty_is}
use Rattle.pssm_enabled.proofs.SameOrder.{ascending_same}
use Rattle.pssm_enabled.proofs.Members.{all_of_members, transitions_told}
use Rattle.pssm_enabled.specs.Fitting.{route_with, PassesBy, StartsOutside, HasOneBy, HasEveryBy, AreInOrder}
use Rattle.pssm_enabled.specs.inner.Fitting.{FitsTogether, EndsAlone, IsOrUnmarked, CanStart, AreInto, IsMarked, IsMarkedTransition, AreSet, HasDeadEnd, AreComeTo, LeavesMarked}

-- different numbers of vertices that come later
record IsAhead (m : DraftMachine) (v : VertexId) (ns : List ℕ) : Type 0 where
  pub distinct : IsDistinct eqb ns
  pub led : (n : ℕ) → Contains ns n → (w : VertexId) × (w.0 ≡ n) × (w.0 < length m.vertices) × LeadsOn m v w

module _ {m : DraftMachine} (rules : KeepsModelRules m) where
  ahead_none : (v : VertexId) → IsAhead m v []
  unfolding IsDistinct
  ahead_none v = record { distinct = tt; led = λ n inside. absurd (nothing_in_nil n inside) }

  not_ahead : (v : VertexId) (ns : List ℕ) → IsAhead m v ns → Contains ns v.0 → ⊥
  not_ahead v ns h inside =
      let at = h.led v.0 inside in no_cycle rules v (subst (LeadsOn m v) (same_vertex at.0 v at.1) at.3)

  distinct_with : (v : VertexId) (ns : List ℕ) → IsAhead m v ns → IsDistinct eqb (ns ++ v.0 ∷ [])
  distinct_with v ns h =
      IsDistinct-push nat_eq_equiv ns v.0 h.distinct
      (⊎_elim (λ there. absurd (not_ahead v ns h (Contains-from_any eqb-true v.0 ns there))) (λ none. none) (cases_Bool (list_any (eqb v.0) ns)))

  below_with : (v : VertexId) (ns : List ℕ) → v.0 < length m.vertices → IsAhead m v ns → (n : ℕ) → Contains (ns ++ v.0 ∷ []) n → n < length m.vertices
  below_with v ns there h n inside =
      ⊎_elim
      (λ before. (let at = h.led n before in subst (λ k. k < length m.vertices) at.1 at.2))
      (λ same. subst (λ k. k < length m.vertices) same there)
      (Contains-push_cases ns v.0 n inside)

  few_ahead : (v : VertexId) (ns : List ℕ) → v.0 < length m.vertices → IsAhead m v ns → length ns < length m.vertices
  few_ahead v ns there h =
      let few = length-le_from_distinct_below (ns ++ v.0 ∷ []) (length m.vertices) (distinct_with v ns h)
      (λ q found. below_with v ns there h q (Contains-from_any eqb-true q (ns ++ v.0 ∷ []) found)) in
      let long = length_push ns v.0 in omega arith

  ahead_more : (v w : VertexId) (ns : List ℕ) → v.0 < length m.vertices → LeadsOn m w v → IsAhead m v ns → IsAhead m w (ns ++ v.0 ∷ [])
  ahead_more v w ns there step h = record {
    distinct = distinct_with v ns h;
    led = λ n inside. ⊎_elim
        (λ before. (let at = h.led n before in (at.0, at.1, at.2, after step at.3)))
        (λ same. (v, same, there, step))
        (Contains-push_cases ns v.0 n inside);
  }

module _ {m : DraftMachine} (shape : HasShape m) (rules : KeepsModelRules m) (p : Route) where
  module _ (range : All (λ t. t.0 < length m.transitions) (transitions_of p)) (fits : FitsTogether m p) where
    first_end : (u : TransId) → Contains p.rest u → (w : VertexId) × Leaves m u w
    first_end u further =
        leaves_some m u (All-contains (λ t. t.0 < length m.transitions) (transitions_of p) u range (of_rest m p u further))

    -- what leaves a vertex is reached, with no more vertices left than there are
    reached_from : (fuel : ℕ) (v : VertexId) (ns : List ℕ) → IsAhead m v ns → length m.vertices ≤ fuel + length ns
        → (t : TransId) → Contains p.rest t → Leaves m t v → IsReached m p t
    reached_from zero v ns h room t inside leaves =
        let few = few_ahead rules v ns (source_there shape t v leaves) h in absurd (omega arith)
    reached_from (suc fuel) v ns h room t inside leaves =
        let from = fits.leave t v inside leaves in
        goes
        (⊎_elim
        (λ start. begins start)
        (λ further.
        let out = first_end from.1.0 further in
        let behind = fits.leave from.1.0 out.0 further out.1 in
        reached_from fuel out.0 (ns ++ v.0 ∷ [])
        (ahead_more rules v out.0 ns (source_there shape t v leaves) (step_leads m out.0 v from.1.0 behind.0 from.0 out.1 from.1.2) h)
        (let long = length_push ns v.0 in omega arith) from.1.0 further out.1)
        (start_or_rest m p from.1.0 from.1.1))
        from.1.2 leaves inside

    all_reached : (t : TransId) → On p t → IsReached m p t
    all_reached t is =
        ⊎_elim
        (λ start. begins start)
        (λ further. (let out = first_end t further in reached_from (length m.vertices) out.0 [] (ahead_none rules out.0) (omega arith) t further out.1))
        (start_or_rest m p t is)

    -- where no route goes on, this one ends
    ends_at : (v : VertexId) (k : VertexKind) → (IsThroughKind k → ⊥) → HasKind m v k → EndsAt m p v
    ends_at v k other kind t inside leaves = not_through m v k other kind (fits.leave t v inside leaves).0

    all_go_on : (t : TransId) (v : VertexId) (k : VertexKind) → On p t → Enters m t v → HasKind m v k → GoesOnAt m p v k
    all_go_on t v kinds.Junction is enters kind = (fits.passes t v is enters).one kind
    all_go_on t v kinds.Fork is enters kind = (fits.passes t v is enters).every (inl kind)
    all_go_on t v kinds.Join is enters kind = (fits.passes t v is enters).every (inr (inl kind))
    all_go_on t v kinds.EntryPoint is enters kind = (fits.passes t v is enters).every (inr (inr (inl kind)))
    all_go_on t v kinds.ExitPoint is enters kind = (fits.passes t v is enters).every (inr (inr (inr kind)))
    all_go_on t v kinds.State is enters kind = ends_at v kinds.State (λ none. none) kind
    all_go_on t v kinds.Final is enters kind = ends_at v kinds.Final (λ none. none) kind
    all_go_on t v kinds.Initial is enters kind = ends_at v kinds.Initial (λ none. none) kind
    all_go_on t v kinds.DeepHistory is enters kind = ends_at v kinds.DeepHistory (λ none. none) kind
    all_go_on t v kinds.ShallowHistory is enters kind = ends_at v kinds.ShallowHistory (λ none. none) kind
    all_go_on t v kinds.Choice is enters kind = ends_at v kinds.Choice (λ none. none) kind
    all_go_on t v kinds.Terminate is enters kind = ends_at v kinds.Terminate (λ none. none) kind

    pub fits_is_route : HasStarts m p → IsAscending p.starts → IsAscending p.rest → StartsOutside m p.starts → IsRoute m p
    fits_is_route starts first second outside = record {
      in_range = range;
      starts = starts;
      ascending = (first, second);
      apart = λ t begun inside. (let out = first_end t inside in outside t out.0 begun out.1 (fits.leave t out.0 inside out.1).0);
      reached = all_reached;
      goes_on = all_go_on;
    }

  -- the transitions of a route fit together
  pub route_fits : IsRoute m p → FitsTogether m p
  route_fits route = record {
    leave = λ t v inside leaves. (
      rest_leaves_through shape rules p route t v inside leaves,
      (let before = before_rest shape rules p route t inside in
          let step = before.1 in
          (before.0, step.first, subst (Enters m before.0) (leaves_one m t step.at v step.leaves leaves) step.enters)),
    );
    passes = λ t v is enters. record {
      one = λ kind. route.goes_on t v kinds.Junction is enters kind;
      every = λ cut. ⊎_elim
          (λ kind. route.goes_on t v kinds.Fork is enters kind)
          (⊎_elim
          (λ kind. route.goes_on t v kinds.Join is enters kind)
          (⊎_elim (λ kind. route.goes_on t v kinds.EntryPoint is enters kind) (λ kind. route.goes_on t v kinds.ExitPoint is enters kind)))
          cut;
    };
  }

-- to pass by these or by the same others
module _ (m : DraftMachine) (These Those : TransId → Type 0) (same : (t : TransId) → These t ↔ Those t) (v : VertexId) where
  pub passes_same : PassesBy m These v → PassesBy m Those v
  passes_same h = record {
    one = λ kind. (
        let (t, is, leaves, only) = h.one kind in
        (t, (same t).0 is, leaves, λ u that out. only u ((same u).1 that) out)
        );
    every = λ cut t leaves. (same t).0 (h.every cut t leaves);
  }

-- the transitions that are marked, and the vertices
module _ (m : DraftMachine) (on : List Bool) (starts rest : List TransId)
    (marked : (t : TransId) → IsMarkedTransition on t ↔ On (route_with starts rest) t) where
  back : (t : TransId) → On (route_with starts rest) t ↔ IsMarkedTransition on t
  back t = ((marked t).1, (marked t).0)

  pub dead_fits_not : (ts : List TransId) → ((t : TransId) → Contains ts t → On (route_with starts rest) t) → HasDeadEnd m on ts
      → FitsTogether m (route_with starts rest) → ⊥
  dead_fits_not ts inside (t, v, among, enters, dead) fits =
      dead (passes_same m (On (route_with starts rest)) (IsMarkedTransition on) back v (fits.passes t v (inside t among) enters))

  module _ (none begun seen : List Bool) (unseen : (n : ℕ) → IsMarked none n → ⊥) (come : AreComeTo m on none begun starts)
      (come_on : AreComeTo m on begun seen rest) where
    -- the vertices on which one ends are marked
    pub seen_is : (v : VertexId) → IsMarked seen v.0 ↔ ((t : TransId) × On (route_with starts rest) t × Enters m t v)
    seen_is v = (
      λ h. ⊎_elim
          (λ before. ⊎_elim
          (λ never. absurd (unseen v.0 never))
          (λ by. (by.0, of_start m (route_with starts rest) by.0 by.1, by.2))
          ((come.marks v).0 before))
          (λ by. (by.0, of_rest m (route_with starts rest) by.0 by.1, by.2))
          ((come_on.marks v).0 h),
      λ h. ⊎_elim
          (λ start. (come_on.marks v).1 (inl ((come.marks v).1 (inr (h.0, start, h.2)))))
          (λ further. (come_on.marks v).1 (inr (h.0, further, h.2)))
          (start_or_rest m (route_with starts rest) h.0 h.1),
    )

    seen_passes : (v : VertexId) → IsMarked seen v.0 → PassesBy m (IsMarkedTransition on) v
    seen_passes v h =
        ⊎_elim
        (λ before. ⊎_elim (λ never. absurd (unseen v.0 never)) (λ passes. passes) (come.passes v before))
        (λ passes. passes)
        (come_on.passes v h)

    pub seen_fits : ((t : TransId) → Contains rest t → LeavesMarked m seen t) ↔ FitsTogether m (route_with starts rest)
    seen_fits = (
      λ leave. record {
        leave = λ t v inside leaves. (let at = leave t inside v leaves in (at.0, (seen_is v).0 at.1));
        passes = λ t v is enters.
            passes_same m (IsMarkedTransition on) (On (route_with starts rest)) marked v (seen_passes v ((seen_is v).1 (t, is, enters)));
      },
      λ fits t inside v leaves. (let at = fits.leave t v inside leaves in (at.0, (seen_is v).1 at.1)),
    )

-- the marks of a route: those of its starts alone, and those of the other transitions as well
pub starts_marked : (none on : List Bool) (starts : List TransId) → ((n : ℕ) → IsMarked none n → ⊥) → AreSet none on starts
    → (t : TransId) → IsMarkedTransition on t ↔ Contains starts t
starts_marked none on starts unmarked set t = (
  λ h. ⊎_elim (λ never. absurd (unmarked t.0 never)) (λ start. start) ((set t).0 h),
  λ start. (set t).1 (inr start),
)

pub route_marked : (m : DraftMachine) (begun on : List Bool) (starts rest : List TransId) → ((t : TransId) → IsMarkedTransition begun t ↔ Contains starts t)
    → AreSet begun on rest → (t : TransId) → IsMarkedTransition on t ↔ On (route_with starts rest) t
route_marked m begun on starts rest before more t = (
  λ h. ⊎_elim
      (λ old. of_start m (route_with starts rest) t ((before t).0 old))
      (λ further. of_rest m (route_with starts rest) t further)
      ((more t).0 h),
  λ h. ⊎_elim
      (λ start. (more t).1 (inl ((before t).1 start)))
      (λ further. (more t).1 (inr further))
      (start_or_rest m (route_with starts rest) t h),
)

-- starts alone
module _ (m : DraftMachine) (starts : List TransId) (outside : StartsOutside m starts) where
  alone_on : (t : TransId) → On (route_with starts []) t → Contains starts t
  alone_on t h = ⊎_elim (λ start. start) (λ further. absurd (nothing_in_nil t further)) (start_or_rest m (route_with starts []) t h)

  pub alone_fits : ((t : TransId) → Contains starts t → EndsAlone m t) ↔ FitsTogether m (route_with starts [])
  alone_fits = (
    λ h. record {
      leave = λ u v inside leaves. absurd (nothing_in_nil u inside);
      passes = λ u v is enters. (
          let end = h u (alone_on u is) v enters in
          record { one = λ kind. absurd ((end.one kind).1); every = λ cut w leaves. absurd (end.every cut w leaves) }
          );
    },
    λ fits t inside v enters.
        let at = fits.passes t v (of_start m (route_with starts []) t inside) enters in
        record {
          one = λ kind. absurd (let one = at.one kind in outside one.0 v (alone_on one.0 one.1) one.2 (inl kind));
          every = λ cut u leaves. outside u v (alone_on u (at.every cut u leaves)) leaves (inr cut);
        },
  )

-- what a junction and what the other vertices ask
module _ (m : DraftMachine) (These : TransId → Type 0) (v : VertexId) where
  junction_not_cut : HasKind m v kinds.Junction → IsCut m v → ⊥
  junction_not_cut kind cut =
      ⊎_elim
      (λ is. kinds_clash m v kinds.Junction kinds.Fork (λ e. cc) kind is)
      (⊎_elim
      (λ is. kinds_clash m v kinds.Junction kinds.Join (λ e. cc) kind is)
      (⊎_elim
      (λ is. kinds_clash m v kinds.Junction kinds.EntryPoint (λ e. cc) kind is)
      (λ is. kinds_clash m v kinds.Junction kinds.ExitPoint (λ e. cc) kind is)))
      cut

  pub junction_passes : HasKind m v kinds.Junction → HasOneBy m These v ↔ PassesBy m These v
  junction_passes kind = (λ h. record { one = λ is. h; every = λ cut. absurd (junction_not_cut kind cut) }, λ h. h.one kind)

  pub cut_passes : IsCut m v → HasEveryBy m These v ↔ PassesBy m These v
  cut_passes cut = (λ h. record { one = λ kind. absurd (junction_not_cut kind cut); every = λ is. h }, λ h. h.every cut)

  pub other_passes : (HasKind m v kinds.Junction → ⊥) → (IsCut m v → ⊥) → PassesBy m These v
  other_passes junction cut = record { one = λ kind. absurd (junction kind); every = λ is. absurd (cut is) }

-- the transitions of a route are there
module _ (m : DraftMachine) (starts rest : List TransId) where
  pub all_there : All (λ t. t.0 < length m.transitions) starts → All (λ t. t.0 < length m.transitions) rest
      → All (λ t. t.0 < length m.transitions) (starts ++ rest)
  all_there first further =
      all_of_members (λ (t : TransId). t.0 < length m.transitions) (starts ++ rest) (λ t is. ⊎_elim
      (All-contains (λ (u : TransId). u.0 < length m.transitions) starts t first)
      (All-contains (λ (u : TransId). u.0 < length m.transitions) rest t further)
      (start_or_rest m (route_with starts rest) t is))

  module _ (route : IsRoute m (route_with starts rest)) where
    on_there : (t : TransId) → On (route_with starts rest) t → t.0 < length m.transitions
    on_there t is = All-contains (λ (u : TransId). u.0 < length m.transitions) (starts ++ rest) t route.in_range is

    pub starts_order : AreInOrder m starts
    starts_order = (
      route.ascending.0,
      all_of_members (λ (t : TransId). t.0 < length m.transitions) starts (λ t is. on_there t (of_start m (route_with starts rest) t is)),
    )

    pub rest_order : AreInOrder m rest
    rest_order = (
      route.ascending.1,
      all_of_members (λ (t : TransId). t.0 < length m.transitions) rest (λ t is. on_there t (of_rest m (route_with starts rest) t is)),
    )

-- the only marked transition out of a vertex
pub one_is : (m : DraftMachine) (on : List Bool) (v : VertexId) (t : TransId) → IsMarkedTransition on t → Leaves m t v
    → ((u : TransId) → Leaves m u v → IsOrUnmarked on t u) ↔ HasOneBy m (IsMarkedTransition on) v
one_is m on v t is leaves = (
  λ only. (t, is, leaves, λ u marked out. ⊎_elim (λ same. same) (λ fails. absurd (fails marked)) (only u out)),
  λ h u out. ⊎_elim
      (λ same. inl same)
      (λ other. inr (λ marked. other (h.3 u marked out ∙ sym (h.3 t is leaves))))
      (transitions_told u t),
)

-- all transitions into the join on which one of them ends
pub into_here : (m : DraftMachine) (starts items : List TransId) (v : VertexId) (first : TransId) → Contains starts first → Enters m first v
    → HasKind m v kinds.Join → ((t : TransId) → Contains items t ↔ Enters m t v) → IsAscending starts → IsAscending items → (starts ≡ items) ↔ AreInto m starts
into_here m starts items v first inside enters kind listed up order = (
  λ same. (
    v,
    kind,
    λ t is. (listed t).0 (subst (λ ts. Contains ts t) same is),
    λ t into. subst (λ ts. Contains ts t) (sym same) ((listed t).1 into),
  ),
  λ h. (
      let here = enters_one m first h.0 v (h.2 first inside) enters in
      ascending_same starts items up order
      (λ t is. (listed t).1 (subst (Enters m t) here (h.2 t is)))
      (λ t is. h.3 t (subst (Enters m t) (sym here) ((listed t).0 is)))
      ),
)

-- where nothing is among the starts, no route starts: a join has transitions in
pub nothing_starts : {m : DraftMachine} (rules : KeepsModelRules m) (starts : List TransId) (b : Bool) → b ≡ eqb (length starts) 0 → IsTrue b
    → CanStart m starts → ⊥
nothing_starts {m = m} rules starts b e holds h =
    let none = (empty_is starts b e).0 holds in
    ⊎_elim
    (λ single. none single.0 (subst (λ ts. Contains ts single.0) (sym single.1) (in_one single.0)))
    (λ all. rules (places.At (elements.Vertex all.0)) 5 (E05 (all.1, inl (λ two. none two.0 (all.3 two.0 two.3)))))
    h

pub some_there : {X : Type 0} (xs : List X) (b : Bool) → b ≡ eqb (length xs) 0 → b ≡ false → 0 < length xs
some_there xs b e fails = let differs = eqb-false (length xs) 0 (sym e ∙ fails) in omega (arith, differs)

-- what is so of the starts and of the others is so of all
pub all_on : (m : DraftMachine) (P : TransId → Type 0) (starts rest : List TransId)
    → (((t : TransId) → Contains starts t → P t) × ((t : TransId) → Contains rest t → P t)) ↔ ((t : TransId) → On (route_with starts rest) t → P t)
all_on m P starts rest = (
  λ h t is. ⊎_elim (λ start. h.0 t start) (λ further. h.1 t further) (start_or_rest m (route_with starts rest) t is),
  λ h. (
    λ t inside. h t (of_start m (route_with starts rest) t inside),
    λ t inside. h t (of_rest m (route_with starts rest) t inside),
  ),
)
