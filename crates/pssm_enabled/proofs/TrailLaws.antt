-- Trails: each step has one, it takes no step twice, and what a walk back over it has met.
use Rattle.std.proofs.Common.{◌≡◌, ◌≢◌, ◌⊎◌, ◌↔◌, ◌+◌, ◌≤◌, ◌<◌, ℕ, List, [], ◌∷◌, ◌++◌, length, Bool, true, false, not, Option, Some, None, slice_get, Contains, refl, sym, ap, subst, ◌∙◌, inl, inr, ⊎_elim, arith, eqb}
use Rattle.std.specs.List.{list_any, IsDistinct}
use Rattle.std.proofs.lemmas.Bool.{eqb-true, cases_Bool}
use Rattle.std.proofs.lemmas.Bool.Decides.{nat_tests}
use Rattle.std.proofs.lemmas.Cmp.{nat_eq_equiv}
use Rattle.std.proofs.lemmas.List.{length_push}
use Rattle.std.proofs.lemmas.List.Elements.{Contains-push, Contains-push_cases, Contains-append_left, Contains-append_right, Contains-append_cases}
use Rattle.std.proofs.lemmas.Map.Keys.{IsDistinct-push}
use Rattle.std.proofs.lemmas.Map.Steps.{length-le_from_distinct_below}
use Rattle.std.proofs.lemmas.Map.Views.{Contains-from_any}
use Rattle.std.proofs.lemmas.Option.{slice_get_within}
use Rattle.pssm_model.specs.declared.ids.TransId.{TransId}
use Rattle.pssm_model.proofs.ElementLaws.{same_transition, nothing_in_nil}
use Rattle.pssm_enabled.specs.declared.seeking.Step.{Step}
use Rattle.pssm_model.specs.declared.ids.VertexId.{VertexId}
use Rattle.pssm_model.specs.declared.elements.DraftMachine.{DraftMachine}
use Rattle.pssm_model.specs.Legs.{Leaves, Enters}
use Rattle.pssm_model.specs.Routes.{Truth, IsAscending}
use Rattle.pssm_enabled.specs.Fitting.{IsThrough}
use Rattle.pssm_enabled.specs.Starts.{AreStartsWith}
use Rattle.pssm_enabled.specs.Behind.{GoesOnFrom, IsRouteBehind}
use Rattle.pssm_enabled.specs.Steps.{IsTrail}
use Rattle.pssm_enabled.specs.Steps.IsTrail.{first, further}
use Rattle.pssm_enabled.specs.inner.Trails.{step_before}

-- the trail of a step that may be there
abbrev pub IsRest : List Step → Option Step → List TransId → Type 0
IsRest steps None rest = rest ≡ []
IsRest steps (Some step) rest = IsTrail steps step rest

module _ {steps : List Step} where
  -- a trail is that of the step before, and the step's own transition
  pub trail_split : {step : Step} {path : List TransId} → IsTrail steps step path
      → (rest : List TransId) × IsRest steps (step_before steps step) rest × (path ≡ rest ++ step.by ∷ [])
  trail_split (first t) = ([], refl, refl)
  trail_split (further {path = path} u at before) = (path, subst (λ o. IsRest steps o path) (sym at) before, refl)

  pub trail_unique : {step : Step} {p q : List TransId} → IsTrail steps step p → IsTrail steps step q → p ≡ q
  trail_unique {q = q} (first t) h = let split = trail_split h in sym (split.2 ∙ ap (λ rest. rest ++ t ∷ []) split.1)
  trail_unique {q = q} (further {k = k} {step = step} {path = path} u at before) h =
      let split = trail_split h in
      let earlier : IsTrail steps step split.0 = subst (λ o. IsRest steps o split.0) at split.1 in
      ap (λ rest. rest ++ u ∷ []) (trail_unique before earlier) ∙ sym split.2

differ : not true ≡ true → ⊥
differ e = cc

untold : (r : Bool) → not r ≡ false → r ≡ true
untold true e = refl
untold false e = sym e

never : {n : ℕ} → n < n → ⊥
never less = omega arith

-- the place of a step with a shorter trail
abbrev IsShorter : List Step → ℕ → ℕ → Type 0
IsShorter steps n k = (step : Step) × (path : List TransId) × (slice_get steps k ≡ Some step) × IsTrail steps step path × (length path < n)

-- different places, whose trails are shorter
record HasPlaces (steps : List Step) (n : ℕ) (ks : List ℕ) : Type 0 where
  pub count : length ks + 1 ≡ n
  pub distinct : IsDistinct eqb ks
  pub shorter : (k : ℕ) → Contains ks k → IsShorter steps n k

module _ {steps : List Step} where
  no_places : HasPlaces steps 1 []
  unfolding IsDistinct
  no_places = record { count = refl; distinct = tt; shorter = λ k inside. absurd (nothing_in_nil k inside) }

  more_places : (path : List TransId) (k : ℕ) (step : Step) (u : TransId) (ks : List ℕ) → slice_get steps k ≡ Some step → IsTrail steps step path
      → HasPlaces steps (length path) ks → HasPlaces steps (length (path ++ u ∷ [])) (ks ++ k ∷ [])
  more_places path k step u ks at trail h =
      let long = length_push path u in
      let wide = length_push ks k in
      let one = h.count in
      let new = λ (inside : Contains ks k). (
      let old = h.shorter k inside in
      let same : old.0 ≡ step = cc in
      let paths : old.1 ≡ path = trail_unique (subst (λ s. IsTrail steps s old.1) same old.3) trail in
      let less : length path < length path = subst (λ p. length p < length path) paths old.4 in
      never less
      ) in
      record {
        count = omega arith;
        distinct = IsDistinct-push nat_eq_equiv ks k h.distinct
            (⊎_elim (λ there. absurd (new (Contains-from_any eqb-true k ks there))) (λ none. none) (cases_Bool (list_any (eqb k) ks)));
        shorter = λ j inside. ⊎_elim
            (λ before. (let old = h.shorter j before in let less = old.4 in (old.0, old.1, old.2, old.3, omega arith)))
            (λ same. (step, path, subst (λ i. slice_get steps i ≡ Some step) same at, trail, omega arith))
            (Contains-push_cases ks k j inside);
      }

  trail_places : {step : Step} {path : List TransId} → IsTrail steps step path → (ks : List ℕ) × HasPlaces steps (length path) ks
  trail_places (first t) = ([], no_places)
  trail_places (further {k = k} {step = step} {path = path} u at before) =
      let earlier = trail_places before in
      (earlier.0 ++ k ∷ [], more_places path k step u earlier.0 at before earlier.1)

  -- so a trail has at most one transition more than there are steps
  pub trail_length : {step : Step} {path : List TransId} → IsTrail steps step path → length path ≤ length steps + 1
  trail_length {path = path} trail =
      let places = trail_places trail in
      let few = length-le_from_distinct_below places.0 (length steps) places.1.distinct
      (λ q found. (
      let at = places.1.shorter q (Contains-from_any eqb-true q places.0 found) in slice_get_within steps q at.0 at.2
      )) in
      let count = places.1.count in omega arith

-- what a walk back over a trail has met after so many turns, but for the start
pub record IsTraced (steps : List Step) (start : TransId) (path found : List TransId) (next : Option Step) (turns : ℕ) : Type 0 where
  pub rest : List TransId
  pub left : IsRest steps next rest
  pub short : length rest + turns ≤ length steps + 1
  pub later : (u : TransId) → Contains path u → u ≢ start → Contains rest u ⊎ Contains found u
  pub taken : (u : TransId) → Contains found u → Contains path u × (u ≢ start)
  pub inside : (u : TransId) → Contains rest u → Contains path u

abbrev pub IsTracedTo : List Step → TransId → Step → List TransId → Option Step → ℕ → Type 0
IsTracedTo steps start last found next turns = (path : List TransId) → IsTrail steps last path → IsTraced steps start path found next turns

module _ (steps : List Step) (start : TransId) (last : Step) where
  pub traced_at_start : IsTracedTo steps start last [] (Some last) 0
  traced_at_start path trail = record {
    rest = path;
    left = trail;
    short = let few = trail_length trail in omega arith;
    later = λ u there other. inl there;
    taken = λ u there. absurd (nothing_in_nil u there);
    inside = λ u there. there;
  }

  -- the walk meets the start
  pub traced_start : (found : List TransId) (step : Step) (turns : ℕ) → step.by ≡ start → IsTracedTo steps start last found (Some step) turns
      → IsTracedTo steps start last found (step_before steps step) (turns + 1)
  traced_start found step turns is h path trail =
      let was = h path trail in
      let split = trail_split was.left in
      let long = length_push split.0 step.by in
      let same = ap (λ ts. length ts) split.2 in
      let short = was.short in
      record {
        rest = split.0;
        left = split.1;
        short = omega arith;
        later = λ u there other. ⊎_elim
            (λ ahead. ⊎_elim
            (λ further. inl further)
            (λ here. absurd (other (sym here ∙ is)))
            (Contains-push_cases split.0 step.by u (subst (λ ts. Contains ts u) split.2 ahead)))
            (λ before. inr before)
            (was.later u there other);
        taken = was.taken;
        inside = λ u there. was.inside u (subst (λ ts. Contains ts u) (sym split.2) (Contains-append_left split.0 (step.by ∷ []) u there));
      }

  -- the walk meets another transition
  pub traced_turn : (found : List TransId) (step : Step) (turns : ℕ) → step.by ≢ start → IsTracedTo steps start last found (Some step) turns
      → IsTracedTo steps start last (found ++ step.by ∷ []) (step_before steps step) (turns + 1)
  traced_turn found step turns other h path trail =
      let was = h path trail in
      let split = trail_split was.left in
      let long = length_push split.0 step.by in
      let same = ap (λ ts. length ts) split.2 in
      let short = was.short in
      record {
        rest = split.0;
        left = split.1;
        short = omega arith;
        later = λ u there apart. ⊎_elim
            (λ ahead. ⊎_elim
            (λ further. inl further)
            (λ here. inr (subst (Contains (found ++ step.by ∷ [])) here (Contains-push found step.by)))
            (Contains-push_cases split.0 step.by u (subst (λ ts. Contains ts u) split.2 ahead)))
            (λ before. inr (Contains-append_left found (step.by ∷ []) u before))
            (was.later u there apart);
        taken = λ u there. ⊎_elim
            (was.taken u)
            (λ here. subst (λ t. Contains path t × (t ≢ start)) here
            (was.inside step.by (subst (λ ts. Contains ts step.by) (sym split.2) (Contains-push split.0 step.by)), other))
            (Contains-push_cases found step.by u there);
        inside = λ u there. was.inside u (subst (λ ts. Contains ts u) (sym split.2) (Contains-append_left split.0 (step.by ∷ []) u there));
      }

  -- at the end nothing is left
  pub traced_end : (found : List TransId) (turns : ℕ) → IsTracedTo steps start last found None turns
      → (path : List TransId) → IsTrail steps last path → (u : TransId) → Contains found u ↔ (Contains path u × (u ≢ start))
  traced_end found turns h path trail u =
      let was = h path trail in (
        was.taken u,
        λ both. ⊎_elim (λ ahead. absurd (nothing_in_nil u (subst (λ ts. Contains ts u) was.left ahead))) (λ before. before) (was.later u both.0 both.1),
      )

  -- which comes before the turns run out
  pub traced_out : (found : List TransId) (next : Option Step) → IsTracedTo steps start last found next (length steps + 1)
      → IsTracedTo steps start last found None (length steps + 1)
  traced_out found None h path trail = h path trail
  traced_out found (Some step) h path trail =
      let was = h path trail in
      let split = trail_split was.left in
      let long = length_push split.0 step.by in
      let same = ap (λ ts. length ts) split.2 in
      let short = was.short in
      absurd (omega arith)

  -- a turn, as the walk takes it
  pub traced_other : (found new : List TransId) (now next : Option Step) (step : Step) (turns : ℕ) (differs : Bool)
      → differs ≡ not (eqb step.by.0 start.0) → differs ≡ true → new ≡ found ++ step.by ∷ [] → now ≡ Some step → next ≡ step_before steps step
      → IsTracedTo steps start last found now turns → IsTracedTo steps start last new next (turns + 1)
  traced_other found new now next step turns differs test is added at before h =
      let here : IsTracedTo steps start last found (Some step) turns = subst (λ o. IsTracedTo steps start last found o turns) at h in
      let other = λ (same : step.by ≡ start). (
      let number = ap (λ (t : TransId). t.0) same in
      let yes : eqb step.by.0 start.0 ≡ true = grind (arith, nat_tests) in
      let no : not true ≡ true = ap not (sym yes) ∙ sym test ∙ is in
      differ no
      ) in
      let turned = traced_turn found step turns other here in
      subst (λ ts. IsTracedTo steps start last ts next (turns + 1)) (sym added)
      (subst (λ o. IsTracedTo steps start last (found ++ step.by ∷ []) o (turns + 1)) (sym before) turned)

  pub traced_skip : (found new : List TransId) (now next : Option Step) (step : Step) (turns : ℕ) (differs : Bool)
      → differs ≡ not (eqb step.by.0 start.0) → differs ≡ false → new ≡ found → now ≡ Some step → next ≡ step_before steps step
      → IsTracedTo steps start last found now turns → IsTracedTo steps start last new next (turns + 1)
  traced_skip found new now next step turns differs test is kept at before h =
      let here : IsTracedTo steps start last found (Some step) turns = subst (λ o. IsTracedTo steps start last found o turns) at h in
      let same = same_transition step.by start (eqb-true step.by.0 start.0 (untold (eqb step.by.0 start.0) (sym test ∙ is))) in
      let turned = traced_start found step turns same here in
      subst (λ ts. IsTracedTo steps start last ts next (turns + 1)) (sym kept)
      (subst (λ o. IsTracedTo steps start last found o (turns + 1)) (sym before) turned)

  -- the end, as the walk comes to it
  pub traced_all : (found : List TransId) (next : Option Step) (turns : ℕ) → turns ≡ length steps + 1 → IsTracedTo steps start last found next turns
      → (path : List TransId) → IsTrail steps last path → (u : TransId) → Contains found u ↔ (Contains path u × (u ≢ start))
  traced_all found next turns all h =
      traced_end found (length steps + 1) (traced_out found next (subst (IsTracedTo steps start last found next) all h))

  pub traced_none : (found : List TransId) (next : Option Step) (turns : ℕ) → next ≡ None → IsTracedTo steps start last found next turns
      → (path : List TransId) → IsTrail steps last path → (u : TransId) → Contains found u ↔ (Contains path u × (u ≢ start))
  traced_none found next turns none h = traced_end found turns (subst (λ o. IsTracedTo steps start last found o turns) none h)

-- the route of the transitions that were met and of those behind them, put in order
module _ (m : DraftMachine) (truth : Truth) (start last : TransId) (path : List TransId) (end : VertexId) (enters : Enters m last end)
    (behind : List TransId) (goes : GoesOnFrom m truth end behind) (starts later sorted rest : List TransId)
    (outside : (v : VertexId) → Leaves m start v → IsThrough m v → ⊥) where
  -- the start is none of those behind
  behind_apart : (u : TransId) → Contains behind u → u ≢ start
  behind_apart u inside same =
      let at = goes.leave u inside in outside at.0 (subst (λ x. Leaves m x at.0) same at.2) at.3

  pub route_behind : AreStartsWith m start starts → ((u : TransId) → Contains later u ↔ (Contains path u × (u ≢ start)))
      → ((u : TransId) → Contains sorted u ↔ Contains (later ++ behind) u) → IsAscending sorted → rest ≡ sorted
      → IsRouteBehind m truth start last path (record { starts = starts; rest = rest })
  route_behind are met same ascending put = record {
    end = end;
    enters = enters;
    behind = behind;
    goes_on = goes;
    over = record {
      starts = are;
      rest = λ u. subst (λ ts. Contains ts u ↔ (Contains (path ++ behind) u × (u ≢ start))) (sym put) (
        λ inside. ⊎_elim
            (λ here. (Contains-append_left path behind u ((met u).0 here).0, ((met u).0 here).1))
            (λ there. (Contains-append_right path behind u there, behind_apart u there))
            (Contains-append_cases later behind u ((same u).0 inside)),
        λ both. (same u).1 (⊎_elim
            (λ here. Contains-append_left later behind u ((met u).1 (here, both.1)))
            (λ there. Contains-append_right later behind u there)
            (Contains-append_cases path behind u both.0)),
      );
      ascending = subst IsAscending (sym put) ascending;
    };
  }
