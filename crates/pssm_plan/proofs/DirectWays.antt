-- What a way calls and opens that has one leg, which ends on a vertex of the region in which it exits and enters.
use Rattle.std.proofs.Common.{◌≡◌, ◌⊎◌, ◌↔◌, ℕ, List, Some, Contains, sym, subst, ap, inl, inr, ⊎_elim, ◌∙◌}
use Rattle.pssm_model.specs.declared.ids.VertexId.{VertexId}
use Rattle.pssm_model.specs.declared.ids.RegionId.{RegionId}
use Rattle.pssm_model.specs.declared.elements.DraftMachine.{DraftMachine}
use Rattle.pssm_model.specs.declared.elements.Owner.{Owner}
use Rattle.pssm_model.specs.declared.elements.Owner.TheVariants.{Region, State}
use Rattle.pssm_model.specs.declared.steps.Mode.{Mode}
use Rattle.pssm_model.specs.declared.steps.Mode.TheVariants.{Plain, Shallow, Deep}
use Rattle.pssm_model.specs.declared.steps.Item.{Item}
use Rattle.pssm_model.specs.declared.steps.Item.TheVariants.{Exit, Effect, Enter, Opened, Pick}
use Rattle.pssm_model.specs.Forest.{owner_of, LiesUnder, LiesInState}
use Rattle.pssm_model.specs.Forest.LiesUnder.{owned, further}
use Rattle.pssm_model.specs.Legs.{LiesInScope, IsEndState}
use Rattle.pssm_model.specs.Shapes.{HasShape}
use Rattle.pssm_model.specs.WellFormed.{KeepsModelRules}
use Rattle.pssm_model.proofs.ElementLaws.{nothing_in_nil}
use Rattle.pssm_model.proofs.OwnerChains.{under_further}
use Rattle.pssm_model_laws.proofs.InnerPaths.{no_circle}
use Rattle.pssm_legs.specs.declared.areas.Area.{Area}
use Rattle.pssm_legs.specs.declared.legs.Leg.{Leg}
use Rattle.pssm_legs.specs.Areas.{scope_of}
use Rattle.pssm_legs.specs.inner.Told.{IsEntered, IsEnteredAt, IsCalledAsTold, IsLeftToOpen, HasFurther, HasLeg}
use Rattle.pssm_legs.proofs.Places.{at_contains}
use Rattle.pssm_legs.proofs.LaterPlaces.{of_more}
use Rattle.pssm_legs.proofs.TheLegs.{calls_is, opens_is}
use Rattle.pssm_plan.specs.declared.roster.Call.{Call}
use Rattle.pssm_plan.specs.declared.ways.Way.{Way}
use Rattle.pssm_plan.specs.Ways.{IsWayIn}
use Rattle.pssm_plan.specs.inner.ByWays.{calls_by, opens_by}
use Rattle.pssm_plan.specs.inner.Calling.{IsEntryBy, IsOpeningBy, IsReopened}
use Rattle.pssm_plan.specs.inner.Direct.{IsDirect, IsReopenedIn, MayCallDirectly}
use Rattle.pssm_plan.proofs.Growing.{AddedBy}

-- what a place lies under is its owner, or what that lies under
pub first_step : {m : DraftMachine} (p q k : Owner) → owner_of m p ≡ Some k → LiesUnder m p q → (q ≡ k) ⊎ LiesUnder m k q
first_step p q k e (owned f) = let same : q ≡ k = cc (e, f) in inl same
first_step {m} p q k e (further {q = l} f rest) = let same : l ≡ k = cc (e, f) in inr (subst (λ (o : Owner). LiesUnder m o q) same rest)

module _ {m : DraftMachine} (shape : HasShape m) (rules : KeepsModelRules m) (way : Way) (is : IsWayIn m way) (r : RegionId) (d : IsDirect m way r) where
  abbrev first : Leg
  first = way.legs.first

  no_more : (P : ℕ → Leg → Type 0) → HasFurther way.legs P → ⊥
  no_more P h =
      let inside = at_contains way.legs.more.items h.0 h.1 (of_more way.legs h.0 h.1 h.2) in
      nothing_in_nil h.1 (subst (λ (l : List Leg). Contains l h.1) d.alone inside)

  of_first : (P : ℕ → Leg → Type 0) → HasLeg way.legs P → P 0 first
  of_first P h = ⊎_elim (λ here. here) (λ more. absurd (no_more P more)) h

  -- no State of the region lies around what the region owns
  not_around : (s : VertexId) → LiesInScope m s (scope_of first.area) → LiesInState m first.last s → ⊥
  not_around s lies around =
      let inside : LiesUnder m (State s) (Region r) = subst (λ (a : Area). LiesInScope m s (scope_of a)) d.area lies in
      let over : LiesUnder m (Region r) (State s) = ⊎_elim
      (λ same. owned (subst (λ (o : Owner). owner_of m o ≡ Some (State s)) same around.1))
      (λ under. under_further under (owned around.1))
      (first_step (State first.last) (Region around.0) (Region r) d.owner around.2) in
      no_circle shape (Region r) (under_further over inside)

  end_is : (s : VertexId) → IsEndState m first.last s → s ≡ first.last
  end_is s h = ⊎_elim (λ same. same.1) (λ entry. (let e = entry.1 in let f = d.owner in absurd (cc (e, f)))) h

  entered_at : (s : VertexId) → IsEnteredAt m first first.last s → s ≡ first.last
  entered_at s h = ⊎_elim (λ passed. absurd (not_around s passed.0 passed.1)) (λ end. end_is s end) h.1

  -- what the leg enters is what it ends on
  entered_is : (s : VertexId) → IsEntered m first s → s ≡ first.last
  entered_is s h = ⊎_elim (λ one. entered_at s one.1) (λ none. absurd (none.0 d.in_order)) h.1

  entry_is : (s : VertexId) → calls_by m way (Enter s) → s ≡ first.last
  entry_is s h =
      entered_is s (of_first (λ i a. IsCalledAsTold m way.legs i a way.fires (Enter s))
      (calls_is shape rules way.route.value way.legs is way.fires (Enter s) h))

  opened_is : (s : VertexId) (q : RegionId) → opens_by m way s q → s ≡ first.last
  opened_is s q h =
      entered_is s (of_first (λ i a. IsLeftToOpen m way.legs i a s q) (opens_is shape rules way.route.value way.legs is s q h)).0

  opening_told : (mode : Mode) (q : RegionId) → IsCalledAsTold m way.legs 0 first way.fires (Opened q mode) → q ≡ r
  opening_told Plain q h = let e = h.0.1 in let f = d.area in absurd (cc (e, f))
  opening_told Shallow q h = let e = h.2 in let f = d.owner in cc (e, f)
  opening_told Deep q h = let e = h.2 in let f = d.owner in cc (e, f)

  -- what it opens at its end is a region's that owns what it ends on
  opening_is : (mode : Mode) (q : RegionId) → calls_by m way (Opened q mode) → q ≡ r
  opening_is mode q h =
      opening_told mode q (of_first (λ i a. IsCalledAsTold m way.legs i a way.fires (Opened q mode))
      (calls_is shape rules way.route.value way.legs is way.fires (Opened q mode) h))

  may_told : (item : Item) → IsCalledAsTold m way.legs 0 first way.fires item → MayCallDirectly way r item
  may_told (Exit s) h = h.0
  may_told (Effect t) h = h
  may_told (Enter s) h = entered_is s h
  may_told (Opened q Plain) h = let e = h.0.1 in let f = d.area in absurd (cc (e, f))
  may_told (Opened q Shallow) h = opening_told Shallow q h
  may_told (Opened q Deep) h = opening_told Deep q h
  may_told (Pick c) h = h.1

  pub direct_may : (item : Item) → calls_by m way item → MayCallDirectly way r item
  direct_may item h =
      may_told item (of_first (λ i a. IsCalledAsTold m way.legs i a way.fires item)
      (calls_is shape rules way.route.value way.legs is way.fires item h))

  exit_told : (s : VertexId) → IsCalledAsTold m way.legs 0 first way.fires (Exit s) → LiesUnder m (State s) (Region r)
  exit_told s h = subst (λ (a : Area). LiesInScope m s (scope_of a)) d.area h.1.0

  -- what it exits lies in the region
  pub exit_lies : (s : VertexId) → calls_by m way (Exit s) → LiesUnder m (State s) (Region r)
  exit_lies s h =
      exit_told s (of_first (λ i a. IsCalledAsTold m way.legs i a way.fires (Exit s))
      (calls_is shape rules way.route.value way.legs is way.fires (Exit s) h))

  pub direct_entries : (x : Item) → ((x ≡ Enter first.last) × calls_by m way (Enter first.last)) ↔ IsEntryBy m way x
  direct_entries x = (
    λ h. (first.last, h.0, subst (calls_by m way) (sym h.0) h.1),
    λ h. let c = subst (calls_by m way) h.1 h.2 in
        let same = entry_is h.0 c in
        (h.1 ∙ ap Enter same, subst (λ (v : VertexId). calls_by m way (Enter v)) same c),
  )

  pub direct_openings : (mode : Mode) (x : Item) → ((x ≡ Opened r mode) × calls_by m way (Opened r mode)) ↔ IsOpeningBy m way mode x
  direct_openings mode x = (
    λ h. (r, h.0, subst (calls_by m way) (sym h.0) h.1),
    λ h. let c = subst (calls_by m way) h.1 h.2 in
        let same = opening_is mode h.0 c in
        (h.1 ∙ ap (λ (q : RegionId). Opened q mode) same, subst (λ (q : RegionId). calls_by m way (Opened q mode)) same c),
  )

  pub direct_reopened : (calls : List Call) (x : Item) → IsReopenedIn m calls way first.last x ↔ IsReopened m calls way x
  direct_reopened calls x = (
    λ h. subst (IsReopened m calls way) (sym h.2) h.3,
    λ h. (
      h.1,
      subst (λ (v : VertexId). owner_of m (Region h.1) ≡ Some (State v)) (opened_is h.0 h.1 h.5) h.3,
      h.2,
      subst (IsReopened m calls way) h.2 h,
    ),
  )

-- the opening of the region, where it opens once more
abbrev pub ReopenedAt : DraftMachine → List Call → Way → RegionId → Item → Type 0
ReopenedAt m calls way r x = (x ≡ Opened r Plain) × IsReopened m calls way (Opened r Plain)

pub reopened_in_all : (m : DraftMachine) (s : VertexId) (rs : List RegionId)
    → ((r : RegionId) → Contains rs r ↔ (owner_of m (Region r) ≡ Some (State s))) → (calls : List Call) (way : Way) (x : Item)
    → AddedBy (ReopenedAt m calls way) rs x ↔ IsReopenedIn m calls way s x
reopened_in_all m s rs all calls way x = (
  λ h. (h.0, (all h.0).0 h.1, h.2.0, h.2.1),
  λ h. (h.0, (all h.0).1 h.1, (h.2, h.3)),
)
