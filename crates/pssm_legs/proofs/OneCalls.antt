-- One leg of a route alone calls an effect or entry, so that what comes before and behind it is told by that leg.
use Rattle.std.proofs.Common.{◌≡◌, ◌⊎◌, ◌↔◌, ℕ, Bool, IsTrue, Option, Some, None, subst, inl, inr, ⊎_elim}
use Rattle.pssm_model.specs.declared.ids.VertexId.{VertexId}
use Rattle.pssm_model.specs.declared.ids.TransId.{TransId}
use Rattle.pssm_model.specs.declared.elements.DraftMachine.{DraftMachine}
use Rattle.pssm_model.specs.declared.steps.Route.{Route}
use Rattle.pssm_model.specs.declared.steps.Item.{Item}
use Rattle.pssm_model.specs.declared.steps.Item.TheVariants as items
use Rattle.pssm_model.specs.Shapes.{HasShape}
use Rattle.pssm_model.specs.Legs.{On, SameLeg}
use Rattle.pssm_model.specs.Legs.SameLeg.{itself}
use Rattle.pssm_model.specs.Items.{PathBefore, LegEnds, LegOpens}
use Rattle.pssm_model.specs.WellFormed.{KeepsModelRules}
use Rattle.pssm_model_laws.proofs.LegShapes.{leg_on, leg_turned, begins_on, later_begins_on, later_ends_on, later_from, later_to}
use Rattle.pssm_legs.specs.declared.legs.Leg.{Leg}
use Rattle.pssm_legs.specs.declared.legs.Legs.{Legs}
use Rattle.pssm_legs.specs.Calls.{IsItemOfLeg, IsCalledBy, IsOrderedInLeg, IsOrderedBy}
use Rattle.pssm_legs.specs.Calls.IsOrderedInLeg.{exit_effect, path, effect_enter, effect_end, enter_end, later}
use Rattle.pssm_legs.specs.LegsOf.{leg_list, IsAt, path_of, StandsLater, AreLegsOf}
use Rattle.pssm_legs.specs.inner.Told.{IsCalledAsTold, IsCalledBefore, IsCalledAhead, ComesBeforeLater, IsPathPair, ComesBehind, IsOrderedAsTold, HasLeg}
use Rattle.pssm_legs.specs.inner.Callers.{HasOneCaller, IsSuchAt, IsFurtherPlace, IsPlaceOf, IsAheadOf}
use Rattle.pssm_legs.proofs.ItemOrder.{exit_before_effect, effect_before_enter, called_comes_before}
use Rattle.pssm_legs.proofs.LegEntries.{one_entering}
use Rattle.pssm_legs.proofs.OrdersTold.{ordered_so}
use Rattle.pssm_legs.proofs.Places.{at_contains, before_cases, same_at}
use Rattle.pssm_legs.proofs.TheLegs.{found, effect_in, called_is, called_of, calls_is, ordered_is, pair_of, first_of, itself_of, ordered_at}

module _ {m : DraftMachine} (shape : HasShape m) (rules : KeepsModelRules m) (p : Route) (legs : Legs) (are : AreLegsOf m p legs) (fires : Bool) where
  -- legs that call one effect or entry are one
  same_by : (t u : TransId) (x : Item) → HasOneCaller x → IsItemOfLeg m fires p t x → IsItemOfLeg m fires p u x → SameLeg m p t u
  same_by t u (items.Effect w) one h g =
      ⊎_elim
      (λ first. ⊎_elim (λ second. leg_on m p t w u first (leg_turned m p u w second)) (λ e. absurd (⊎_elim (λ x. x) (λ x. x) e)) g)
      (λ e. absurd (⊎_elim (λ x. x) (λ x. x) e))
      h
  same_by t u (items.Enter s) one h g =
      ⊎_elim
      (λ first. ⊎_elim (λ second. one_entering shape rules p are.route t u s first second) (λ e. absurd (⊎_elim (λ x. x) (λ x. x) e)) g)
      (λ e. absurd (⊎_elim (λ x. x) (λ x. x) e))
      h
  same_by t u (items.Exit s) one h g = absurd one
  same_by t u (items.Opened r mode) one h g = absurd one
  same_by t u (items.Pick c) one h g = absurd one

  -- of two items that a leg orders, it calls the first, which comes before all that later legs call
  first_item : (t : TransId) (x y : Item) → IsOrderedInLeg m fires p t x y → IsItemOfLeg m fires p t x
  first_item t _ _ (exit_effect e f cx cy) = inl cx
  first_item t _ _ (path leg before) = inl leg
  first_item t _ _ (effect_enter e f cx cy) = inl cx
  first_item t _ _ (effect_end e cx ends) = inl cx
  first_item t _ _ (enter_end e cx ends) = inl cx
  first_item t _ _ (later u far cx cy) = inl cx

  starts_first : (t : TransId) (x y : Item) → IsOrderedInLeg m fires p t x y → ComesBeforeLater x
  starts_first t _ _ (exit_effect {x = x} e f cx cy) = called_comes_before m p t fires x cx
  starts_first t _ _ (path leg before) = tt
  starts_first t _ _ (effect_enter {x = x} e f cx cy) = called_comes_before m p t fires x cx
  starts_first t _ _ (effect_end {x = x} e cx ends) = called_comes_before m p t fires x cx
  starts_first t _ _ (enter_end {x = x} e cx ends) = called_comes_before m p t fires x cx
  starts_first t _ _ (later {x = x} u far cx cy) = called_comes_before m p t fires x cx

  pub only_starts : (x y : Item) → IsOrderedBy m fires p x y → ComesBeforeLater x
  only_starts x y h = starts_first h.0 x y h.2

  -- what a leg calls at its end is no effect or entry
  no_end : (t : TransId) (y : Item) → HasOneCaller y → (LegEnds m p t y ⊎ LegOpens m p t y) → ⊥
  no_end t (items.Effect u) h g = ⊎_elim (λ x. x) (λ x. x) g
  no_end t (items.Enter s) h g = ⊎_elim (λ x. x) (λ x. x) g
  no_end t (items.Exit s) h g = h
  no_end t (items.Opened r mode) h g = h
  no_end t (items.Pick c) h g = h

  -- a leg calls an item as one of its transitions does
  named_item : (i : ℕ) (a : Leg) → IsAt legs i a → (x : Item) → IsCalledAsTold m legs i a fires x → IsItemOfLeg m fires p a.named x
  named_item i a at x h = called_of shape rules p legs are i a at a.named (itself (are.each i a at).on) fires x h

  -- where the leg with the place calls the first item alone, it orders the items if any does
  pub from_one : (i : ℕ) (a : Leg) (x y : Item) → IsAt legs i a → HasOneCaller x → IsCalledAsTold m legs i a fires x
      → IsOrderedBy m fires p x y ↔ IsOrderedAsTold m legs i a fires x y
  from_one i a x y at one calls = (
    λ h. ordered_is shape rules p legs are i a at h.0 (same_by a.named h.0 x one (named_item i a at x calls) (first_item h.0 x y h.2)) fires x y h.2,
    λ h. ordered_at shape rules p legs are i a at fires x y h,
  )

  -- the second of two transitions in path order is of the leg of the first
  path_in_leg : (t u w : TransId) → SameLeg m p t u → PathBefore m p u w → SameLeg m p t w
  path_in_leg t u w leg before =
      let f = found shape rules p legs are t (begins_on m p t u leg) in
      let both = ((are.each f.place f.leg f.at).order u w (effect_in shape rules p legs are f.place f.leg f.at t f.same u leg)).0 before in
      let stands = both.1 in
      let inside = at_contains (path_of f.leg) stands.1 w stands.4 in
      leg_on m p t f.leg.named w (leg_turned m p f.leg.named t f.same) (((are.each f.place f.leg f.at).path w).0 inside)

  module _ (j : ℕ) (b : Leg) (at : IsAt legs j b) (y : Item) (one : HasOneCaller y) (calls : IsCalledAsTold m legs j b fires y) where
    same_as : (t : TransId) → IsItemOfLeg m fires p t y → SameLeg m p b.named t
    same_as t h = same_by b.named t y one (named_item j b at y calls) h

    called_here : (t : TransId) → SameLeg m p b.named t → (x : Item) → IsItemOfLeg m fires p t x → IsCalledAsTold m legs j b fires x
    called_here t same x h = called_is shape rules p legs are j b at t same fires x h

  module _ (j : ℕ) (b : Leg) (at : IsAt legs j b) where
    -- where the leg with the place calls the second item alone, the first is in its path before it, or called ahead of it
    ahead_in : (t : TransId) (x y : Item) → HasOneCaller y → IsCalledAsTold m legs j b fires y → IsOrderedInLeg m fires p t x y
        → IsPathPair b x y ⊎ IsCalledAhead m legs j b fires x y
    ahead_in t _ _ one calls (exit_effect {x = x} {y = y} e f cx cy) =
        let same = same_as j b at y one calls t (inl cy) in
        inr (inl (exit_before_effect x y e f, called_here j b at y one calls t same x (inl cx)))
    ahead_in t _ _ one calls (path {u = u} {w = w} leg before) =
        let same = same_as j b at (items.Effect w) one calls t (inl (path_in_leg t u w leg before)) in
        let both = ((are.each j b at).order u w (effect_in shape rules p legs are j b at t same u leg)).0 before in
        inl (both.0, before_cases b.named b.further.items u w both.1)
    ahead_in t _ _ one calls (effect_enter {x = x} {y = y} e f cx cy) =
        let same = same_as j b at y one calls t (inl cy) in
        inr (inl (effect_before_enter x y e f, called_here j b at y one calls t same x (inl cx)))
    ahead_in t _ _ one calls (effect_end {x = x} {y = y} e cx ends) = absurd (no_end t y one ends)
    ahead_in t _ _ one calls (enter_end {x = x} {y = y} e cx ends) = absurd (no_end t y one (inl ends))
    ahead_in t _ _ one calls (later {x = x} {y = y} u far cx cy) =
        let same = same_as j b at y one calls u cy in
        let f = found shape rules p legs are t (later_begins_on m p t u far) in
        let stands = (are.later f.place j f.leg b f.at at).0 (later_from m p f.leg.named t b.named f.same (later_to m p t u b.named far (leg_turned m p b.named u same))) in
        inr (inr (f.place, f.leg, stands, f.at, called_is shape rules p legs are f.place f.leg f.at t f.same fires x (inl cx)))

    -- and the other way round
    ordered_from : (x y : Item) → ComesBeforeLater x → IsCalledAsTold m legs j b fires y → IsPathPair b x y ⊎ IsCalledAhead m legs j b fires x y
        → IsOrderedBy m fires p x y
    ordered_from x y before calls h =
        ⊎_elim
        (λ pair. (b.named, (are.each j b at).on, pair_of shape rules p legs are j b at fires x y pair))
        (⊎_elim
        (λ here. (b.named, (are.each j b at).on, first_of shape rules p legs are j b at fires x y here.0 here.1 calls))
        (λ earlier.
        let i = earlier.0 in
        let a = earlier.1 in
        let leads = (are.later i j a b earlier.3 at).1 earlier.2 in (
          a.named,
          (are.each i a earlier.3).on,
          later b.named leads (itself_of shape rules p legs are i a earlier.3 fires x before earlier.4) (named_item j b at y calls),
        )))
        h

    pub to_one : (x y : Item) → HasOneCaller y → ComesBeforeLater x → IsCalledAsTold m legs j b fires y
        → (IsPathPair b x y ⊎ IsCalledAhead m legs j b fires x y) ↔ IsOrderedBy m fires p x y
    to_one x y one before calls = (
      ordered_from x y before calls,
      λ h. ahead_in h.0 x y one calls h.2,
    )

    -- where one leg alone calls the first too, it stands behind that or is it
    pub between : (i : ℕ) (a : Leg) (x y : Item) → IsAt legs i a → HasOneCaller x → IsCalledAsTold m legs i a fires x
        → IsAheadOf m legs i j b fires x y ↔ (IsPathPair b x y ⊎ IsCalledAhead m legs j b fires x y)
    between i a x y here one calls = (
      λ h. ⊎_elim (λ pair. inl pair) (⊎_elim (λ both. inr (inl both)) (λ stands. inr (inr (i, a, stands, here, calls)))) h,
      λ h. ⊎_elim (λ pair. inl pair) (⊎_elim (λ both. inr (inl both)) (λ earlier. inr (inr (stands_too earlier)))) h,
    )
      where
        stands_too : IsCalledBefore m legs j fires x → StandsLater (leg_list legs) i j
        stands_too earlier =
            let k = earlier.0 in
            let c = earlier.1 in
            let same = same_by a.named c.named x one (named_item i a here x calls) (named_item k c earlier.3 x earlier.4) in
            (are.later i j a b here at).0 (later_from m p a.named c.named b.named same ((are.later k j c b earlier.3 at).1 earlier.2))

  -- what no leg calls is put before nothing, and nothing before it
  pub none_from : (x y : Item) → (HasLeg legs (λ i a. IsCalledAsTold m legs i a fires x) → ⊥) → IsOrderedBy m fires p x y → ⊥
  none_from x y none h = none (calls_is shape rules p legs are fires x (h.0, h.1, first_item h.0 x y h.2))

  second_called : (t : TransId) (x y : Item) → On p t → IsOrderedInLeg m fires p t x y → IsCalledBy m fires p y
  second_called t _ _ on (exit_effect e f cx cy) = (t, on, inl cy)
  second_called t _ _ on (path {u = u} {w = w} leg before) = (t, on, inl (path_in_leg t u w leg before))
  second_called t _ _ on (effect_enter e f cx cy) = (t, on, inl cy)
  second_called t _ _ on (effect_end e cx ends) = (t, on, inr ends)
  second_called t _ _ on (enter_end e cx ends) = (t, on, inr (inl ends))
  second_called t _ _ on (later u far cx cy) = (u, later_ends_on m p t u far, cy)

  pub none_to : (x y : Item) → (HasLeg legs (λ i a. IsCalledAsTold m legs i a fires y) → ⊥) → IsOrderedBy m fires p x y → ⊥
  none_to x y none h = none (calls_is shape rules p legs are fires y (second_called h.0 x y h.1 h.2))

-- an effect or entry comes before what later legs call
pub one_starts : (x : Item) → HasOneCaller x → ComesBeforeLater x
one_starts (items.Effect t) h = tt
one_starts (items.Enter s) h = tt
one_starts (items.Exit s) h = absurd h
one_starts (items.Opened r mode) h = absurd h
one_starts (items.Pick c) h = absurd h

-- what has been found, and what has not
module _ (legs : Legs) (P : ℕ → Leg → Type 0) where
  pub place_found : (place : Option ℕ) (i : ℕ) → place ≡ Some i → IsPlaceOf legs P place → IsSuchAt legs P i
  place_found place i e h = subst (IsPlaceOf legs P) e h

  pub none_found : (place : Option ℕ) → place ≡ None → IsPlaceOf legs P place → HasLeg legs P → ⊥
  none_found place e h = subst (IsPlaceOf legs P) e h

  pub such_at : (j : ℕ) (b : Leg) → IsSuchAt legs P j → IsAt legs j b → P j b
  such_at j b h at = subst (P j) (same_at (leg_list legs) j h.0 b h.1 at) h.2

  pub else_further : (place : Option ℕ) → (P 0 legs.first → ⊥) → IsFurtherPlace legs P place → IsPlaceOf legs P place
  else_further None apart h = λ some. ⊎_elim (λ first. apart first) (λ more. h more) some
  else_further (Some i) apart h = h

module _ {m : DraftMachine} (shape : HasShape m) (rules : KeepsModelRules m) (p : Route) (legs : Legs) (are : AreLegsOf m p legs) (fires : Bool) where
  -- so the answers tell the order
  pub tells_between : (i j : ℕ) (b : Leg) (x y : Item) (result : Bool) → IsAt legs j b → HasOneCaller x → HasOneCaller y
      → IsSuchAt legs (λ k a. IsCalledAsTold m legs k a fires x) i → IsSuchAt legs (λ k a. IsCalledAsTold m legs k a fires y) j
      → (IsTrue result ↔ IsAheadOf m legs i j b fires x y) → IsTrue result ↔ IsOrderedBy m fires p x y
  tells_between i j b x y result at one two first second told =
      let calls = such_at legs (λ k a. IsCalledAsTold m legs k a fires y) j b second at in
      let apart = between shape rules p legs are fires j b at i first.0 x y first.1 one first.2 in
      let all = to_one shape rules p legs are fires j b at x y two (one_starts x one) calls in (
        λ t. all.0 (apart.0 (told.0 t)),
        λ h. told.1 (apart.1 (all.1 h)),
      )

  pub tells_exit : (j : ℕ) (b : Leg) (s : VertexId) (y : Item) (result : Bool) → IsAt legs j b → HasOneCaller y
      → IsSuchAt legs (λ k a. IsCalledAsTold m legs k a fires y) j
      → (IsTrue result ↔ IsCalledAhead m legs j b fires (items.Exit s) y) → IsTrue result ↔ IsOrderedBy m fires p (items.Exit s) y
  tells_exit j b s y result at two second told =
      let calls = such_at legs (λ k a. IsCalledAsTold m legs k a fires y) j b second at in
      let all = to_one shape rules p legs are fires j b at (items.Exit s) y two tt calls in (
        λ t. all.0 (inr (told.0 t)),
        λ h. ⊎_elim (λ pair. absurd pair) (λ ahead. told.1 ahead) (all.1 h),
      )

  pub tells_behind : (i : ℕ) (a : Leg) (x y : Item) (result : Bool) → IsAt legs i a → HasOneCaller x
      → IsSuchAt legs (λ k b. IsCalledAsTold m legs k b fires x) i
      → (IsTrue result ↔ (IsPathPair a x y ⊎ ComesBehind m legs i a fires x y)) → IsTrue result ↔ IsOrderedBy m fires p x y
  tells_behind i a x y result at one first told =
      let calls = such_at legs (λ k b. IsCalledAsTold m legs k b fires x) i a first at in
      let all = from_one shape rules p legs are fires i a x y at one calls in
      let so = ordered_so m legs i a fires x y in (
        λ t. all.1 (so.0 (calls, told.0 t)),
        λ h. told.1 ((so.1 (all.0 h)).1),
      )
