-- What a way calls by its legs: entries near where they end, the picks of the choices on which they end, and the effects of their transitions.
use Rattle.std.proofs.Common.{◌≡◌, ◌⊎◌, ◌↔◌, ◌<◌, ◌+◌, ℕ, [], ◌∷◌, IsTrue, Contains, length, refl, sym, ap, subst, ◌∙◌, inl, inr, ⊎_elim}
use Rattle.std.proofs.lemmas.List.Elements.{Contains-append_left, Contains-append_right, Contains-append_cases}
use Rattle.pssm_model.specs.declared.ids.VertexId.{VertexId}
use Rattle.pssm_model.specs.declared.ids.TransId.{TransId}
use Rattle.pssm_model.specs.declared.elements.DraftMachine.{DraftMachine}
use Rattle.pssm_model.specs.declared.elements.VertexKind.TheVariants as kinds
use Rattle.pssm_model.specs.declared.steps.Route.{Route}
use Rattle.pssm_model.specs.declared.steps.Item.{Item}
use Rattle.pssm_model.specs.declared.steps.Item.TheVariants.{Effect, Enter, Pick}
use Rattle.pssm_model.specs.Forest.{HasKind}
use Rattle.pssm_model.specs.Legs.{Enters, On, SameLeg, IsLastVertex, LegEnters}
use Rattle.pssm_model.specs.Legs.SameLeg.{itself}
use Rattle.pssm_legs.specs.declared.legs.Leg.{Leg}
use Rattle.pssm_legs.specs.LegsOf.{IsAt, path_of, IsLastOf, IsLegIn}
use Rattle.pssm_plan.specs.declared.ways.Way.{Way}
use Rattle.pssm_plan.specs.Ways.{IsWayIn}
use Rattle.pssm_plan.specs.inner.ByWays.{calls_by}
use Rattle.pssm_plan.specs.inner.Calling.{IsEffectBy, IsEffectOf, IsEffectOfSome, IsPickBy, IsPickAt, IsPickAtSome}
use Rattle.pssm_plan.specs.inner.Near.{IsNear, EndsNear, ComesNear}
use Rattle.pssm_model.proofs.ElementLaws.{kind_unique}
use Rattle.pssm_model.proofs.RouteLaws.{in_one, is_one}
use Rattle.pssm_model_laws.proofs.InnerPaths.{not_state_or_final}
use Rattle.pssm_model_laws.proofs.LegRoots.{leg_ends, legs_meet}
use Rattle.pssm_legs.proofs.Places.{at_contains, contains_at}
use Rattle.pssm_legs.proofs.LaterPlaces.{at_more, of_more, first_or_more}

-- the transitions of a leg are there
pub named_there : {m : DraftMachine} (leg : Leg) → IsLegIn m leg → leg.named.0 < length m.transitions
named_there leg is = is.path leg.named (Contains-append_left (leg.named ∷ []) leg.further.items leg.named (in_one leg.named))

pub further_there : {m : DraftMachine} (leg : Leg) → IsLegIn m leg → (t : TransId) → Contains leg.further.items t → t.0 < length m.transitions
further_there leg is t inside = is.path t (Contains-append_right (leg.named ∷ []) leg.further.items t inside)

module _ {m : DraftMachine} (way : Way) (is : IsWayIn m way) where
  abbrev route : Route
  route = way.route.value

  -- each leg is the first or a further one
  some_leg : (P : Leg → Type 0) (i : ℕ) (leg : Leg) → IsAt way.legs i leg → P leg
      → P way.legs.first ⊎ ((a : Leg) × Contains way.legs.more.items a × P a)
  some_leg P i leg at h =
      ⊎_elim
      (λ first. inl first)
      (λ more. inr (more.1, at_contains way.legs.more.items more.0 more.1 (of_more way.legs more.0 more.1 more.2), more.3))
      (first_or_more way.legs (λ k a. P a) i leg at h)

  -- and a further one has a place
  place_of_more : (leg : Leg) → Contains way.legs.more.items leg → (i : ℕ) × IsAt way.legs i leg
  place_of_more leg inside = let at = contains_at way.legs.more.items leg inside in (at.0 + 1, at_more way.legs at.0 leg at.1)

  pub first_in : IsLegIn m way.legs.first
  first_in = is.inside.each 0 way.legs.first refl

  pub more_in : (leg : Leg) → Contains way.legs.more.items leg → IsLegIn m leg
  more_in leg inside = let at = place_of_more leg inside in is.inside.each at.0 leg at.1

  -- the leg of a transition
  leg_of : (t : TransId) → On route t → (i : ℕ) × (leg : Leg) × IsAt way.legs i leg × SameLeg m route leg.named t
  leg_of t on = let at = is.all t on in (at.0, at.1, at.2, ((is.each at.0 at.1 at.2).path t).0 at.3)

  -- on what it ends
  ends_there : (t : TransId) (v : VertexId) (leg : Leg) → SameLeg m route leg.named t → IsLastVertex m route t v → IsLastVertex m route leg.named v
  ends_there t v leg same last = (last.0, legs_meet m route same last.1, last.2, last.3)

  -- what it enters is near where a leg ends
  ends_near : (v s : VertexId) (leg : Leg) → IsLastOf m leg v → IsNear m v s → EndsNear m leg s
  ends_near v s leg last near =
      ⊎_elim
      (λ one. inl (one.0, subst (λ x. IsNear m x s) one.1 near))
      (λ any. (
      let at = any.1 in
      inr (
        any.0,
        ⊎_elim
            (λ first. (let here = is_one leg.named at.0 first in inl (v, subst (λ u. Enters m u v) here at.2, near)))
            (λ further. inr (at.0, further, (v, at.2, near)))
            (Contains-append_cases (leg.named ∷ []) leg.further.items at.0 at.1),
      )
      ))
      last

  entered_near : (t : TransId) (s : VertexId) → On route t → LegEnters m route t s → ComesNear m way s
  entered_near t s on h =
      let at = leg_of t on in
      let v = h.0 in
      let last = ((is.each at.0 at.1 at.2).last v).0 (ends_there t v at.1 at.3 h.1) in
      let near : IsNear m v s =
      ⊎_elim (λ around. inr (inr around.3)) (⊎_elim (λ same. inl same.1) (λ entry. inr (inl entry.1))) h.4 in
      some_leg (λ leg. EndsNear m leg s) at.0 at.1 at.2 (ends_near v s at.1 last near)

  pub enters_near : (s : VertexId) → calls_by m way (Enter s) → ComesNear m way s
  enters_near s h =
      ⊎_elim
      (λ run. entered_near h.0 s h.1 run)
      (λ none. ⊎_elim (λ ends. absurd ends) (λ opens. absurd opens) none)
      h.2

  -- what it picks is the choice on which a leg ends whose transitions are taken in order
  picked_at : (t : TransId) (c : VertexId) → On route t → IsLastVertex m route t c → HasKind m c kinds.Choice
      → (i : ℕ) × (leg : Leg) × IsAt way.legs i leg × (c ≡ leg.last)
  picked_at t c on last k =
      let at = leg_of t on in
      let leg = is.each at.0 at.1 at.2 in
      let there = ends_there t c at.1 at.3 last in
      let apart = λ (none : IsTrue at.1.in_order → ⊥). (
      let wrong : ⊥ = ⊎_elim
      (λ join. (let clash = kind_unique m c kinds.Choice kinds.Join k join in cc))
      (λ ends. not_state_or_final m c kinds.Choice ends k (λ clash. cc) (λ clash. cc))
      (leg.ends none c there) in wrong) in
      (at.0, at.1, at.2, ⊎_elim (λ one. one.1) (λ any. absurd (apart any.0)) ((leg.last c).0 there))

  pick_calls : (c : VertexId) → calls_by m way (Pick c) → (i : ℕ) × (leg : Leg) × IsAt way.legs i leg × (c ≡ leg.last)
  pick_calls c h =
      ⊎_elim
      (λ run. absurd run)
      (λ some. ⊎_elim (λ ends. picked_at h.0 c h.1 ends.0 ends.1) (λ opens. absurd opens) some)
      h.2

  pub picks_are : (x : Item) → (IsPickAt m way way.legs.first x ⊎ IsPickAtSome m way way.legs.more.items x) ↔ IsPickBy m way x
  picks_are x = (
    λ h. ⊎_elim
        (λ first. (way.legs.first.last, first.0, subst (calls_by m way) (sym first.0) first.1))
        (λ more. (more.0.last, more.2.0, subst (calls_by m way) (sym more.2.0) more.2.1))
        h,
    λ h.
        let calls = subst (calls_by m way) h.1 h.2 in
        let at = pick_calls h.0 calls in
        let here : x ≡ Pick at.1.last = h.1 ∙ ap Pick at.3 in
        some_leg (λ leg. IsPickAt m way leg x) at.0 at.1 at.2 (here, subst (λ c. calls_by m way (Pick c)) at.3 calls),
  )

  -- its effects are those of the transitions of its legs
  effect_in : (leg : Leg) (x : Item) → IsEffectOf leg x → (t : TransId) × Contains (path_of leg) t × (x ≡ Effect t)
  effect_in leg x h =
      ⊎_elim
      (λ first. (leg.named, Contains-append_left (leg.named ∷ []) leg.further.items leg.named (in_one leg.named), first))
      (λ further. (further.0, Contains-append_right (leg.named ∷ []) leg.further.items further.0 further.1, further.2))
      h

  effect_calls : (i : ℕ) (leg : Leg) (x : Item) → IsAt way.legs i leg → IsEffectOf leg x → IsEffectBy m way x
  effect_calls i leg x at h =
      let of = effect_in leg x h in
      let on = leg_ends m route (((is.each i leg at).path of.0).0 of.1) in
      (of.0, of.2, subst (calls_by m way) (sym of.2) (of.0, on, inl (itself on)))

  effect_of_leg : (leg : Leg) (t : TransId) (x : Item) → Contains (path_of leg) t → x ≡ Effect t → IsEffectOf leg x
  effect_of_leg leg t x inside e =
      ⊎_elim
      (λ first. inl (e ∙ ap Effect (is_one leg.named t first)))
      (λ further. inr (t, further, e))
      (Contains-append_cases (leg.named ∷ []) leg.further.items t inside)

  called_on : (t : TransId) → calls_by m way (Effect t) → On route t
  called_on t h =
      ⊎_elim (λ run. leg_ends m route run) (λ none. ⊎_elim (λ ends. absurd ends) (λ opens. absurd opens) none) h.2

  pub effects_are : (x : Item) → (IsEffectOf way.legs.first x ⊎ IsEffectOfSome way.legs.more.items x) ↔ IsEffectBy m way x
  effects_are x = (
    λ h. ⊎_elim
        (λ first. effect_calls 0 way.legs.first x refl first)
        (λ more. (let at = place_of_more more.0 more.1 in effect_calls at.0 more.0 x at.1 more.2))
        h,
    λ h.
        let at = is.all h.0 (called_on h.0 (subst (calls_by m way) h.1 h.2)) in
        some_leg (λ leg. IsEffectOf leg x) at.0 at.1 at.2 (effect_of_leg at.1 h.0 x at.3 h.1),
  )
