-- The legs of a route, by what is told of them: where they exit and enter, on what they end, and what they call.
use Rattle.std.proofs.Common.{◌≡◌, ◌≢◌, ◌⊎◌, ◌+◌, ℕ, Bool, IsTrue, Some, Contains, refl, sym, ap, subst, inl, inr, ⊎_elim}
use Rattle.pssm_model.specs.declared.ids.VertexId.{VertexId}
use Rattle.pssm_model.specs.declared.ids.RegionId.{RegionId}
use Rattle.pssm_model.specs.declared.ids.TransId.{TransId}
use Rattle.pssm_model.specs.declared.elements.DraftMachine.{DraftMachine}
use Rattle.pssm_model.specs.declared.elements.VertexKind.{VertexKind}
use Rattle.pssm_model.specs.declared.elements.VertexKind.TheVariants as kinds
use Rattle.pssm_model.specs.declared.elements.Owner.TheVariants.{Region, State}
use Rattle.pssm_model.specs.declared.steps.Route.{Route}
use Rattle.pssm_model.specs.declared.steps.Mode.TheVariants.{Plain, Shallow, Deep}
use Rattle.pssm_model.specs.declared.steps.Item.{Item}
use Rattle.pssm_model.specs.declared.steps.Item.TheVariants as items
use Rattle.pssm_model.specs.Shapes.{HasShape}
use Rattle.pssm_model.specs.Forest.{HasKind, IsStateOrFinal, owner_of, LiesInRegion}
use Rattle.pssm_model.specs.Legs.{On, Enters, SameLeg, LaterLeg, IsLastVertex, IsLocalFrom, IsInternal, LegScope, LiesInScope, WouldExit, LegExits, LegEnters, Scope}
use Rattle.pssm_model.specs.Legs.Scope.{Nowhere as nowhere, Inside as inside}
use Rattle.pssm_model.specs.Legs.SameLeg.{itself}
use Rattle.pssm_model.specs.Legs.LegScope.{internal, local, point, other}
use Rattle.pssm_model.specs.Items.{IsAimedAt, LegEnds, LegOpens}
use Rattle.pssm_model.specs.Routes.{IsRoute}
use Rattle.pssm_model.specs.WellFormed.{KeepsModelRules}
use Rattle.pssm_model_laws.proofs.Through.{kinds_clash}
use Rattle.pssm_model_laws.proofs.RouteOrder.{route_of}
use Rattle.pssm_model_laws.proofs.LegShapes.{ends_on, later_begins_on, later_ends_on, leg_on, leg_turned, later_from, later_to}
use Rattle.pssm_legs.specs.declared.areas.Area.{Area}
use Rattle.pssm_legs.specs.declared.areas.Area.TheVariants.{Nowhere, Inside, Within}
use Rattle.pssm_legs.specs.declared.legs.Leg.{Leg}
use Rattle.pssm_legs.specs.declared.legs.Legs.{Legs}
use Rattle.pssm_legs.specs.Areas.{scope_of}
use Rattle.pssm_legs.specs.LegsOf.{leg_list, IsAt, path_of, IsLastOf, StandsLater, IsLegOf, AreLegsOf}
use Rattle.pssm_legs.specs.Calls.{IsCalledInLeg, IsItemOfLeg, IsCalledBy, IsOpenedFor, IsOrderedInLeg, IsOrderedBy}
use Rattle.pssm_legs.specs.Calls.IsOrderedInLeg.{exit_effect, path, effect_enter, effect_end, enter_end, later}
use Rattle.pssm_legs.specs.inner.Told.{IsExited, IsEntered, IsEnteredAt, HasLast, EndsInside, HasTransition, IsAimedFrom, IsLeftToOpen, IsBeside, IsHistoryEnd, IsChoiceEnd, IsCalledAsTold, IsCalledLater, ComesFirst, ComesBeforeLater, IsPathPair, IsOrderedOver, IsOrderedAsTold, HasLeg}
use Rattle.pssm_legs.proofs.LaterPlaces.{first_or_more, later_is_further}
use Rattle.pssm_legs.proofs.ItemOrder.{exit_before_effect, effect_before_enter, effect_before_end, enter_before_end, called_comes_before}
use Rattle.pssm_legs.proofs.Places.{at_contains, before_cases, before_of}
use Rattle.pssm_legs.proofs.PathRegions.{in_head, in_tail, head_or_tail}
use Rattle.pssm_legs.proofs.ScopesOfLegs.{scope_is_one, scope_too}

-- an area is named by its scope
nowhere_named : (area : Area) → scope_of area ≡ nowhere → area ≡ Nowhere
nowhere_named Nowhere e = refl
nowhere_named (Inside s) e = absurd (cc)
nowhere_named (Within r) e = absurd (cc)

inside_named : (area : Area) (s : VertexId) → scope_of area ≡ inside s → area ≡ Inside s
inside_named Nowhere s e = absurd (cc)
inside_named (Inside q) s e = let same : q ≡ s = cc in ap Inside same
inside_named (Within r) s e = absurd (cc)

-- where a leg exits and enters nowhere it is internal, and in a State it is local
nowhere_is_internal : (m : DraftMachine) (p : Route) (t : TransId) (scope : Scope) → scope ≡ nowhere → LegScope m p t scope → IsInternal m p t
nowhere_is_internal m p t _ e (internal i) = i
nowhere_is_internal m p t _ e (local h) = absurd (cc)
nowhere_is_internal m p t _ e (point h o all) = absurd (cc)
nowhere_is_internal m p t _ e (other is i j k scope) = absurd (cc)

inside_is_local : (m : DraftMachine) (p : Route) (t : TransId) (s : VertexId) (scope : Scope) → scope ≡ inside s → LegScope m p t scope
    → IsLocalFrom m p t s
inside_is_local m p t s _ e (internal i) = absurd (cc)
inside_is_local m p t s _ e (local {s = q} h) = let same : q ≡ s = cc in subst (IsLocalFrom m p t) same h
inside_is_local m p t s _ e (point h o all) = absurd (cc)
inside_is_local m p t s _ e (other is i j k scope) = absurd (cc)

-- what is told of a leg, by the list of its transitions
module _ (m : DraftMachine) (a : Leg) where
  last_such : (P : VertexId → Type 0) → HasLast m a P → (v : VertexId) × IsLastOf m a v × P v
  last_such P h =
      ⊎_elim
      (λ ordered. (a.last, inl (ordered.0, refl), ordered.1))
      (λ star. ⊎_elim
      (λ first. (first.0, inr (star.0, (a.named, in_head a.named a.further.items, first.1)), first.2))
      (λ more. (more.1, inr (star.0, (more.0, in_tail a.named more.0 a.further.items more.2, more.3)), more.4))
      star.1)
      h

  such_last : (P : VertexId → Type 0) (v : VertexId) → IsLastOf m a v → P v → HasLast m a P
  such_last P v h is =
      ⊎_elim
      (λ ordered. inl (ordered.0, subst P ordered.1 is))
      (λ star. inr (
        star.0,
        ⊎_elim
            (λ same. inl (v, subst (λ t. Enters m t v) same star.1.2, is))
            (λ more. inr (star.1.0, v, more, star.1.2, is))
            (head_or_tail a.named star.1.0 a.further.items star.1.1),
      ))
      h

  in_path : (t : TransId) → HasTransition a t → Contains (path_of a) t
  in_path t h =
      ⊎_elim
      (λ same. subst (Contains (path_of a)) same (in_head a.named a.further.items))
      (λ more. in_tail a.named t a.further.items more)
      h

  of_path : (t : TransId) → Contains (path_of a) t → HasTransition a t
  of_path t h = ⊎_elim (λ same. inl (sym same)) (λ more. inr more) (head_or_tail a.named t a.further.items h)

module _ {m : DraftMachine} (shape : HasShape m) (rules : KeepsModelRules m) (p : Route) (legs : Legs) (are : AreLegsOf m p legs) where
  route : IsRoute m p
  route = route_of m p are.route

  -- each transition is in a leg of the list
  pub record InLegAt (t : TransId) : Type 0 where
    pub place : ℕ
    pub leg : Leg
    pub at : IsAt legs place leg
    pub same : SameLeg m p leg.named t

  pub found : (t : TransId) → On p t → InLegAt t
  found t is =
      let f = are.all t is in
      record { place = f.0; leg = f.1; at = f.2; same = ((are.each f.0 f.1 f.2).path t).0 f.3 }

  -- one leg of the list, and one of its transitions
  module _ (i : ℕ) (a : Leg) (at : IsAt legs i a) (t : TransId) (same : SameLeg m p a.named t) where
    is_leg : IsLegOf m p a
    is_leg = are.each i a at

    back : SameLeg m p t a.named
    back = leg_turned m p a.named t same

    -- it ends on its last vertices
    last_is : (v : VertexId) → IsLastVertex m p t v → IsLastOf m a v
    last_is v h = (is_leg.last v).0 (h.0, leg_on m p a.named t h.0 same h.1, h.2, h.3)

    last_of : (v : VertexId) → IsLastOf m a v → IsLastVertex m p t v
    last_of v h = let l = (is_leg.last v).1 h in (l.0, leg_on m p t a.named l.0 back l.1, l.2, l.3)

    -- where its transitions are taken in no order, on a join or on States and final states alone
    ordered_end : (v : VertexId) → IsLastVertex m p t v → ((HasKind m v kinds.Join ⊎ IsStateOrFinal m v) → ⊥) → IsTrue a.in_order × (v ≡ a.last)
    ordered_end v h none =
        ⊎_elim
        (λ ordered. ordered)
        (λ star. absurd (none (is_leg.ends star.0 v (h.0, leg_on m p a.named t h.0 same h.1, h.2, h.3))))
        (last_is v h)

    -- it exits and enters in its area
    scope_is : (scope : Scope) → LegScope m p t scope → scope ≡ scope_of a.area
    scope_is scope h = scope_is_one shape rules p are.route a.named t (scope_of a.area) scope same is_leg.area h

    area_of : LegScope m p t (scope_of a.area)
    area_of = scope_too shape rules p are.route a.named t (scope_of a.area) same is_leg.area

    internal_leg : a.area ≡ Nowhere → IsInternal m p t
    internal_leg none = nowhere_is_internal m p t (scope_of a.area) (ap scope_of none) area_of

    internal_area : IsInternal m p t → a.area ≡ Nowhere
    internal_area h = nowhere_named a.area (sym (scope_is nowhere (internal h)))

    local_leg : (s : VertexId) → a.area ≡ Inside s → IsLocalFrom m p t s
    local_leg s e = inside_is_local m p t s (scope_of a.area) (ap scope_of e) area_of

    local_area : (s : VertexId) → IsLocalFrom m p t s → a.area ≡ Inside s
    local_area s h = inside_named a.area s (sym (scope_is (inside s) (local h)))

    -- and what lies there would be exited where its route fires
    would_is : (fires : Bool) (s : VertexId) → WouldExit m (λ x. IsTrue fires) p t s → IsTrue fires × LiesInScope m s (scope_of a.area)
    would_is fires s h = (h.0, subst (LiesInScope m s) (scope_is h.1.0 h.1.1) h.1.2)

    would_of : (fires : Bool) (s : VertexId) → IsTrue fires → LiesInScope m s (scope_of a.area) → WouldExit m (λ x. IsTrue fires) p t s
    would_of fires s is lies = (is, (scope_of a.area, area_of, lies))

    -- it enters what lies there around a last vertex, and what stands at its end
    enters_is : (s : VertexId) → LegEnters m p t s → IsEntered m a s
    enters_is s h = (
      λ none. h.3 (internal_leg none),
      such_last m a (λ v. IsEnteredAt m a v s) h.0 (last_is h.0 h.1) (
        h.2,
        ⊎_elim (λ around. inl (subst (LiesInScope m s) (scope_is around.0 around.1) around.2, around.3)) (λ is. inr is) h.4,
      ),
    )

    enters_of : (s : VertexId) → IsEntered m a s → LegEnters m p t s
    enters_of s h =
        let v = last_such m a (λ w. IsEnteredAt m a w s) h.1 in (
          v.0,
          last_of v.0 v.1,
          v.2.0,
          λ n. h.0 (internal_area n),
          ⊎_elim (λ around. inl (scope_of a.area, area_of, around.0, around.1)) (λ is. inr is) v.2.1,
        )

    ends_is : (v : VertexId) (r : RegionId) → IsLastVertex m p t v → LiesInRegion m v r → EndsInside m a r
    ends_is v r h lies = such_last m a (λ w. LiesInRegion m w r) v (last_is v h) lies

    ends_of : (r : RegionId) → EndsInside m a r → (v : VertexId) × IsLastVertex m p t v × LiesInRegion m v r
    ends_of r h = let v = last_such m a (λ w. LiesInRegion m w r) h in (v.0, last_of v.0 v.1, v.2)

    -- the history vertex on which it ends
    abbrev EndsOnHistory : VertexKind → RegionId → Type 0
    EndsOnHistory kind r = (v : VertexId) × IsLastVertex m p t v × HasKind m v kind × (owner_of m (State v) ≡ Some (Region r))

    history_is : (kind : VertexKind) (r : RegionId) → kind ≢ kinds.Join → kind ≢ kinds.State → kind ≢ kinds.Final → EndsOnHistory kind r → IsHistoryEnd m a kind r
    history_is kind r no_join no_state no_final h =
        let end = ordered_end h.0 h.1 (λ other. ⊎_elim
        (λ join. kinds_clash m h.0 kind kinds.Join no_join h.2 join)
        (λ ends. ⊎_elim (λ k. kinds_clash m h.0 kind kinds.State no_state h.2 k) (λ k. kinds_clash m h.0 kind kinds.Final no_final h.2 k) ends)
        other) in (
          end.0,
          subst (λ v. HasKind m v kind) end.1 h.2,
          subst (λ v. owner_of m (State v) ≡ Some (Region r)) end.1 h.3,
        )

    history_of : (kind : VertexKind) (r : RegionId) → IsHistoryEnd m a kind r → EndsOnHistory kind r
    history_of kind r h = (a.last, last_of a.last (inl (h.0, refl)), h.1, h.2)

    -- the choice on which it ends
    pick_is : (c : VertexId) → LegEnds m p t (items.Pick c) → IsChoiceEnd m a c
    pick_is c h =
        let end = ordered_end c h.0 (λ other. ⊎_elim
        (λ join. kinds_clash m c kinds.Choice kinds.Join (λ e. cc) h.1 join)
        (λ ends. ⊎_elim
        (λ k. kinds_clash m c kinds.Choice kinds.State (λ e. cc) h.1 k)
        (λ k. kinds_clash m c kinds.Choice kinds.Final (λ e. cc) h.1 k)
        ends)
        other) in
        (end.0, end.1, h.1)

    pick_of : (c : VertexId) → IsChoiceEnd m a c → LegEnds m p t (items.Pick c)
    pick_of c h = (last_of c (inl (h.0, h.1)), h.2)

    pub effect_in : (u : TransId) → SameLeg m p t u → Contains (path_of a) u
    effect_in u h = (is_leg.path u).1 (leg_on m p a.named t u same h)

    effect_is : (u : TransId) → SameLeg m p t u → HasTransition a u
    effect_is u h = of_path m a u (effect_in u h)

    effect_of : (u : TransId) → HasTransition a u → SameLeg m p t u
    effect_of u h = leg_on m p t a.named u back ((is_leg.path u).0 (in_path m a u h))

  -- what the leg with the place exits, and aims at, among the others
  later_is : (i : ℕ) (a : Leg) (at : IsAt legs i a) (t u : TransId) → SameLeg m p a.named t → LaterLeg m p t u → (f : InLegAt u)
      → StandsLater (leg_list legs) i f.place
  later_is i a at t u same far f =
      (are.later i f.place a f.leg at f.at).0
      (later_from m p a.named t f.leg.named same (later_to m p t u f.leg.named far (leg_turned m p f.leg.named u f.same)))

  earlier_is : (i : ℕ) (a : Leg) (at : IsAt legs i a) (t u : TransId) → SameLeg m p a.named t → LaterLeg m p u t → (f : InLegAt u)
      → StandsLater (leg_list legs) f.place i
  earlier_is i a at t u same far f =
      (are.later f.place i f.leg a f.at at).0
      (later_from m p f.leg.named u a.named f.same (later_to m p u t a.named far (leg_turned m p a.named t same)))

  exits_is : (i : ℕ) (a : Leg) (at : IsAt legs i a) (t : TransId) (same : SameLeg m p a.named t) (fires : Bool) (s : VertexId)
      → LegExits m (λ x. IsTrue fires) p t s → IsTrue fires × IsExited m legs i a s
  exits_is i a at t same fires s h =
      let would = would_is i a at t same fires s h.0 in (
        would.0,
        (
          would.1,
          λ covered.
              let b = covered.1 in
              let there = are.each covered.0 b covered.3 in
              let before = (are.later covered.0 i b a covered.3 at).1 covered.2 in
              h.1 b.named (later_to m p b.named a.named t before same)
              (would_of covered.0 b covered.3 b.named (itself there.on) fires s would.0 covered.4),
        ),
      )

  exits_of : (i : ℕ) (a : Leg) (at : IsAt legs i a) (t : TransId) (same : SameLeg m p a.named t) (fires : Bool) (s : VertexId)
      → IsTrue fires → IsExited m legs i a s → LegExits m (λ x. IsTrue fires) p t s
  exits_of i a at t same fires s is h = (
    would_of i a at t same fires s is h.0,
    λ u far would. (
        let f = found u (later_begins_on m p u t far) in
        let lies = would_is f.place f.leg f.at u f.same fires s would in
        h.1 (f.place, f.leg, earlier_is i a at t u same far f, f.at, lies.1)),
  )

  aimed_is : (i : ℕ) (a : Leg) (at : IsAt legs i a) (t : TransId) (same : SameLeg m p a.named t) (r : RegionId)
      → IsAimedAt m p t r → IsAimedFrom m legs i a r
  aimed_is i a at t same r h =
      ⊎_elim
      (λ leg. inl (ends_is i a at h.0 (leg_on m p a.named t h.0 same leg) h.1 r h.3 h.4))
      (λ far.
      let f = found h.0 (later_ends_on m p t h.0 far) in
      let stands = later_is i a at t h.0 same far f in
      inr (later_is_further legs are.inside.before (λ j b. StandsLater (leg_list legs) i j × EndsInside m b r) i f.place f.leg stands f.at
      (stands, ends_is f.place f.leg f.at h.0 f.same h.1 r h.3 h.4)))
      h.2

  aimed_of : (i : ℕ) (a : Leg) (at : IsAt legs i a) (t : TransId) (same : SameLeg m p a.named t) (r : RegionId)
      → IsAimedFrom m legs i a r → IsAimedAt m p t r
  aimed_of i a at t same r h =
      ⊎_elim
      (λ here.
      let end = ends_of i a at t same r here in
      (t, end.0, inl (itself (ends_on m p a.named t same)), end.1, end.2))
      (λ far.
      let j = far.0 + 1 in
      let b = far.1 in
      let there = are.each j b far.2 in
      let end = ends_of j b far.2 b.named (itself there.on) r far.3.1 in
      let before = (are.later i j a b at far.2).1 far.3.0 in
      (b.named, end.0, inr (later_from m p t a.named b.named (leg_turned m p a.named t same) before), end.1, end.2))
      h

  -- it opens the regions of the State that it leaves locally at which none aims
  beside_is : (i : ℕ) (a : Leg) (at : IsAt legs i a) (t : TransId) (same : SameLeg m p a.named t) (r : RegionId)
      → LegOpens m p t (items.Opened r Plain) → IsBeside m legs i a r
  beside_is i a at t same r h = ((h.0, local_area i a at t same h.0 h.1, h.2), λ aims. h.3 (aimed_of i a at t same r aims))

  beside_of : (i : ℕ) (a : Leg) (at : IsAt legs i a) (t : TransId) (same : SameLeg m p a.named t) (r : RegionId)
      → IsBeside m legs i a r → LegOpens m p t (items.Opened r Plain)
  beside_of i a at t same r h = (h.0.0, local_leg i a at t same h.0.0 h.0.1, h.0.2, λ aims. h.1 (aimed_is i a at t same r aims))

  -- what it calls
  pub called_is : (i : ℕ) (a : Leg) (at : IsAt legs i a) (t : TransId) (same : SameLeg m p a.named t) (fires : Bool) (item : Item)
      → IsItemOfLeg m fires p t item → IsCalledAsTold m legs i a fires item
  called_is i a at t same fires (items.Exit s) h = ⊎_elim (λ x. exits_is i a at t same fires s x) (λ x. absurd (⊎_elim (λ e. e) (λ e. e) x)) h
  called_is i a at t same fires (items.Effect u) h = ⊎_elim (λ x. effect_is i a at t same u x) (λ x. absurd (⊎_elim (λ e. e) (λ e. e) x)) h
  called_is i a at t same fires (items.Enter s) h = ⊎_elim (λ x. enters_is i a at t same s x) (λ x. absurd (⊎_elim (λ e. e) (λ e. e) x)) h
  called_is i a at t same fires (items.Opened r Plain) h = ⊎_elim (λ x. absurd x) (⊎_elim (λ x. absurd x) (λ x. beside_is i a at t same r x)) h
  called_is i a at t same fires (items.Opened r Shallow) h =
      ⊎_elim (λ x. absurd x)
      (⊎_elim (λ x. history_is i a at t same kinds.ShallowHistory r (λ e. cc) (λ e. cc) (λ e. cc) x) (λ x. absurd x)) h
  called_is i a at t same fires (items.Opened r Deep) h =
      ⊎_elim (λ x. absurd x)
      (⊎_elim (λ x. history_is i a at t same kinds.DeepHistory r (λ e. cc) (λ e. cc) (λ e. cc) x) (λ x. absurd x)) h
  called_is i a at t same fires (items.Pick c) h = ⊎_elim (λ x. absurd x) (⊎_elim (λ x. pick_is i a at t same c x) (λ x. absurd x)) h

  pub called_of : (i : ℕ) (a : Leg) (at : IsAt legs i a) (t : TransId) (same : SameLeg m p a.named t) (fires : Bool) (item : Item)
      → IsCalledAsTold m legs i a fires item → IsItemOfLeg m fires p t item
  called_of i a at t same fires (items.Exit s) h = inl (exits_of i a at t same fires s h.0 h.1)
  called_of i a at t same fires (items.Effect u) h = inl (effect_of i a at t same u h)
  called_of i a at t same fires (items.Enter s) h = inl (enters_of i a at t same s h)
  called_of i a at t same fires (items.Opened r Plain) h = inr (inr (beside_of i a at t same r h))
  called_of i a at t same fires (items.Opened r Shallow) h = inr (inl (history_of i a at t same kinds.ShallowHistory r h))
  called_of i a at t same fires (items.Opened r Deep) h = inr (inl (history_of i a at t same kinds.DeepHistory r h))
  called_of i a at t same fires (items.Pick c) h = inr (inl (pick_of i a at t same c h))

  -- some leg calls
  pub calls_is : (fires : Bool) (item : Item) → IsCalledBy m fires p item → HasLeg legs (λ i a. IsCalledAsTold m legs i a fires item)
  calls_is fires item h =
      let f = found h.0 h.1 in
      first_or_more legs (λ i a. IsCalledAsTold m legs i a fires item) f.place f.leg f.at (called_is f.place f.leg f.at h.0 f.same fires item h.2)

  called_at : (fires : Bool) (item : Item) (i : ℕ) (a : Leg) → IsAt legs i a → IsCalledAsTold m legs i a fires item → IsCalledBy m fires p item
  called_at fires item i a at h =
      let on = (are.each i a at).on in (a.named, on, called_of i a at a.named (itself on) fires item h)

  pub calls_of : (fires : Bool) (item : Item) → HasLeg legs (λ i a. IsCalledAsTold m legs i a fires item) → IsCalledBy m fires p item
  calls_of fires item h =
      ⊎_elim (λ first. called_at fires item 0 legs.first refl first) (λ more. called_at fires item (more.0 + 1) more.1 more.2 more.3) h

  -- some leg leaves a region to open
  pub opens_is : (s : VertexId) (r : RegionId) → IsOpenedFor m p s r → HasLeg legs (λ i a. IsLeftToOpen m legs i a s r)
  opens_is s r h =
      let f = found h.0 h.1 in
      first_or_more legs (λ i a. IsLeftToOpen m legs i a s r) f.place f.leg f.at
      (enters_is f.place f.leg f.at h.0 f.same s h.2, λ aims. h.3 (aimed_of f.place f.leg f.at h.0 f.same r aims))

  opened_at : (s : VertexId) (r : RegionId) (i : ℕ) (a : Leg) → IsAt legs i a → IsLeftToOpen m legs i a s r → IsOpenedFor m p s r
  opened_at s r i a at h =
      let on = (are.each i a at).on in
      (a.named, on, enters_of i a at a.named (itself on) s h.0, λ aims. h.1 (aimed_is i a at a.named (itself on) r aims))

  pub opens_of : (s : VertexId) (r : RegionId) → HasLeg legs (λ i a. IsLeftToOpen m legs i a s r) → IsOpenedFor m p s r
  opens_of s r h = ⊎_elim (λ first. opened_at s r 0 legs.first refl first) (λ more. opened_at s r (more.0 + 1) more.1 more.2 more.3) h

  -- which of it comes first
  called_later : (i : ℕ) (a : Leg) (at : IsAt legs i a) (t u : TransId) (same : SameLeg m p a.named t) (fires : Bool) (y : Item)
      → LaterLeg m p t u → IsItemOfLeg m fires p u y → IsCalledLater m legs i fires y
  called_later i a at t u same fires y far h =
      let f = found u (later_ends_on m p t u far) in
      let stands = later_is i a at t u same far f in
      later_is_further legs are.inside.before (λ j b. StandsLater (leg_list legs) i j × IsCalledAsTold m legs j b fires y) i f.place f.leg stands f.at
      (stands, called_is f.place f.leg f.at u f.same fires y h)

  pub ordered_is : (i : ℕ) (a : Leg) (at : IsAt legs i a) (t : TransId) (same : SameLeg m p a.named t) (fires : Bool) (x y : Item)
      → IsOrderedInLeg m fires p t x y → IsOrderedAsTold m legs i a fires x y
  ordered_is i a at t same fires _ _ (exit_effect {x = x} {y = y} ex ef cx cy) =
      inl (inr (exit_before_effect x y ex ef, called_is i a at t same fires x (inl cx), called_is i a at t same fires y (inl cy)))
  ordered_is i a at t same fires _ _ (path {u = u} {w = w} leg before) =
      let both = ((are.each i a at).order u w (effect_in i a at t same u leg)).0 before in
      inl (inl (both.0, before_cases a.named a.further.items u w both.1))
  ordered_is i a at t same fires _ _ (effect_enter {x = x} {y = y} ef en cx cy) =
      inl (inr (effect_before_enter x y ef en, called_is i a at t same fires x (inl cx), called_is i a at t same fires y (inl cy)))
  ordered_is i a at t same fires _ _ (effect_end {x = x} {y = y} ef cx ends) =
      inl (inr (effect_before_end m p t x y ef ends, called_is i a at t same fires x (inl cx), called_is i a at t same fires y (inr ends)))
  ordered_is i a at t same fires _ _ (enter_end {x = x} {y = y} en cx ends) =
      inl (inr (enter_before_end m p t x y en ends, called_is i a at t same fires x (inl cx), called_is i a at t same fires y (inr (inl ends))))
  ordered_is i a at t same fires _ _ (later {x = x} {y = y} u far cx cy) =
      inr (called_comes_before m p t fires x cx, called_is i a at t same fires x (inl cx), called_later i a at t u same fires y far cy)

  pub pair_of : (i : ℕ) (a : Leg) (at : IsAt legs i a) (fires : Bool) (x y : Item) → IsPathPair a x y → IsOrderedInLeg m fires p a.named x y
  pair_of i a at fires (items.Effect t) (items.Effect u) h =
      let before = before_of a.named a.further.items t u h.1 in
      let inside = at_contains (path_of a) before.0 t before.3 in
      path (((are.each i a at).path t).0 inside) (((are.each i a at).order t u inside).1 (h.0, before))
  pair_of i a at fires (items.Effect t) (items.Exit s) h = absurd h
  pair_of i a at fires (items.Effect t) (items.Enter s) h = absurd h
  pair_of i a at fires (items.Effect t) (items.Opened r mode) h = absurd h
  pair_of i a at fires (items.Effect t) (items.Pick c) h = absurd h
  pair_of i a at fires (items.Exit s) y h = absurd h
  pair_of i a at fires (items.Enter s) y h = absurd h
  pair_of i a at fires (items.Opened r mode) y h = absurd h
  pair_of i a at fires (items.Pick c) y h = absurd h

  module _ (i : ℕ) (a : Leg) (at : IsAt legs i a) where
    named_in : SameLeg m p a.named a.named
    named_in = itself (are.each i a at).on

    pub first_of : (fires : Bool) (x y : Item) → ComesFirst x y → IsCalledAsTold m legs i a fires x → IsCalledAsTold m legs i a fires y
        → IsOrderedInLeg m fires p a.named x y
    first_of fires (items.Exit s) (items.Effect t) k h g =
        exit_effect tt tt (exits_of i a at a.named named_in fires s h.0 h.1) (effect_of i a at a.named named_in t g)
    first_of fires (items.Effect t) (items.Enter s) k h g =
        effect_enter tt tt (effect_of i a at a.named named_in t h) (enters_of i a at a.named named_in s g)
    first_of fires (items.Effect t) (items.Opened r Plain) k h g =
        effect_end tt (effect_of i a at a.named named_in t h) (inr (beside_of i a at a.named named_in r g))
    first_of fires (items.Effect t) (items.Opened r Shallow) k h g =
        effect_end tt (effect_of i a at a.named named_in t h) (inl (history_of i a at a.named named_in kinds.ShallowHistory r g))
    first_of fires (items.Effect t) (items.Opened r Deep) k h g =
        effect_end tt (effect_of i a at a.named named_in t h) (inl (history_of i a at a.named named_in kinds.DeepHistory r g))
    first_of fires (items.Effect t) (items.Pick c) k h g =
        effect_end tt (effect_of i a at a.named named_in t h) (inl (pick_of i a at a.named named_in c g))
    first_of fires (items.Enter s) (items.Opened r Shallow) k h g =
        enter_end tt (enters_of i a at a.named named_in s h) (history_of i a at a.named named_in kinds.ShallowHistory r g)
    first_of fires (items.Enter s) (items.Opened r Deep) k h g =
        enter_end tt (enters_of i a at a.named named_in s h) (history_of i a at a.named named_in kinds.DeepHistory r g)
    first_of fires (items.Enter s) (items.Pick c) k h g =
        enter_end tt (enters_of i a at a.named named_in s h) (pick_of i a at a.named named_in c g)
    first_of fires (items.Exit s) (items.Exit q) k h g = absurd k
    first_of fires (items.Exit s) (items.Enter q) k h g = absurd k
    first_of fires (items.Exit s) (items.Opened r mode) k h g = absurd k
    first_of fires (items.Exit s) (items.Pick c) k h g = absurd k
    first_of fires (items.Effect t) (items.Exit s) k h g = absurd k
    first_of fires (items.Effect t) (items.Effect u) k h g = absurd k
    first_of fires (items.Enter s) (items.Exit q) k h g = absurd k
    first_of fires (items.Enter s) (items.Effect t) k h g = absurd k
    first_of fires (items.Enter s) (items.Enter q) k h g = absurd k
    first_of fires (items.Enter s) (items.Opened r Plain) k h g = absurd k
    first_of fires (items.Opened r mode) y k h g = absurd k
    first_of fires (items.Pick c) y k h g = absurd k

    pub itself_of : (fires : Bool) (x : Item) → ComesBeforeLater x → IsCalledAsTold m legs i a fires x → IsCalledInLeg m fires p a.named x
    itself_of fires (items.Exit s) k h = exits_of i a at a.named named_in fires s h.0 h.1
    itself_of fires (items.Effect t) k h = effect_of i a at a.named named_in t h
    itself_of fires (items.Enter s) k h = enters_of i a at a.named named_in s h
    itself_of fires (items.Opened r mode) k h = absurd k
    itself_of fires (items.Pick c) k h = absurd k

    over_of : (fires : Bool) (x y : Item) → IsOrderedOver m legs i a fires x y → IsOrderedInLeg m fires p a.named x y
    over_of fires x y h =
        let j = h.2.0 + 1 in
        let b = h.2.1 in
        let on = (are.each j b h.2.2).on in
        later b.named ((are.later i j a b at h.2.2).1 h.2.3.0) (itself_of fires x h.0 h.1) (called_of j b h.2.2 b.named (itself on) fires y h.2.3.1)

    pub ordered_at : (fires : Bool) (x y : Item) → IsOrderedAsTold m legs i a fires x y → IsOrderedBy m fires p x y
    ordered_at fires x y h = (
      a.named,
      (are.each i a at).on,
      ⊎_elim
          (λ within. ⊎_elim (λ pair. pair_of i a at fires x y pair) (λ first. first_of fires x y first.0 first.1 first.2) within)
          (λ over. over_of fires x y over)
          h,
    )

  pub orders_is : (fires : Bool) (x y : Item) → IsOrderedBy m fires p x y → HasLeg legs (λ i a. IsOrderedAsTold m legs i a fires x y)
  orders_is fires x y h =
      let f = found h.0 h.1 in
      first_or_more legs (λ i a. IsOrderedAsTold m legs i a fires x y) f.place f.leg f.at (ordered_is f.place f.leg f.at h.0 f.same fires x y h.2)

  pub orders_of : (fires : Bool) (x y : Item) → HasLeg legs (λ i a. IsOrderedAsTold m legs i a fires x y) → IsOrderedBy m fires p x y
  orders_of fires x y h =
      ⊎_elim (λ first. ordered_at 0 legs.first refl fires x y first) (λ more. ordered_at (more.0 + 1) more.1 more.2 fires x y more.3) h
