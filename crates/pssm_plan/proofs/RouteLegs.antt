-- The legs of a route by which steps go: what they call is what the route as a whole calls.
use Rattle.std.proofs.Common.{◌≡◌, refl, subst, inr}
use Rattle.pssm_model.specs.declared.ids.VertexId.{VertexId}
use Rattle.pssm_model.specs.declared.ids.RegionId.{RegionId}
use Rattle.pssm_model.specs.declared.ids.TransId.{TransId}
use Rattle.pssm_model.specs.declared.elements.DraftMachine.{DraftMachine}
use Rattle.pssm_model.specs.declared.elements.TransKind.TheVariants.{Local}
use Rattle.pssm_model.specs.declared.elements.VertexKind.TheVariants as kinds
use Rattle.pssm_model.specs.declared.steps.Route.{Route}
use Rattle.pssm_model.specs.declared.steps.Mode.TheVariants.{Plain, Shallow, Deep}
use Rattle.pssm_model.specs.declared.steps.Item.{Item}
use Rattle.pssm_model.specs.declared.steps.Item.TheVariants as items
use Rattle.pssm_model.specs.Shapes.{HasShape}
use Rattle.pssm_model.specs.WellFormed.{KeepsModelRules}
use Rattle.pssm_model.specs.Forest.{HasKind}
use Rattle.pssm_model.specs.Legs.{Leaves, On, IsLastVertex, IsLocalFrom, LegExits, LegEnters}
use Rattle.pssm_model.specs.Legs.SameLeg.{itself}
use Rattle.pssm_model.specs.Items.{LegEnds, LegOpens}
use Rattle.pssm_model.specs.Routes.{IsRoute, IsSource}
use Rattle.pssm_model.specs.RouteWords.{IsStepRoute}
use Rattle.pssm_model_laws.specs.inner.RouteWords.{GoesAs, EndsOn, IsEnteredBy}
use Rattle.pssm_plan.specs.inner.OverRoutes.{LiesInArea, CallsAtEnd, OpensBeside}
use Rattle.pssm_model.proofs.ElementLaws.{kind_unique}
use Rattle.pssm_model_laws.proofs.Branches.{of_starts}
use Rattle.pssm_model_laws.proofs.EndsApart.{step_is_route}
use Rattle.pssm_model_laws.proofs.LegRoots.{leg_begins, leg_ends}
use Rattle.pssm_model_laws.proofs.RouteKinds.{state_start, one_start, inner_source}
use Rattle.pssm_model_laws.proofs.RouteAreas.{has_area, scope_on, route_exits}
use Rattle.pssm_plan.proofs.Stations.{route_enters, aims}

module _ {m : DraftMachine} (rules : KeepsModelRules m) (shape : HasShape m) (p : Route) (step : IsStepRoute m p) where
  the_route : IsRoute m p
  the_route = step_is_route step

  -- its legs exit the active States of its area
  pub leg_exits_is : (Active : VertexId → Type 0) (a : TransId) (s : VertexId) → LegExits m Active p a s → On p a × Active s × LiesInArea m p s
  leg_exits_is Active a s h =
      let on = scope_on shape rules p step h.0.1.1 in
      let area = has_area shape rules p step in
      let is = (route_exits shape rules p step Active area.0 s area.1).0 (a, on, h) in
      (on, is.0, (area.0, area.1, is.1))

  pub leg_exits_of : (Active : VertexId → Type 0) (s : VertexId) → Active s → LiesInArea m p s → (a : TransId) × On p a × LegExits m Active p a s
  leg_exits_of Active s is lies = (route_exits shape rules p step Active lies.0 s lies.1).1 (is, lies.2)

  -- they enter what it enters
  pub leg_enters_is : (a : TransId) (s : VertexId) → LegEnters m p a s → On p a × IsEnteredBy m p s
  leg_enters_is a s h = let on = leg_begins m p h.1.1 in (on, (route_enters shape rules p step s).0 (a, on, h))

  pub leg_enters_of : (s : VertexId) → IsEnteredBy m p s → (a : TransId) × On p a × LegEnters m p a s
  leg_enters_of s is = (route_enters shape rules p step s).1 is

  -- a leg that ends on a choice or history: there the route ends
  pub ends_of_choice : (a : TransId) (c : VertexId) → IsLastVertex m p a c → HasKind m c kinds.Choice → EndsOn m p c
  ends_of_choice a c last k =
      let on = leg_ends m p last.1 in
      (last.0, on, last.2, the_route.goes_on last.0 c kinds.Choice on last.2 k)

  pub ends_of_shallow : (a : TransId) (v : VertexId) → IsLastVertex m p a v → HasKind m v kinds.ShallowHistory → EndsOn m p v
  ends_of_shallow a v last k =
      let on = leg_ends m p last.1 in
      (last.0, on, last.2, the_route.goes_on last.0 v kinds.ShallowHistory on last.2 k)

  pub ends_of_deep : (a : TransId) (v : VertexId) → IsLastVertex m p a v → HasKind m v kinds.DeepHistory → EndsOn m p v
  ends_of_deep a v last k =
      let on = leg_ends m p last.1 in
      (last.0, on, last.2, the_route.goes_on last.0 v kinds.DeepHistory on last.2 k)

  pub last_of_end : (v : VertexId) (h : EndsOn m p v) → (HasKind m v kinds.Junction → ⊥) → IsLastVertex m p h.0 v
  last_of_end v h stops = (h.0, itself h.1, h.2, stops)

  -- what a leg calls at its end the route calls there, and the leg that ends there calls it
  pub leg_end_is : (a : TransId) (item : Item) → LegEnds m p a item → On p a × CallsAtEnd m p item
  leg_end_is a (items.Exit s) h = absurd h
  leg_end_is a (items.Effect u) h = absurd h
  leg_end_is a (items.Enter s) h = absurd h
  leg_end_is a (items.Opened r Plain) h = absurd h
  leg_end_is a (items.Opened r Shallow) h = (leg_begins m p h.1.1, (h.0, ends_of_shallow a h.0 h.1 h.2, h.2, h.3))
  leg_end_is a (items.Opened r Deep) h = (leg_begins m p h.1.1, (h.0, ends_of_deep a h.0 h.1 h.2, h.2, h.3))
  leg_end_is a (items.Pick c) h = (leg_begins m p h.0.1, (ends_of_choice a c h.0 h.1, h.1))

  pub leg_end_of : (item : Item) → CallsAtEnd m p item → (a : TransId) × On p a × LegEnds m p a item
  leg_end_of (items.Exit s) h = absurd h
  leg_end_of (items.Effect u) h = absurd h
  leg_end_of (items.Enter s) h = absurd h
  leg_end_of (items.Opened r Plain) h = absurd h.2
  leg_end_of (items.Opened r Shallow) h = (
    h.1.0,
    h.1.1,
    (h.0, last_of_end h.0 h.1 (λ j. let clash = kind_unique m h.0 kinds.ShallowHistory kinds.Junction h.2 j in cc), h.2, h.3),
  )
  leg_end_of (items.Opened r Deep) h = (
    h.1.0,
    h.1.1,
    (h.0, last_of_end h.0 h.1 (λ j. let clash = kind_unique m h.0 kinds.DeepHistory kinds.Junction h.2 j in cc), h.2, h.3),
  )
  leg_end_of (items.Pick c) h =
      (h.0.0, h.0.1, (last_of_end c h.0 (λ j. let clash = kind_unique m c kinds.Choice kinds.Junction h.1 j in cc), h.1))

  -- a leg that begins locally is the first, and the route is local
  pub local_leg_is : (a : TransId) (s : VertexId) → IsLocalFrom m p a s → GoesAs m p Local × IsSource m p s
  local_leg_is a s h =
      let start = state_start shape rules p step h.0 s (leg_ends m p h.1) h.2 h.3 in
      ((h.0, start, h.4), (h.0, start, h.2))

  pub local_leg_of : (s : VertexId) → GoesAs m p Local → IsSource m p s → (a : TransId) × On p a × IsLocalFrom m p a s
  local_leg_of s goes source =
      let same = one_start shape rules p step goes.0 source.0 Local goes.1 goes.2 (λ e. cc) source.1 in
      let leaves = subst (λ u. Leaves m u s) same source.2 in
      let on = of_starts m p goes.0 goes.1 in
      let state = inner_source shape rules p step goes.0 s Local goes.1 goes.2 (λ e. cc) leaves in
      (goes.0, on, (goes.0, itself on, leaves, state, goes.2))

  -- it opens the regions of its State in which the route does not end
  pub leg_opening_is : (a : TransId) (item : Item) → LegOpens m p a item → (r : RegionId) × (item ≡ items.Opened r Plain) × On p a × OpensBeside m p r
  leg_opening_is a (items.Exit s) h = absurd h
  leg_opening_is a (items.Effect u) h = absurd h
  leg_opening_is a (items.Enter s) h = absurd h
  leg_opening_is a (items.Opened r Plain) h =
      let is = local_leg_is a h.0 h.1 in
      (r, refl, leg_begins m p h.1.1, (is.0, (h.0, is.1, h.2), λ ends. h.3 ((aims shape rules p step a h.0 r (inr h.1) h.2).1 ends)))
  leg_opening_is a (items.Opened r Shallow) h = absurd h
  leg_opening_is a (items.Opened r Deep) h = absurd h
  leg_opening_is a (items.Pick c) h = absurd h

  pub leg_opening_of : (r : RegionId) → OpensBeside m p r → (a : TransId) × On p a × LegOpens m p a (items.Opened r Plain)
  leg_opening_of r h =
      let from = local_leg_of h.1.0 h.0 h.1.1 in (
        from.0,
        from.1,
        (h.1.0, from.2, h.1.2, λ aimed. h.2 ((aims shape rules p step from.0 h.1.0 r (inr from.2) h.1.2).0 aimed)),
      )
