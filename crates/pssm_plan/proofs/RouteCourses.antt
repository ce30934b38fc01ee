-- What a step calls names parts of the machine.
use Rattle.std.proofs.Common.{◌<◌, length, subst, ⊎_elim}
use Rattle.std.proofs.lemmas.List.Elements.{All-contains}
use Rattle.std.proofs.lemmas.Option.{slice_get_within}
use Rattle.pssm_model.specs.declared.ids.VertexId.{VertexId}
use Rattle.pssm_model.specs.declared.ids.RegionId.{RegionId}
use Rattle.pssm_model.specs.declared.ids.TransId.{TransId}
use Rattle.pssm_model.specs.declared.elements.DraftMachine.{DraftMachine}
use Rattle.pssm_model.specs.declared.elements.Transition.{Transition}
use Rattle.pssm_model.specs.declared.elements.Vertex.{Vertex}
use Rattle.pssm_model.specs.declared.elements.VertexKind.TheVariants as kinds
use Rattle.pssm_model.specs.declared.elements.Owner.TheVariants.{Top, Region, State}
use Rattle.pssm_model.specs.declared.steps.Route.{Route}
use Rattle.pssm_model.specs.declared.steps.Mode.{Mode}
use Rattle.pssm_model.specs.declared.steps.Mode.TheVariants.{Plain, Shallow, Deep}
use Rattle.pssm_model.specs.declared.steps.Item.{Item}
use Rattle.pssm_model.specs.declared.steps.Item.TheVariants as items
use Rattle.pssm_model.specs.Shapes.{HasShape}
use Rattle.pssm_model.specs.WellFormed.{KeepsModelRules}
use Rattle.pssm_model.specs.RouteWords.{IsStepRoute}
use Rattle.pssm_model_laws.specs.inner.RouteWords.{IsEnteredBy}
use Rattle.pssm_model.specs.Forest.{vertex_at, transition_at}
use Rattle.pssm_model.specs.Forest.LiesUnder.{owned}
use Rattle.pssm_model.specs.Legs.{transitions_of}
use Rattle.pssm_model.specs.Course.{Head, Course}
use Rattle.pssm_model.specs.Course.Head.{Starts, Fires}
use Rattle.pssm_model.specs.Items.{StartOpens}
use Rattle.pssm_plan.specs.inner.OverRoutes.{LiesInArea, EndsOnChoice, GoesByRoutes, IsCalledOver}
use Rattle.pssm_legs.specs.Calls.{IsItemIn}
use Rattle.pssm_model.proofs.ElementLaws.{mapped_some}
use Rattle.pssm_model.proofs.OwnerChains.{owned_is_place}
use Rattle.pssm_model_laws.proofs.EndsApart.{step_is_route}
use Rattle.pssm_model_laws.proofs.KnownPlaces.{region_there}
use Rattle.pssm_plan.proofs.Depths.{scope_there}
use Rattle.pssm_plan.proofs.RoutePlaces.{entered_in_area}

module _ (m : DraftMachine) where
  -- what lies where a route exits and enters is a vertex of the machine, and so is what it enters
  pub area_there : (p : Route) (s : VertexId) → LiesInArea m p s → s.0 < length m.vertices
  area_there p s h = scope_there m s h.0 h.2

  pub entered_there : HasShape m → KeepsModelRules m → (p : Route) → IsStepRoute m p → (s : VertexId) → IsEnteredBy m p s → s.0 < length m.vertices
  entered_there shape rules p step s h = area_there p s (entered_in_area shape rules p step s h)

  -- and so is the choice on which it ends
  pub picked_there : HasShape m → (p : Route) (c : VertexId) → EndsOnChoice m p c → c.0 < length m.vertices
  picked_there shape p c h =
      let last = h.0 in
      let x = mapped_some (λ (x : Transition). x.target) (transition_at m last.0) c last.2 in
      subst (λ (v : VertexId). v.0 < length m.vertices) x.2 (shape.ends last.0 x.0 x.1).1

module _ {m : DraftMachine} (shape : HasShape m) (rules : KeepsModelRules m) (course : Course) (g : GoesByRoutes m course) where
  -- a region that is opened
  region_at : (head : Head) (r : RegionId) (mode : Mode) → StartOpens m head (items.Opened r mode) → r.0 < length m.regions
  region_at Starts r Plain starts = owned_is_place m (Region r) Top starts
  region_at Starts r Shallow starts = absurd starts
  region_at Starts r Deep starts = absurd starts
  region_at (Fires routes) r mode starts = absurd starts

  opened_there : (r : RegionId) (mode : Mode) → IsCalledOver m course (items.Opened r mode) → r.0 < length m.regions
  opened_there r mode h =
      ⊎_elim
      (⊎_elim
      (λ starts. region_at course.head r mode starts)
      (⊎_elim
      (λ after. owned_is_place m (Region r) (State after.0) after.1.1)
      (λ beside. (let owner = beside.1.1.1 in owned_is_place m (Region r) (State owner.0) owner.2))))
      (λ over. (let ends = over.1.1 in region_there shape ends.0 r (owned ends.3)))
      h

  -- what it calls
  pub called_there : (x : Item) → IsCalledOver m course x → IsItemIn m x
  called_there (items.Exit s) h = area_there m h.0 s h.1.2
  called_there (items.Effect t) h =
      All-contains (λ (u : TransId). u.0 < length m.transitions) (transitions_of h.0) t (step_is_route (g.routes h.0 h.1)).in_range h.2
  called_there (items.Enter s) h =
      ⊎_elim
      (λ over. entered_there m shape rules over.0 (g.routes over.0 over.1.0) s over.1.1)
      (λ back. (
      let at = mapped_some (λ (x : Vertex). x.kind) (vertex_at m s) kinds.State (g.restored back.0 s back.1) in
      slice_get_within m.vertices s.0 at.0 at.1
      ))
      h
  called_there (items.Opened r mode) h = opened_there r mode h
  called_there (items.Pick c) h = picked_there m shape h.0 c h.1.1
