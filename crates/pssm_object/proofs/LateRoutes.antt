-- Late routes: there always is one from an initial vertex, from a history vertex with a transition and from a choice, and each is short.
use Rattle.std.proofs.Common.{◌<◌, length, sym, subst, inl, inr, arith}
use Rattle.pssm_model.specs.declared.ids.VertexId.{VertexId}
use Rattle.pssm_model.specs.declared.elements.DraftMachine.{DraftMachine}
use Rattle.pssm_model.specs.declared.elements.VertexKind.{VertexKind}
use Rattle.pssm_model.specs.declared.elements.VertexKind.TheVariants as kinds
use Rattle.pssm_model.specs.declared.steps.Route.{Route}
use Rattle.pssm_model.specs.Forest.{HasKind}
use Rattle.pssm_model.specs.Paths.{HasOut}
use Rattle.pssm_model.specs.Routes.{Truth}
use Rattle.pssm_model.specs.FiringSets.{IsLateRoute}
use Rattle.pssm_model.specs.Shapes.{HasShape}
use Rattle.pssm_model.specs.WellFormed.{KeepsModelRules}
use Rattle.pssm_routes.proofs.SomeLate.{some_late}
use Rattle.pssm_semantics.specs.Forms.{IsShortRoute}
use Rattle.pssm_object.specs.inner.Firing.{IsHistoryKind}
use Rattle.pssm_object.proofs.MachineLaws.{history_origin, initial_leads, choice_leads}
use Rattle.pssm_object.proofs.Unshared.{short_route}

module _ {m : DraftMachine} (shape : HasShape m) (rules : KeepsModelRules m) (truth : Truth) (v : VertexId) where
  pub from_initial : HasKind m v kinds.Initial → (route : Route) × IsLateRoute m truth v route
  from_initial initial = some_late rules truth shape v (inl initial) (initial_leads rules v initial)

  pub from_history : (kind : VertexKind) → IsHistoryKind kind → HasKind m v kind → HasOut m v → (route : Route) × IsLateRoute m truth v route
  from_history kind is has out = some_late rules truth shape v (history_origin m v kind is has) out

  pub from_choice : HasKind m v kinds.Choice → (route : Route) × IsLateRoute m truth v route
  from_choice choice = some_late rules truth shape v (inr (inr choice)) (choice_leads rules v choice)

  -- it has at most as many transitions as the machine has
  pub late_is_short : (route : Route) → IsLateRoute m truth v route → IsShortRoute route
  late_is_short route late = short_route shape route late.route_is (subst (λ ts. 0 < length ts) (sym late.leaves.1) (omega arith))
