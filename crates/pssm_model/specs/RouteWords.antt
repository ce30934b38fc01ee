-- By which routes steps go.
use Rattle.std.specs.Prelude.{◌≡◌, ◌⊎◌, [], ◌∷◌}
use Rattle.pssm_model.specs.declared.ids.VertexId.{VertexId}
use Rattle.pssm_model.specs.declared.ids.TransId.{TransId}
use Rattle.pssm_model.specs.declared.elements.DraftMachine.{DraftMachine}
use Rattle.pssm_model.specs.declared.steps.Route.{Route}
use Rattle.pssm_model.specs.Legs.{Leaves}
use Rattle.pssm_model.specs.Routes.{IsRoute, IsStateRoute}
use Rattle.pssm_model.specs.FiringSets.{IsLateOrigin}

-- a route that starts with one transition out of a vertex from which a step goes on within itself
-- (UML 2.5.1 14.2.3.7, initial, history and choice)
abbrev pub IsRouteWithin : DraftMachine → Route → Type 0
IsRouteWithin m p = (v : VertexId) × (t : TransId) × IsLateOrigin m v × IsRoute m p × (p.starts ≡ t ∷ []) × Leaves m t v

-- a route by which steps go: out of States, or from where a step goes on within itself (UML 2.5.1 14.2.3.8, compound transitions)
abbrev pub IsStepRoute : DraftMachine → Route → Type 0
IsStepRoute m p = IsStateRoute m p ⊎ IsRouteWithin m p
