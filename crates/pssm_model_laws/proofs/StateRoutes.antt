-- What a transition leaves, and the one start of a route.
use Rattle.std.proofs.Common.{◌≡◌, ◌<◌, [], ◌∷◌, length, Contains, sym, subst}
use Rattle.std.proofs.lemmas.List.Elements.{Contains-append_left}
use Rattle.pssm_model.specs.declared.ids.VertexId.{VertexId}
use Rattle.pssm_model.specs.declared.ids.TransId.{TransId}
use Rattle.pssm_model.specs.declared.elements.DraftMachine.{DraftMachine}
use Rattle.pssm_model.specs.declared.elements.Transition.{Transition}
use Rattle.pssm_model.specs.declared.steps.Route.{Route}
use Rattle.pssm_model.specs.Forest.{transition_at}
use Rattle.pssm_model.specs.Legs.{Leaves, On}
use Rattle.pssm_model.specs.Routes.{IsSource}
use Rattle.pssm_model.proofs.ElementLaws.{some_at, mapped_at}
use Rattle.pssm_model.proofs.RouteLaws.{in_one, is_one}

-- a transition that is there leaves a vertex
pub leaves_some : (m : DraftMachine) (t : TransId) → t.0 < length m.transitions → (s : VertexId) × Leaves m t s
leaves_some m t there =
    let x = some_at m.transitions t.0 there in
    (x.0.source, mapped_at (λ (y : Transition). y.source) (transition_at m t) x.0 x.1)

-- the one start of a route
module _ (p : Route) (t : TransId) (starts : p.starts ≡ t ∷ []) where
  pub is_start : Contains p.starts t
  is_start = subst (λ ts. Contains ts t) (sym starts) (in_one t)

  pub start_is_on : On p t
  start_is_on = Contains-append_left p.starts p.rest t is_start

  pub start_is : (u : TransId) → Contains p.starts u → u ≡ t
  start_is u inside = is_one t u (subst (λ ts. Contains ts u) starts inside)

  pub source_is_left : (m : DraftMachine) (s : VertexId) → IsSource m p s → Leaves m t s
  source_is_left m s h = subst (λ u. Leaves m u s) (start_is h.0 h.1) h.2
