-- How a route goes on over entry points, one after another, and ends behind the last of them or behind a fork.
use Rattle.std.specs.Prelude.{◌≡◌, List, ◌++◌}
use Rattle.pssm_model.specs.declared.ids.VertexId.{VertexId}
use Rattle.pssm_model.specs.declared.ids.TransId.{TransId}
use Rattle.pssm_model.specs.declared.elements.DraftMachine.{DraftMachine}
use Rattle.pssm_model.specs.declared.elements.VertexKind.TheVariants as kinds
use Rattle.pssm_model.specs.Forest.{HasKind}
use Rattle.pssm_model.specs.Legs.{Leaves, Enters}
use Rattle.pssm_model.specs.Routes.{Truth}
use Rattle.pssm_enabled.specs.inner.Fitting.{EndsAlone}
use Rattle.pssm_enabled.specs.Behind.{CanGoOn, GoesOnFrom}

-- A route ends with each transition out of the vertex.
abbrev pub AllEndAlone : DraftMachine → VertexId → Type 0
AllEndAlone m v = (t : TransId) → Leaves m t v → EndsAlone m t

-- the one transition out of an entry point, which leads to another
pub record IsStepDown (m : DraftMachine) (v : VertexId) (t : TransId) : Type 0 where
  pub entry : HasKind m v kinds.EntryPoint
  pub leaves : Leaves m t v
  pub only : (u : TransId) → Leaves m u v → u ≡ t
  pub end : VertexId
  pub enters : Enters m t end
  pub further : HasKind m end kinds.EntryPoint

-- Where a route can go on from the first vertex, it can from the last; and with the transitions between them what goes on from the last goes on
-- from the first.
abbrev pub IsDown : DraftMachine → Truth → VertexId → List TransId → VertexId → Type 0
IsDown m truth v over to =
    CanGoOn m truth v → CanGoOn m truth to × ((ts : List TransId) → GoesOnFrom m truth to ts → GoesOnFrom m truth v (over ++ ts))
