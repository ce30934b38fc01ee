-- What a complete State is but for its regions.
use Rattle.std.specs.Prelude.{◌≤◌, slice_index}
use Rattle.pssm_model.specs.declared.ids.VertexId.{VertexId}
use Rattle.pssm_model.specs.declared.elements.DraftMachine.{DraftMachine}
use Rattle.pssm_model.specs.declared.elements.VertexKind.TheVariants as kinds
use Rattle.pssm_model.specs.Forest.{HasKind}
use Rattle.pssm_model.specs.Configuration.{do_steps_of}
use Rattle.pssm_config.specs.Tables.{Tables, configuration_of}

-- an active State that has done its do steps
pub record IsDone (m : DraftMachine) (tables : Tables) (s : VertexId) : Type 0 where
  pub state : HasKind m s kinds.State
  pub active : (configuration_of tables).Active s
  pub steps : do_steps_of m s ≤ slice_index tables.steps s.0
