-- Machines by themselves: proper ones.
use Rattle.std.specs.Prelude.{◌≡◌, ◌≤◌, length, All}
use Rattle.pssm_model.specs.declared.elements.DraftMachine.{DraftMachine}
use Rattle.pssm_model.specs.declared.elements.VertexKind.TheVariants as kinds
use Rattle.pssm_model.specs.Shapes.{HasShape}

-- a machine with at most 64 do steps a State (this profile's choice)
pub record IsProperMachine (m : DraftMachine) : Type 0 where
  pub shape : HasShape m
  pub few_steps : All (λ x. x.kind ≡ kinds.State → length x.steps ≤ 64) m.vertices
