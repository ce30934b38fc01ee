-- How large a machine may be.
use Rattle.std.specs.Prelude.{◌≤◌, length}
use Rattle.pssm_model.specs.declared.elements.DraftMachine.{DraftMachine}

-- at most 1,024 regions, 4,096 vertices and 8,192 transitions (this profile's choice)
pub record IsWithinLimits (m : DraftMachine) : Type 0 where
  pub regions : length m.regions ≤ 1024
  pub vertices : length m.vertices ≤ 4096
  pub transitions : length m.transitions ≤ 8192
