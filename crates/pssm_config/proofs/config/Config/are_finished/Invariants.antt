-- the regions so far are finished
use Rattle.std.proofs.Common.{take, Contains}
use Rattle.pssm_model.specs.declared.ids.RegionId.{RegionId}
use Rattle.pssm_model.specs.declared.elements.DraftMachine.{DraftMachine}
use Rattle.pssm_model.specs.Configuration.{IsFinished}
use Rattle.pssm_config.specs.Tables.{Fits, configuration_of}
use Rattle.pssm_config.proofs.config.Config.are_finished.Given as goal

abbrev pub invariant-loop-r : goal.invariant-loop-r
invariant-loop-r l =
    (m : DraftMachine) → Fits m l.self → (r : RegionId) → Contains (take l.r-index l.regions) r → IsFinished m (configuration_of l.self) r
