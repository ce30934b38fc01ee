-- the regions so far have one
use Rattle.std.proofs.Common.{take, Contains}
use Rattle.pssm_model.specs.declared.ids.RegionId.{RegionId}
use Rattle.pssm_model.specs.Configuration.{HasActiveFinal}
use Rattle.pssm_config.specs.Tables.{configuration_of}
use Rattle.pssm_object.proofs.ending.are_final.Given as goal

abbrev pub invariant-loop-r : goal.invariant-loop-r
invariant-loop-r l = (r : RegionId) → Contains (take l.r-index l.regions) r → HasActiveFinal l.machine (configuration_of l.config) r
