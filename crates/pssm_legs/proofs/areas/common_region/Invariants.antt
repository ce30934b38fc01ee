use Rattle.std.proofs.Common.{◌<◌, length}
use Rattle.pssm_model.specs.Forest.{IsScope}
use Rattle.pssm_model_laws.proofs.CommonRegions.{IsMet}
use Rattle.pssm_legs.proofs.areas.common_region.Given as goal

-- the innermost region of the ends of the first and the targets so far
abbrev pub invariant-loop-t : goal.invariant-loop-t
invariant-loop-t l =
    IsScope l.fn.machine (IsMet l.fn.machine l.fn.first l.fn.further l.t-index) l.common × (l.common.0 < length l.fn.machine.regions)
