use Rattle.std.proofs.Common.{◌<◌, [], length, take}
use Rattle.pssm_model.specs.Forest.{IsScope}
use Rattle.pssm_routes.specs.inner.Spans.{IsMetBy}
use Rattle.pssm_routes.proofs.areas.region_of_starts.Given as goal

-- the innermost region of the vertices so far
abbrev pub invariant-loop-u : goal.invariant-loop-u
invariant-loop-u l = IsScope l.machine (IsMetBy l.machine l.fn.t (take l.u-index l.more) []) l.common × (l.common.0 < length l.machine.regions)
