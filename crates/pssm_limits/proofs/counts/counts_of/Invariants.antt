use Rattle.std.proofs.Common.{◌≡◌, take, map}
use Rattle.pssm_numbering.specs.Numbering.{machines}
use Rattle.pssm_limits.specs.inner.Counts.{cut_count}
use Rattle.pssm_limits.proofs.counts.counts_of.Given as goal

abbrev pub invariant-loop-k : goal.invariant-loop-k
invariant-loop-k l = l.counts.items ≡ map (cut_count l.what l.file) (take l.k (machines l.file))
