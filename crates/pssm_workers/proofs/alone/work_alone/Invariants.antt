-- the share keeps its parts
use Rattle.std.specs.Prelude.{◌≡◌}
use Rattle.pssm_workers.proofs.alone.work_alone.Given as goal

abbrev pub invariant-loop-i : goal.invariant-loop-i
invariant-loop-i g l = l.share.parts ≡ l.initial.share.parts
