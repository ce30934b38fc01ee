-- Of the vertices so far those with do steps have lower numbers.
use Rattle.std.proofs.Common.{◌≤◌}
use Rattle.pssm_object.proofs.Doers.{HasNoneFrom}
use Rattle.pssm_object.proofs.doing.doers_of.Given as goal

abbrev pub invariant-loop-v : goal.invariant-loop-v
invariant-loop-v l = (l.doers ≤ l.v) × HasNoneFrom l.machine l.doers l.v
