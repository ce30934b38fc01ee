use Rattle.pssm_limits.specs.inner.Past.{IsFirstBelow}
use Rattle.pssm_limits.proofs.past.first_many.Given as goal

abbrev pub invariant-loop-n : goal.invariant-loop-n
invariant-loop-n l = IsFirstBelow l.fn.file l.n l.found
