use Rattle.pssm_limits.specs.inner.Variables.{AreVariables}
use Rattle.pssm_limits.proofs.classes.variables_of.Given as goal

abbrev pub invariant-loop-n : goal.invariant-loop-n
invariant-loop-n l = AreVariables l.fn.file l.n l.variables.items
