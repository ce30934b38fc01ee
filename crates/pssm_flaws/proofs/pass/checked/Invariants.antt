use Rattle.pssm_tally.specs.Tallies.{CountsTo}
use Rattle.pssm_flaws.specs.inner.Steps.{NoneBefore}
use Rattle.pssm_flaws.proofs.pass.checked.Given as goal

abbrev pub invariant-loop-n : goal.invariant-loop-n
invariant-loop-n l = CountsTo l.elements l.n l.tally × NoneBefore l.elements l.n
