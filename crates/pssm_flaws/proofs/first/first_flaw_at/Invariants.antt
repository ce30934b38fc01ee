use Rattle.pssm_flaws.proofs.FlawLaws.{NoFlawBefore}
use Rattle.pssm_flaws.proofs.first.first_flaw_at.Given as goal

abbrev pub invariant-loop-place : goal.invariant-loop-place
invariant-loop-place l = NoFlawBefore l.elements l.n l.place
