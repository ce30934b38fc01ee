use Rattle.std.proofs.Common.{◌≡◌}
use Rattle.pssm_unmet.specs.inner.Found.{first_before}
use Rattle.pssm_unmet.proofs.finding.first_of_all.Given as goal

-- the first of the elements before this one
abbrev pub invariant-loop-n : goal.invariant-loop-n
invariant-loop-n l = l.first ≡ first_before l.file l.n
