use Rattle.pssm_enabled.specs.inner.Passing.{IsFoundOnce}
use Rattle.pssm_enabled.proofs.PassingLaws.{AreEnds}
use Rattle.pssm_enabled.proofs.passing.Points.add_ends.Given as goal

-- the vertices so far at which ways end are found
abbrev pub invariant-loop-number : goal.invariant-loop-number
invariant-loop-number l = IsFoundOnce l.machine l.self × AreEnds l.machine l.self l.number
