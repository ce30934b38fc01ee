use Rattle.pssm_enabled.specs.Telling.{Tells}
use Rattle.pssm_enabled.proofs.PassingLaws.{GoesBack}
use Rattle.pssm_enabled.proofs.passing.Points.add_sources.Given as goal

-- it has gone back over so many of the transitions
abbrev pub invariant-loop-t : goal.invariant-loop-t
invariant-loop-t g l = GoesBack l.machine (Tells l.machine (goal.T-post g l.truth)) l.t-items l.initial.self l.self l.t-index
