use Rattle.std.proofs.Common.{◌-◌}
use Rattle.pssm_model.specs.Routes.{Truth}
use Rattle.pssm_enabled.specs.Telling.{Tells}
use Rattle.pssm_enabled.specs.inner.Passing.{IsFoundOnce, HasEnds, HasGoneBack, AllLead}
use Rattle.pssm_enabled.proofs.passing.Points.of.Given as goal

-- it has gone back from so many
abbrev pub invariant-loop-place : goal.invariant-loop-place
invariant-loop-place g l =
    IsFoundOnce l.machine l.points
    × HasEnds l.machine l.points
    × ((values : Truth) → Tells l.machine (goal.T-post g l.truth) values → HasGoneBack l.machine values l.points l.place × AllLead l.machine values l.points)

abbrev pub decreases-loop-place : goal.decreases-loop-place
decreases-loop-place g l = 4096 - l.place
