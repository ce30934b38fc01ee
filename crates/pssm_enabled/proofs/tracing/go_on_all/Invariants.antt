-- it has gone on from so many vertices
use Rattle.std.proofs.Common.{◌-◌}
use Rattle.pssm_model.specs.Routes.{Truth}
use Rattle.pssm_enabled.specs.Telling.{Tells}
use Rattle.pssm_enabled.specs.inner.Passing.{KnowsWays, IsFoundOnce}
use Rattle.pssm_enabled.specs.Behind.{CanGoOn}
use Rattle.pssm_enabled.specs.inner.Behind.{IsGoingOn}
use Rattle.pssm_enabled.proofs.tracing.go_on_all.Given as goal

abbrev pub invariant-loop-place : goal.invariant-loop-place
invariant-loop-place g l =
    IsFoundOnce l.machine l.come
    × ((values : Truth) → Tells l.machine (goal.T-post g l.truth) values → KnowsWays l.machine values l.good → CanGoOn l.machine values l.fn.v
    → IsGoingOn l.machine values l.fn.v l.found.items l.come l.place)

abbrev pub decreases-loop-place : goal.decreases-loop-place
decreases-loop-place g l = 4096 - l.place
