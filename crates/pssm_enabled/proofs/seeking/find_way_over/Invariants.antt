-- it has gone on from so many steps, and found no way out
use Rattle.std.proofs.Common.{◌-◌}
use Rattle.pssm_model.specs.Routes.{Truth}
use Rattle.pssm_enabled.specs.Telling.{Tells}
use Rattle.pssm_enabled.specs.inner.Seeking.{ComesOnce, IsUnderWay}
use Rattle.pssm_enabled.proofs.seeking.find_way_over.Given as goal

abbrev pub invariant-loop-place : goal.invariant-loop-place
invariant-loop-place g l =
    ComesOnce l.machine l.search
    × ((truth : Truth) → Tells l.machine (goal.T-post g l.truth) truth → IsUnderWay l.machine truth l.within l.fn.start l.fn.search l.search l.place)

abbrev pub decreases-loop-place : goal.decreases-loop-place
decreases-loop-place g l = 4096 - l.place
