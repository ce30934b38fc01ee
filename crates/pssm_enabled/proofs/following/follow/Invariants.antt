-- the steps so far tell a way
use Rattle.std.proofs.Common.{◌≡◌, ◌<◌, ◌-◌, length}
use Rattle.pssm_model.specs.Routes.{Truth}
use Rattle.pssm_enabled.specs.Telling.{Tells}
use Rattle.pssm_enabled.proofs.FollowedWays.{IsFollowing}
use Rattle.pssm_enabled.proofs.following.follow.Given as goal

abbrev pub invariant-loop-place : goal.invariant-loop-place
invariant-loop-place g l =
    (length l.steps ≡ 64)
    × (l.last.by.0 < length l.machine.transitions)
    × ((values : Truth) → Tells l.machine (goal.T-post g l.truth) values → IsFollowing l.machine values l.within l.fn.start l.steps l.last l.place)

abbrev pub decreases-loop-place : goal.decreases-loop-place
decreases-loop-place g l = 64 - l.place
