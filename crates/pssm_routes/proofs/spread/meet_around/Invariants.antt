-- the regions so far are met
use Rattle.pssm_routes.specs.inner.Spread.{IsMeeting}
use Rattle.pssm_routes.proofs.spread.meet_around.Given as goal

abbrev pub invariant-loop-left : goal.invariant-loop-left
invariant-loop-left l = IsMeeting l.machine l.fn.v l.claimed l.fn.met l.met l.region

abbrev pub decreases-loop-left : goal.decreases-loop-left
decreases-loop-left l = l.left
