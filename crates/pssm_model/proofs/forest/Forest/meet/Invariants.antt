use Rattle.std.proofs.Common.{◌+◌, get_or}
use Rattle.pssm_model.proofs.Nesting.{IsMeeting}
use Rattle.pssm_model.proofs.forest.Forest.meet.Given as goal

-- how far the regions have come together
abbrev pub invariant-loop-second : goal.invariant-loop-second
invariant-loop-second l = IsMeeting l.fn.draft l.fn.a l.fn.b l.first l.second

-- fewer regions stand above them each time
abbrev pub decreases-loop-second : goal.decreases-loop-second
decreases-loop-second l = get_or l.fn.self.regions l.first.0 0 + get_or l.fn.self.regions l.second.0 0
