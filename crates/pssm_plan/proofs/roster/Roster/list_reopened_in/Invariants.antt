use Rattle.std.proofs.Common.{take}
use Rattle.pssm_plan.proofs.Growing.{HasGrown, AddedBy}
use Rattle.pssm_plan.proofs.DirectWays.{ReopenedAt}
use Rattle.pssm_plan.proofs.roster.Roster.list_reopened_in.Given as goal

-- the openings of the regions so far are listed that open once more
abbrev pub invariant-loop-r : goal.invariant-loop-r
invariant-loop-r l =
    HasGrown l.machine l.fn.self.calls.items (AddedBy (ReopenedAt l.machine l.fn.self.calls.items l.way) (take l.r-index l.r-items)) l.self.calls.items
