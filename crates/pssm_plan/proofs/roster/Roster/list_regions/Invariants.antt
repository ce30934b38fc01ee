use Rattle.std.proofs.Common.{IsTrue, take}
use Rattle.pssm_plan.proofs.Growing.{HasGrown, AddedBy}
use Rattle.pssm_plan.proofs.AddedCalls.{OpenedIf}
use Rattle.pssm_plan.proofs.roster.Roster.list_regions.Given as goal

-- the openings of the regions so far are listed
abbrev pub invariant-loop-r : goal.invariant-loop-r
invariant-loop-r l =
    HasGrown l.machine l.fn.self.calls.items (AddedBy (OpenedIf l.mode (IsTrue l.wanted)) (take l.r-index l.r-items)) l.self.calls.items
