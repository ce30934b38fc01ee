use Rattle.std.proofs.Common.{take}
use Rattle.pssm_plan.proofs.Growing.{HasGrown, AddedBy}
use Rattle.pssm_plan.proofs.AddedCalls.{OpenedBySome}
use Rattle.pssm_plan.proofs.roster.Roster.list_defaults.Given as goal

-- the openings of the regions so far are listed that one of the ways opens
abbrev pub invariant-loop-r : goal.invariant-loop-r
invariant-loop-r l =
    HasGrown l.machine l.fn.self.calls.items (AddedBy (OpenedBySome l.machine l.ways l.s) (take l.r-index l.r-items)) l.self.calls.items
