use Rattle.pssm_plan.proofs.Growing.{HasGrown}
use Rattle.pssm_plan.proofs.AddedCalls.{ReopenedBelow}
use Rattle.pssm_plan.proofs.roster.Roster.list_all_reopened.Given as goal

-- the openings of the regions that open once more so far are listed
abbrev pub invariant-loop-number : goal.invariant-loop-number
invariant-loop-number l =
    HasGrown l.machine l.fn.self.calls.items (ReopenedBelow l.machine l.fn.self.calls.items l.way l.number) l.self.calls.items
