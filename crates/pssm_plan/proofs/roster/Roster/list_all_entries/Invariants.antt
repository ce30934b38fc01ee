use Rattle.pssm_plan.proofs.Growing.{HasGrown}
use Rattle.pssm_plan.proofs.AddedCalls.{CalledBelow, entry_of}
use Rattle.pssm_plan.proofs.roster.Roster.list_all_entries.Given as goal

-- the entries of the vertices so far are listed
abbrev pub invariant-loop-number : goal.invariant-loop-number
invariant-loop-number l =
    HasGrown l.machine l.fn.self.calls.items (CalledBelow l.machine l.way entry_of l.number) l.self.calls.items
