use Rattle.pssm_plan.proofs.Growing.{HasGrown}
use Rattle.pssm_plan.proofs.AddedCalls.{CalledBelow, opening_of}
use Rattle.pssm_plan.proofs.roster.Roster.list_all_openings.Given as goal

-- the openings of the regions so far are listed
abbrev pub invariant-loop-number : goal.invariant-loop-number
invariant-loop-number l =
    HasGrown l.machine l.fn.self.calls.items (CalledBelow l.machine l.way (opening_of l.mode) l.number) l.self.calls.items
