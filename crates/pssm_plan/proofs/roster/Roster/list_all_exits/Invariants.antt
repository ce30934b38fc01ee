use Rattle.pssm_config.specs.Tables.{configuration_of}
use Rattle.pssm_plan.proofs.Growing.{HasGrown}
use Rattle.pssm_plan.proofs.AddedCalls.{ExitedBelow}
use Rattle.pssm_plan.proofs.roster.Roster.list_all_exits.Given as goal

-- the exits of the active vertices so far are listed
abbrev pub invariant-loop-number : goal.invariant-loop-number
invariant-loop-number l =
    HasGrown l.machine l.fn.self.calls.items (ExitedBelow l.machine (configuration_of l.config) l.way l.number) l.self.calls.items
