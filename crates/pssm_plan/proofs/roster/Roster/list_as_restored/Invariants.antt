use Rattle.std.proofs.Common.{take}
use Rattle.pssm_plan.proofs.Growing.{HasGrown, AddedBy}
use Rattle.pssm_plan.proofs.AddedCalls.{OpenedAs}
use Rattle.pssm_plan.proofs.roster.Roster.list_as_restored.Given as goal

-- what the restored States so far call is listed
abbrev pub invariant-loop-one : goal.invariant-loop-one
invariant-loop-one l = HasGrown l.machine l.fn.self.calls.items (AddedBy (OpenedAs l.machine l.s) (take l.one-index l.restored)) l.self.calls.items
