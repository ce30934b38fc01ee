use Rattle.std.proofs.Common.{take}
use Rattle.pssm_plan.specs.inner.Calling.{IsPickAt}
use Rattle.pssm_plan.proofs.Growing.{HasGrown, AddedBy}
use Rattle.pssm_plan.proofs.roster.Roster.list_further_picks.Given as goal

-- the picks of the legs so far are listed
abbrev pub invariant-loop-leg : goal.invariant-loop-leg
invariant-loop-leg l =
    HasGrown l.machine l.fn.self.calls.items (AddedBy (IsPickAt l.machine l.way) (take l.leg-index l.legs)) l.self.calls.items
