use Rattle.std.proofs.Common.{take}
use Rattle.pssm_plan.specs.inner.Calling.{IsEffectOf}
use Rattle.pssm_plan.proofs.Growing.{HasGrown, AddedBy}
use Rattle.pssm_plan.proofs.roster.Roster.list_legs.Given as goal

-- the effects of the legs so far are listed
abbrev pub invariant-loop-leg : goal.invariant-loop-leg
invariant-loop-leg l = HasGrown l.machine l.fn.self.calls.items (AddedBy IsEffectOf (take l.leg-index l.legs)) l.self.calls.items
