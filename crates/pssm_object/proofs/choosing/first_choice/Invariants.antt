-- none of the ready items so far is an opening or a pick
use Rattle.std.proofs.Common.{◌-◌, length}
use Rattle.pssm_plan.specs.Standings.{ready_before, ready_calls}
use Rattle.pssm_object.specs.inner.Choosing.{LacksChoices}
use Rattle.pssm_object.proofs.choosing.first_choice.Given as goal

abbrev pub decreases-loop-next : goal.decreases-loop-next
decreases-loop-next l = length l.plan.calls - l.place

abbrev pub invariant-loop-next : goal.invariant-loop-next
invariant-loop-next l = LacksChoices (ready_calls l.plan) 0 (ready_before l.plan.calls l.place)
