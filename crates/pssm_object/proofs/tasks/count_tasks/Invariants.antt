-- the tasks so far are counted
use Rattle.std.proofs.Common.{◌≡◌, ◌≤◌, ◌-◌, take, length}
use Rattle.pssm_plan.specs.Standings.{ready_before, ready_calls}
use Rattle.pssm_object.proofs.Counting.{tasks_in}
use Rattle.pssm_object.proofs.tasks.count_tasks.Given as goal

abbrev pub decreases-loop-next : goal.decreases-loop-next
decreases-loop-next l = length l.plan.calls - l.place

abbrev pub invariant-loop-next : goal.invariant-loop-next
invariant-loop-next l = (l.count ≡ length (tasks_in (take (ready_before l.plan.calls l.place) (ready_calls l.plan)))) × (l.count ≤ l.place)
