-- The do tasks of the vertices so far are counted.
use Rattle.std.proofs.Common.{◌≡◌, ◌≤◌, length}
use Rattle.pssm_object.specs.Doing.{do_tasks_below}
use Rattle.pssm_object.proofs.doing.count_do_tasks.Given as goal

abbrev pub invariant-loop-v : goal.invariant-loop-v
invariant-loop-v l = (l.count ≡ length (do_tasks_below l.machine l.config l.v)) × (l.count ≤ l.v)
