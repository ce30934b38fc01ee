-- So many do tasks are passed.
use Rattle.std.proofs.Common.{◌≡◌, ◌+◌, length}
use Rattle.pssm_object.specs.Doing.{do_tasks_below}
use Rattle.pssm_object.proofs.doing.find_do_task.Given as goal

abbrev pub invariant-loop-v : goal.invariant-loop-v
invariant-loop-v l = length (do_tasks_below l.machine l.config l.v) + l.rest ≡ l.i
