-- the tasks of the objects so far stand before the one that is sought
use Rattle.std.proofs.Common.{◌≡◌, ◌+◌, take, length}
use Rattle.pssm_system.specs.inner.Keeping.{tasks_of}
use Rattle.pssm_system.proofs.situation.Situation.task_at.Given as goal

abbrev pub invariant-loop-k : goal.invariant-loop-k
invariant-loop-k l = length (tasks_of l.setting (take l.k l.self.objects.items)) + l.rest ≡ l.fn.i
