-- the tasks of the objects so far
use Rattle.std.proofs.Common.{◌≡◌, take, length}
use Rattle.pssm_system.specs.inner.Keeping.{tasks_of}
use Rattle.pssm_system.proofs.situation.Situation.task_count.Given as goal

abbrev pub invariant-loop-k : goal.invariant-loop-k
invariant-loop-k l = l.count ≡ length (tasks_of l.setting (take l.k l.self.objects.items))
