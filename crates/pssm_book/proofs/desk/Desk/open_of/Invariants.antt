-- the claims have the ready tasks so far
use Rattle.std.proofs.Common.{◌-◌, length}
use Rattle.pssm_system.specs.Tasks.{own_tasks}
use Rattle.pssm_book.specs.inner.Nexts.{AreOutFirst}
use Rattle.pssm_book.proofs.desk.Desk.open_of.Given as goal

abbrev pub decreases-loop-task : goal.decreases-loop-task
decreases-loop-task l = length (own_tasks l.object l.self.system.tasks) - l.i

abbrev pub invariant-loop-task : goal.invariant-loop-task
invariant-loop-task l = AreOutFirst l.self l.object l.i
