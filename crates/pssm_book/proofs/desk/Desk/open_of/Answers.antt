-- where no task is left, all are among the claims
use Rattle.std.proofs.Common.{sym}
use Rattle.pssm_system.specs.Tasks.{own_tasks}
use Rattle.pssm_book.proofs.DeskLaws.{out_of_first}
use Rattle.pssm_book.proofs.RunLaws.{none_past}
use Rattle.pssm_book.proofs.desk.Desk.open_of.Goals as goal

pub returns-clause-none : goal.returns-clause-none
returns-clause-none c =
    let past = none_past (own_tasks c.args.object c.args.self.now.system.tasks) c.loop-task.i (sym c.in_default.ensures.task) in
    out_of_first c.args.self.now c.args.object c.loop-task.i c.in_default.ensures.listed past c.loop-task.invariant
