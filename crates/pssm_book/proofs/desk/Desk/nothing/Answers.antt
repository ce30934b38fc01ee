-- no task is listed, so none is ready
use Rattle.std.proofs.Common.{sym, ◌∙◌}
use Rattle.pssm_book.proofs.DeskLaws.{none_listed}
use Rattle.pssm_book.proofs.desk.Desk.nothing.Goals as goal

pub returns-then-task_count-eq0 : goal.returns-then-task_count-eq0
returns-then-task_count-eq0 c =
    (c.requires.still, none_listed c.args.self.now c.task_count.ensures.listed (sym c.task_count.ensures.count ∙ c.if-task_count-eq0.true))
