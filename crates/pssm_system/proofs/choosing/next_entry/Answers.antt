-- where there is neither a move nor a ready task, nothing may come next
use Rattle.std.proofs.Common.{IfNone, sym, subst, ◌∙◌}
use Rattle.std.specs.Option.{option_copied}
use Rattle.pssm_object.specs.Following.{HasNoMove}
use Rattle.pssm_object.specs.Tasks.{ready_tasks}
use Rattle.pssm_system.proofs.Views.{nothing_next, none_of_zero}
use Rattle.pssm_system.proofs.choosing.next_entry.Goals as goal

pub returns-then-count-eq0 : goal.returns-then-count-eq0
returns-then-count-eq0 c =
    let none = subst (λ chosen. IfNone chosen (HasNoMove c.args.class.now c.args.object.now (option_copied c.args.signal))) c.in-None.is
    (let moves = c.in_ok-entry.ensures in moves.none) in
    nothing_next c.args.class.now c.requires.class c.args.object.now (option_copied c.args.signal)
    (none_of_zero (ready_tasks c.args.class.now.machine c.args.object.now) (sym c.task_count.ensures.count ∙ sym c.from-count.ensures ∙ c.if-count-eq0.true))
    (λ J e s move candidate keeps. none J s e move candidate keeps)
