-- The tables count the do steps that are done.
use Rattle.std.proofs.Common.{sym, ◌∙◌, arith}
use Rattle.std.proofs.lemmas.Bool.{false≢true}
use Rattle.pssm_object.proofs.DoingNext.{some_listed, none_listed, next_answered}
use Rattle.pssm_object.proofs.doing.next_step.Goals.{else-is_active-via-then-is_active+else-from-count_steps, else-is_active-via-else-is_active}
use Rattle.pssm_object.proofs.doing.next_step.Goals as goal

pub returns-then-from-count_steps-clause-listed : goal.returns-then-from-count_steps-clause-listed
returns-then-from-count_steps-clause-listed c =
    let from = c.from.ensures in
    let count = c.count_steps.ensures in
    let test = c.if-from-count_steps.true in
    some_listed c.args.machine.now c.args.config.now c.args.s c.steps_done-done.result c.steps_done-done.ensures
    (c.is_active.ensures.0 c.if-is_active.true) (omega (arith, from, count, test))

pub returns-then-from-count_steps-clause-next : goal.returns-then-from-count_steps-clause-next
returns-then-from-count_steps-clause-next c =
    next_answered c.args.machine.now c.args.config.now c.args.s _ (returns-then-from-count_steps-clause-listed c)

pub returns-else-is_active-clause-listed : goal.returns-else-is_active-clause-listed
returns-else-is_active-clause-listed c =
    none_listed c.args.machine.now c.args.config.now c.args.s c.steps_done-done.result c.steps_done-done.ensures
    (elim c.else-is_active.branch [
      | else-is_active-via-then-is_active+else-from-count_steps w ↦
          λ active lt.
          let from = w.from.ensures in
          let count = w.count_steps.ensures in
          let test = w.if-from-count_steps.false in
          absurd (omega (arith, from, count, test, lt))
      | else-is_active-via-else-is_active w ↦ λ active lt. absurd (false≢true (sym w.if-is_active.false ∙ c.is_active.ensures.1 active))
    ])

pub returns-else-is_active-clause-next : goal.returns-else-is_active-clause-next
returns-else-is_active-clause-next c =
    next_answered c.args.machine.now c.args.config.now c.args.s _ (returns-else-is_active-clause-listed c)
