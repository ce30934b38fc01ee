-- each turn looks at one ready item more
use Rattle.std.proofs.Common.{◌+◌, ◌∙◌, ℕ, sym, ap, arith}
use Rattle.pssm_object.proofs.Counting.{passes_task, passes_none, is_task, is_no_task}
use Rattle.pssm_object.proofs.tasks.count_tasks.Goals as goal

pub loop-next-preserved-then-is_some : goal.loop-next-preserved-then-is_some
loop-next-preserved-then-is_some c =
    let next = c.in-Some.ensures.some in
    let task = is_task c.task_of.result (sym c.is_some.ensures ∙ c.if-is_some.true) in
    let more = passes_task c.args.plan.now c.loop-next.place c.in-Some.next next task.0 (task.1 ∙ c.task_of.ensures) in
    let further = next.further in
    let few = c.loop-next.invariant.1 in
    (ap (λ (n : ℕ). n + 1) c.loop-next.invariant.0 ∙ sym more, omega (arith, further, few))

pub loop-next-preserved : goal.loop-next-preserved
loop-next-preserved c =
    let next = c.in-Some.ensures.some in
    let none = is_no_task c.task_of.result (sym c.is_some.ensures ∙ c.if-is_some.false) in
    let same = passes_none c.args.plan.now c.loop-next.place c.in-Some.next next (none ∙ c.task_of.ensures) in
    let further = next.further in
    let few = c.loop-next.invariant.1 in
    (c.loop-next.invariant.0 ∙ sym same, omega (arith, further, few))
