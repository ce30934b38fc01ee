-- each turn passes one task at most
use Rattle.std.proofs.Common.{◌≡◌, ◌+◌, length, arith}
use Rattle.pssm_object.proofs.Counting.{passes_task, passes_none, next_task}
use Rattle.pssm_object.proofs.tasks.nth_task.Goals as goal

pub returns-then-rest-eq0-clause-there : goal.returns-then-rest-eq0-clause-there
returns-then-rest-eq0-clause-there c =
    next_task c.args.plan.now c.loop-next.place c.in-Some.next c.in-Some.ensures.some c.in-Some-task_of.task c.args.i c.in-Some-task_of.ensures (omega arith)

pub loop-next-preserved-else-rest-eq0 : goal.loop-next-preserved-else-rest-eq0
loop-next-preserved-else-rest-eq0 c =
    let more = passes_task c.args.plan.now c.loop-next.place c.in-Some.next c.in-Some.ensures.some c.in-Some-task_of.task c.in-Some-task_of.ensures in
    let some = c.if-rest-eq0.false in
    let so_far = c.loop-next.invariant in
    omega (arith, more, some, so_far)

pub loop-next-preserved : goal.loop-next-preserved
loop-next-preserved c =
    let same = passes_none c.args.plan.now c.loop-next.place c.in-Some.next c.in-Some.ensures.some c.in_default-task_of.ensures in
    let so_far = c.loop-next.invariant in
    omega (arith, same, so_far)
