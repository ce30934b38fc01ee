-- The task stands at the place that counts those before it.
use Rattle.std.proofs.Common.{length, arith}
use Rattle.pssm_object.proofs.DoingLists.{task_here}
use Rattle.pssm_object.proofs.doing.nth_do_task.Goals as goal

pub returns-then-rest-eq0 : goal.returns-then-rest-eq0
returns-then-rest-eq0 c =
    let so_far = c.loop-v.invariant in
    let none = c.if-rest-eq0.true in
    let total = c.vertices-v-end.ensures in
    let within = c.loop-v-test.true in
    task_here c.args.machine.now c.args.config.now c.loop-v.v c.in-Some.task c.args.i c.in-Some.ensures (omega (arith, so_far, none))
    (length c.args.machine.now.vertices) (omega (arith, total, within))
