-- The task stands at the place that counts those before it; where all are passed there is none.
use Rattle.std.proofs.Common.{◌≡◌, ◌≤◌, length, sym, arith}
use Rattle.std.proofs.lemmas.Option.{slice_get_past}
use Rattle.pssm_object.specs.Doing.{do_tasks}
use Rattle.pssm_object.proofs.Doers.{all_counted}
use Rattle.pssm_object.proofs.DoingLists.{task_here}
use Rattle.pssm_object.proofs.doing.find_do_task.Goals as goal

pub returns-then-rest-eq0 : goal.returns-then-rest-eq0
returns-then-rest-eq0 c =
    let so_far = c.loop-v.invariant in
    let none = c.if-rest-eq0.true in
    let below = c.requires.doers.within in
    let within = c.loop-v-test.true in
    sym (task_here c.args.machine.now c.args.config.now c.loop-v.v c.in-Some.task c.args.i c.in-Some.ensures (omega (arith, so_far, none))
    (length c.args.machine.now.vertices) (omega (arith, below, within)))

pub returns : goal.returns
returns c =
    let past = c.loop-v-test.false in
    let all = all_counted c.args.machine.now c.args.config.now c.args.doers c.loop-v.v c.requires.doers (omega (arith, past)) in
    let so_far = c.loop-v.invariant in
    sym (slice_get_past (do_tasks c.args.machine.now c.args.config.now) c.args.i (omega (arith, all, so_far)))
