use Rattle.pssm_plan.proofs.FreeCalls.{new_settled, unset_as}
use Rattle.pssm_plan.proofs.waiting.look_new.Goals as goal

pub returns-then-not-may_wait_new : goal.returns-then-not-may_wait_new
returns-then-not-may_wait_new c =
    let no = unset_as c.may_wait_new.result c.if-not-may_wait_new.true in
    new_settled c.args.machine.now c.args.ways.now c.args.calls.now c.args.at.place c.args.call.now c.args.since c.requires.new
    (c.may_wait_new.ensures.nested no) (λ x h. no (c.may_wait_new.ensures.ordered x h))
