use Rattle.std.proofs.Common.{◌≡◌, false, arith, length, take, get_or}
use Rattle.std.specs.List.{filter}
use Rattle.pssm_model.specs.declared.steps.Item.TheVariants.{Exit}
use Rattle.pssm_plan.specs.declared.roster.Call.{Call}
use Rattle.pssm_plan.specs.Standings.{stands_ready}
use Rattle.pssm_plan.proofs.ReadyCalls.{item_there, one_above}
use Rattle.pssm_plan.proofs.ready.ready_item.Goals as goal

pub returns-then-rest-one : goal.returns-then-rest-one
returns-then-rest-one c =
    let d : Call = record { item = Exit (record { 0 = 0 }); ran = false; blocked = false; seen = 0 } in
    let above = rw c.one_if_ready-one.ensures at c.if-rest-one.true in
    let is = one_above (stands_ready (get_or c.args.calls.now c.loop-call.call-index d)) c.loop-call.rest above in
    let passed : c.args.i ≡ length (filter stands_ready (take c.loop-call.call-index c.args.calls.now)) = omega (arith, is.1, c.loop-call.invariant) in
    item_there c.args.calls.now c.loop-call.call-index c.args.i d c.loop-call-test.true is.0 passed
