use Rattle.std.proofs.Common.{◌<◌, false, length, arith}
use Rattle.pssm_model.specs.declared.steps.Item.TheVariants.{Exit}
use Rattle.pssm_plan.specs.declared.roster.Call.{Call}
use Rattle.pssm_plan.proofs.Forgetting.{forgotten_none, forgotten_more, forgotten_all}
use Rattle.pssm_plan.proofs.roster.forget_all.Goals as goal

pub loop-k-init : goal.loop-k-init
loop-k-init c = forgotten_none c.args.calls.now

pub loop-k-preserved : goal.loop-k-preserved
loop-k-preserved c =
    let d : Call = record { item = Exit (record { 0 = 0 }); ran = false; blocked = false; seen = 0 } in
    let lt : c.loop-k.k < length c.loop-k.calls = omega (arith, c.loop-k.invariant.same_length, c.loop-k-test.true) in
    forgotten_more c.args.calls.now c.loop-k.calls c.loop-k.k d c.loop-k.invariant lt

pub returns : goal.returns
returns c = forgotten_all c.args.calls.now c.loop-k.calls c.loop-k.k c.loop-k.invariant (let over = c.loop-k-test.false in omega (arith, over))

pub overflow_cast-calls : goal.overflow_cast-calls
overflow_cast-calls c =
    let same = c.loop-k.invariant.same_length in let less = c.loop-k-test.true in let few = c.requires in omega (arith, same, less, few)
