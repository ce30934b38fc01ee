use Rattle.std.proofs.Common.{◌≡◌, ◌<◌, true, false, length, arith}
use Rattle.pssm_model.specs.declared.steps.Item.TheVariants.{Exit}
use Rattle.pssm_plan.specs.declared.roster.Call.{Call}
use Rattle.pssm_plan.proofs.ClearCalls.{no_exit_more}
use Rattle.pssm_plan.proofs.clear.has_no_exit_in.Goals as goal

pub loop-k-preserved : goal.loop-k-preserved
loop-k-preserved c =
    let d : Call = record { item = Exit (record { 0 = 0 }); ran = false; blocked = false; seen = 0 } in
    let lt : c.loop-k.k < length c.args.calls.now = (let less = c.loop-k-test.true in omega (arith, less)) in
    no_exit_more c.args.machine.now c.args.calls.now c.args.r c.args.from c.loop-k.k d lt
    (λ exit waits. let yes : c.may_exit_in.result ≡ true = c.may_exit_in.ensures exit waits in let no = c.if-may_exit_in.false in cc (yes, no))
    c.loop-k.invariant

pub returns : goal.returns
returns c = λ t k d le low inside.
    c.loop-k.invariant k d le (let over = c.loop-k-test.false in omega (arith, low, over)) inside
