use Rattle.std.proofs.Common.{◌<◌, false, length, arith}
use Rattle.pssm_model.specs.declared.steps.Item.TheVariants.{Exit}
use Rattle.pssm_plan.specs.declared.roster.Call.{Call}
use Rattle.pssm_plan.proofs.RunBefore.{run_more}
use Rattle.pssm_plan.proofs.StandingItems.{is_false}
use Rattle.pssm_plan.proofs.roster.done_from.Goals as goal

pub loop-k-preserved : goal.loop-k-preserved
loop-k-preserved c =
    let d : Call = record { item = Exit (record { 0 = 0 }); ran = false; blocked = false; seen = 0 } in
    let lt : c.loop-k.k < length c.args.calls.now = (let less = c.loop-k-test.true in omega (arith, less)) in (
      omega (arith, lt),
      run_more c.args.calls.now c.loop-k.k d lt (c.waits_at.ensures.ran (is_false c.waits_at.result c.if-waits_at.false) d) c.loop-k.invariant.1,
    )

pub returns : goal.returns
returns c = (
  omega arith,
  λ k d lt inside. c.loop-k.invariant.1 k d (let over = c.loop-k-test.false in omega (arith, over, inside)) inside,
)
