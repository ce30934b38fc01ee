use Rattle.std.proofs.Common.{◌∙◌, false, sym}
use Rattle.pssm_model.specs.declared.steps.Item.TheVariants.{Exit}
use Rattle.pssm_plan.specs.declared.roster.Call.{Call}
use Rattle.pssm_plan.proofs.ReadyCalls.{next_there}
use Rattle.pssm_plan.proofs.ready.next_ready.Goals as goal

pub returns-then-is_ready-clause-some : goal.returns-then-is_ready-clause-some
returns-then-is_ready-clause-some c =
    let d : Call = record { item = Exit (record { 0 = 0 }); ran = false; blocked = false; seen = 0 } in
    next_there c.args.calls.now c.args.place c.loop-k.k c.loop-k-test.true c.loop-k.invariant d (sym c.is_ready.ensures ∙ c.if-is_ready.true) c.loop-k.auto.k
