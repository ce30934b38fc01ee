use Rattle.std.proofs.Common.{◌≡◌, true, false, arith}
use Rattle.pssm_model.specs.declared.steps.Item.TheVariants.{Exit}
use Rattle.pssm_plan.specs.declared.roster.Call.{Call}
use Rattle.pssm_plan.specs.inner.Sequence.{IsSequence}
use Rattle.pssm_plan.proofs.Looking.{next_here, free_more}
use Rattle.pssm_plan.proofs.waiting.look_ahead.Goals as goal

pub returns-then-holds_up : goal.returns-then-holds_up
returns-then-holds_up c =
    let d : Call = record { item = Exit (record { 0 = 0 }); ran = false; blocked = false; seen = 0 } in
    next_here (IsSequence c.args.machine.now c.args.ways.now) c.args.calls.now c.args.call.now.item c.args.from c.loop-k.k d
    (let le = c.loop-k.auto.k in omega (arith, le)) c.loop-k-test.true (c.holds_up.ensures.0 c.if-holds_up.true) c.loop-k.invariant

pub loop-k-preserved : goal.loop-k-preserved
loop-k-preserved c =
    let d : Call = record { item = Exit (record { 0 = 0 }); ran = false; blocked = false; seen = 0 } in
    free_more (IsSequence c.args.machine.now c.args.ways.now) c.args.calls.now c.args.call.now.item c.args.from c.loop-k.k d c.loop-k-test.true
    (λ h. absurd (let yes : c.holds_up.result ≡ true = c.holds_up.ensures.1 h in let no = c.if-holds_up.false in cc (yes, no))) c.loop-k.invariant
