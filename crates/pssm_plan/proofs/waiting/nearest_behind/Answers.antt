use Rattle.std.proofs.Common.{◌≡◌, ◌<◌, ◌-◌, true, false, length, arith}
use Rattle.pssm_model.specs.declared.steps.Item.TheVariants.{Exit}
use Rattle.pssm_plan.specs.declared.roster.Call.{Call}
use Rattle.pssm_plan.specs.inner.Sequence.{IsSequence}
use Rattle.pssm_plan.proofs.Looking.{held_there, free_less}
use Rattle.pssm_plan.proofs.waiting.nearest_behind.Goals as goal

pub returns-then-holds_up : goal.returns-then-holds_up
returns-then-holds_up c =
    let d : Call = record { item = Exit (record { 0 = 0 }); ran = false; blocked = false; seen = 0 } in
    let some = c.loop-k-test.true in
    let high = c.loop-k.auto.k in
    let end = c.requires.end in
    let lt : c.loop-k.k - 1 < length c.args.calls.now = omega (arith, some, high, end) in (
      omega (arith, some, high),
      held_there (IsSequence c.args.machine.now c.args.ways.now) c.args.calls.now c.args.call.now.item (c.loop-k.k - 1) d lt
          (c.holds_up.ensures.0 c.if-holds_up.true),
      λ j e low less inside up. c.loop-k.invariant j e (omega (arith, some, low)) less inside up,
    )

pub loop-k-preserved : goal.loop-k-preserved
loop-k-preserved c =
    let d : Call = record { item = Exit (record { 0 = 0 }); ran = false; blocked = false; seen = 0 } in
    let some = c.loop-k-test.true in
    let high = c.loop-k.auto.k in
    let end = c.requires.end in
    let lt : c.loop-k.k - 1 < length c.args.calls.now = omega (arith, some, high, end) in
    free_less (IsSequence c.args.machine.now c.args.ways.now) c.args.calls.now c.args.call.now.item (c.loop-k.k - 1) c.args.end d lt
    (λ h. absurd (let yes : c.holds_up.result ≡ true = c.holds_up.ensures.1 h in let no = c.if-holds_up.false in cc (yes, no)))
    (λ j e low less inside up. c.loop-k.invariant j e (omega (arith, some, low)) less inside up)
