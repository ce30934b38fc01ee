use Rattle.std.proofs.Common.{◌≡◌, ◌<◌, true, false, length, arith}
use Rattle.pssm_model.specs.declared.steps.Item.TheVariants.{Exit}
use Rattle.pssm_plan.specs.declared.roster.Call.{Call}
use Rattle.pssm_plan.specs.inner.Sequence.{IsNestedPair}
use Rattle.pssm_plan.proofs.Looking.{settled_ahead, passed_on, next_here, next_none, free_more}
use Rattle.pssm_plan.proofs.waiting.look_nested.Goals as goal

pub returns-then-holds_up_nested : goal.returns-then-holds_up_nested
returns-then-holds_up_nested c =
    let d : Call = record { item = Exit (record { 0 = 0 }); ran = false; blocked = false; seen = 0 } in
    let Comes = IsNestedPair c.args.machine.now in
    let calls = c.args.calls.now in
    let call = c.args.call.now in
    let lt : c.loop-k.k < length c.args.calls.now = (let few = c.requires.few in let less = c.loop-k-test.true in omega (arith, few, less)) in
    settled_ahead Comes calls call c.args.place call.seen _ c.requires.ahead
    (let ahead = c.requires.ahead in let within = c.requires.seen.within in omega (arith, ahead, within))
    (passed_on Comes calls call c.args.place c.requires.ahead c.requires.seen.passed)
    (next_here Comes calls call.item call.seen c.loop-k.k d (let le = c.loop-k.auto.k in omega (arith, le)) lt
    (c.holds_up_nested.ensures.0 c.if-holds_up_nested.true) c.loop-k.invariant)

pub loop-k-preserved : goal.loop-k-preserved
loop-k-preserved c =
    let d : Call = record { item = Exit (record { 0 = 0 }); ran = false; blocked = false; seen = 0 } in
    let lt : c.loop-k.k < length c.args.calls.now = (let few = c.requires.few in let less = c.loop-k-test.true in omega (arith, few, less)) in
    free_more (IsNestedPair c.args.machine.now) c.args.calls.now c.args.call.now.item c.args.call.now.seen c.loop-k.k d lt
    (λ h. absurd (let yes : c.holds_up_nested.result ≡ true = c.holds_up_nested.ensures.1 h in let no = c.if-holds_up_nested.false in cc (yes, no)))
    c.loop-k.invariant

pub returns : goal.returns
returns c =
    let Comes = IsNestedPair c.args.machine.now in
    let calls = c.args.calls.now in
    let call = c.args.call.now in
    settled_ahead Comes calls call c.args.place call.seen _ c.requires.ahead
    (let ahead = c.requires.ahead in let within = c.requires.seen.within in omega (arith, ahead, within))
    (passed_on Comes calls call c.args.place c.requires.ahead c.requires.seen.passed)
    (next_none Comes calls call.item call.seen c.loop-k.k (let few = c.requires.few in let over = c.loop-k-test.false in omega (arith, few, over))
    c.loop-k.invariant)
