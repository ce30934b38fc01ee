use Rattle.std.proofs.Common.{◌≡◌, ◌∙◌, length, ap, sym, Some, None, List, ℕ}
use Rattle.std.specs.Prelude.{Option}
use Rattle.pssm_xml.specs.declared.values.Bit.{Bit}
use Rattle.pssm_xml.specs.inner.Reading.{bit_taken, value_taken}
use Rattle.pssm_xml.proofs.LoopLaws.{value_none, value_end, value_turn}
use Rattle.pssm_xml.proofs.values.value_at.Goals as goal

pub returns-in-None : goal.returns-in-None
returns-in-None c =
    value_none (value_taken (length c.args.bytes.now) c.args.quote c.args.bytes.now) (length c.args.bytes.now) c.loop-i.i c.args.quote c.loop-i.value.items c.loop-i.rest.now c.loop-i-test.true
    c.in-None.ensures c.loop-i.invariant

pub returns-in-Some-None-default : goal.returns-in-Some-None-default
returns-in-Some-None-default c =
    let none : c.in-Some-None-default.field-0-0 ≡ None = c.in-Some-None-default.field-0-0-is in
    let next : Some (None, c.in-Some-None-default.more.now) ≡ bit_taken c.args.quote c.loop-i.rest.now =
    ap (λ (o : Option Bit). let x : Option Bit × List ℕ = (o, c.in-Some-None-default.more.now) in Some x) (sym none) ∙ c.in-Some-None-default.ensures in
    value_end (value_taken (length c.args.bytes.now) c.args.quote c.args.bytes.now) (length c.args.bytes.now) c.loop-i.i c.args.quote c.loop-i.value.items c.loop-i.rest.now
    c.in-Some-None-default.more.now c.loop-i-test.true next c.loop-i.invariant

pub loop-i-preserved : goal.loop-i-preserved
loop-i-preserved c =
    let some : c.in-Some-Some-default.field-0-0 ≡ Some c.in-Some-Some-default.bit = c.in-Some-Some-default.field-0-0-is in
    let next : Some (Some c.in-Some-Some-default.bit, c.in-Some-Some-default.more.now) ≡ bit_taken c.args.quote c.loop-i.rest.now =
    ap (λ (o : Option Bit). let x : Option Bit × List ℕ = (o, c.in-Some-Some-default.more.now) in Some x) (sym some) ∙ c.in-Some-Some-default.ensures in
    value_turn (value_taken (length c.args.bytes.now) c.args.quote c.args.bytes.now) (length c.args.bytes.now) c.loop-i.i c.args.quote c.loop-i.value.items
    c.in_ok-value-in-Some-Some-default.value.items c.loop-i.rest.now c.in-Some-Some-default.more.now c.in-Some-Some-default.bit c.loop-i-test.true next
    c.in_ok-value-in-Some-Some-default.ensures c.loop-i.invariant
