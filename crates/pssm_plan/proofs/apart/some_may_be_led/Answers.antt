use Rattle.std.proofs.Common.{◌≡◌, List, true, sym, subst, arith}
use Rattle.std.proofs.lemmas.List.{take_all}
use Rattle.pssm_plan.specs.declared.ways.Way.{Way}
use Rattle.pssm_plan.specs.inner.ByWays.{orders_by}
use Rattle.pssm_plan.specs.inner.Sequence.{IsOrderedBySome}
use Rattle.pssm_plan.proofs.SomeWay.{is_there, none_more}
use Rattle.pssm_plan.proofs.apart.some_may_be_led.Goals as goal

pub may_be_led-requires-clause-way : goal.may_be_led-requires-clause-way
may_be_led-requires-clause-way c =
    c.requires.ways c.way-item.result (is_there c.args.ways.now c.loop-way.way-index c.way-item.result c.loop-way-test.true c.way-item.is)

pub loop-way-preserved : goal.loop-way-preserved
loop-way-preserved c = λ x.
    none_more c.args.ways.now c.loop-way.way-index c.way-item.result c.loop-way-test.true c.way-item.is
    (λ (way : Way). orders_by c.args.machine.now way x c.args.item)
    (λ h. absurd (let yes : c.may_be_led.result ≡ true = c.may_be_led.ensures x h in let no = c.if-may_be_led.false in cc))
    (c.loop-way.invariant x)

pub returns : goal.returns
returns c = λ x h.
    let whole = take_all c.loop-way.way-index c.args.ways.now (omega (arith, c.loop-way-test.false)) in
    absurd (c.loop-way.invariant x (subst (λ (zs : List Way). IsOrderedBySome c.args.machine.now zs x c.args.item) (sym whole) h))
