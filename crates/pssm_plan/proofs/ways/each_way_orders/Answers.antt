use Rattle.std.proofs.Common.{◌≡◌, List, true, false, refl, sym, subst, arith}
use Rattle.std.proofs.lemmas.List.{take_all}
use Rattle.pssm_plan.specs.declared.ways.Way.{Way}
use Rattle.pssm_plan.specs.inner.ByWays.{orders_by}
use Rattle.pssm_plan.specs.inner.Sequence.{IsOrderedBySome}
use Rattle.pssm_plan.proofs.SomeWay.{is_there, none_more}
use Rattle.pssm_plan.proofs.ways.each_way_orders.Goals as goal

pub way_orders-requires-clause-way : goal.way_orders-requires-clause-way
way_orders-requires-clause-way c =
    c.requires.ways c.way-item.result (is_there c.args.ways.now c.loop-way.way-index c.way-item.result c.loop-way-test.true c.way-item.is)

pub returns-then-way_orders : goal.returns-then-way_orders
returns-then-way_orders c = (
  λ t. (
    c.way-item.result,
    is_there c.args.ways.now c.loop-way.way-index c.way-item.result c.loop-way-test.true c.way-item.is,
    c.way_orders.ensures.0 c.if-way_orders.true,
  ),
  λ h. refl,
)

pub loop-way-preserved : goal.loop-way-preserved
loop-way-preserved c =
    none_more c.args.ways.now c.loop-way.way-index c.way-item.result c.loop-way-test.true c.way-item.is
    (λ (way : Way). orders_by c.args.machine.now way c.args.first.now c.args.second.now)
    (λ h. absurd (let yes : c.way_orders.result ≡ true = c.way_orders.ensures.1 h in let no = c.if-way_orders.false in cc))
    c.loop-way.invariant

pub returns : goal.returns
returns c =
    let whole = take_all c.loop-way.way-index c.args.ways.now (omega (arith, c.loop-way-test.false)) in (
      λ f. absurd (let e : false ≡ true = f in cc),
      λ h. absurd (c.loop-way.invariant (subst (λ (zs : List Way). IsOrderedBySome c.args.machine.now zs c.args.first.now c.args.second.now) (sym whole) h)),
    )
