use Rattle.std.proofs.Common.{List, Contains, sym, subst, arith}
use Rattle.std.proofs.lemmas.List.{take_all}
use Rattle.pssm_model.specs.declared.steps.Item.{Item}
use Rattle.pssm_model.specs.declared.steps.Item.TheVariants.{Effect}
use Rattle.pssm_plan.specs.declared.ways.Way.{Way}
use Rattle.pssm_plan.specs.inner.ByWays.{orders_by}
use Rattle.pssm_plan.specs.inner.Clear.{IsExitIn}
use Rattle.pssm_plan.proofs.ClearCalls.{all_more}
use Rattle.pssm_plan.proofs.SomeWay.{is_there}
use Rattle.pssm_plan.proofs.clear.is_within.Goals as goal

pub is_within_by-requires-clause-way : goal.is_within_by-requires-clause-way
is_within_by-requires-clause-way c =
    c.requires.ways c.way-item.result (is_there c.args.ways.now c.loop-way.way-index c.way-item.result c.loop-way-test.true c.way-item.is)

pub loop-way-preserved : goal.loop-way-preserved
loop-way-preserved c =
    all_more c.args.ways.now c.loop-way.way-index c.way-item.result c.loop-way-test.true c.way-item.is
    (λ (way : Way). (x : Item) → orders_by c.args.machine.now way x (Effect c.args.t) → IsExitIn c.args.machine.now c.args.r x)
    (c.is_within_by.ensures c.if-not-is_within_by.false) c.loop-way.invariant

pub returns : goal.returns
returns c = λ t x h.
    let whole = take_all c.loop-way.way-index c.args.ways.now (omega (arith, c.loop-way-test.false)) in
    c.loop-way.invariant h.0 (subst (λ (ways : List Way). Contains ways h.0) (sym whole) h.1) x h.2
