use Rattle.std.proofs.Common.{List, Contains, sym, subst, arith}
use Rattle.std.proofs.lemmas.List.{take_all}
use Rattle.pssm_model.specs.declared.steps.Item.TheVariants.{Effect}
use Rattle.pssm_plan.specs.declared.ways.Way.{Way}
use Rattle.pssm_plan.specs.inner.ByWays.{calls_by}
use Rattle.pssm_plan.proofs.ClearCalls.{all_more}
use Rattle.pssm_plan.proofs.FreeCalls.{unset_not}
use Rattle.pssm_plan.proofs.SomeWay.{is_there}
use Rattle.pssm_plan.proofs.junctions.all_call.Goals as goal

pub way_calls-requires-clause-way : goal.way_calls-requires-clause-way
way_calls-requires-clause-way c =
    c.requires.ways c.way-item.result (is_there c.args.ways.now c.loop-way.way-index c.way-item.result c.loop-way-test.true c.way-item.is)

pub loop-way-preserved : goal.loop-way-preserved
loop-way-preserved c =
    all_more c.args.ways.now c.loop-way.way-index c.way-item.result c.loop-way-test.true c.way-item.is
    (λ (way : Way). calls_by c.args.machine.now way (Effect c.args.t)) (c.way_calls.ensures.0 c.if-not-way_calls.false) c.loop-way.invariant

pub returns : goal.returns
returns c = λ t way h.
    let whole = take_all c.loop-way.way-index c.args.ways.now (omega (arith, c.loop-way-test.false)) in
    c.loop-way.invariant way (subst (λ (ways : List Way). Contains ways way) (sym whole) h)
