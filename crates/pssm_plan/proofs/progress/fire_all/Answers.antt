use Rattle.std.proofs.Common.{List, arith, subst}
use Rattle.std.proofs.lemmas.List.{take_all}
use Rattle.pssm_config.specs.Tables.{configuration_of}
use Rattle.pssm_plan.specs.declared.ways.Way.{Way}
use Rattle.pssm_plan.specs.inner.Calling.{IsOfWays}
use Rattle.pssm_plan.specs.inner.Going.{IsMadeOf}
use Rattle.pssm_plan.proofs.Caught.{caught_none}
use Rattle.pssm_plan.proofs.FiredWays.{made_of_none}
use Rattle.pssm_plan.proofs.progress.fire_all.Goals as goal

pub loop-place-init : goal.loop-place-init
loop-place-init c = (
  caught_none c.args.spans.now.items c.args.roster.now.calls.items c.requires.none,
  made_of_none c.args.machine.now (configuration_of c.args.config.now) c.args.ways.now c.args.roster.now.calls.items c.requires.none,
)

pub fire_way-requires-clause-made : goal.fire_way-requires-clause-made
fire_way-requires-clause-made c = c.loop-place.invariant.1

pub loop-place-preserved : goal.loop-place-preserved
loop-place-preserved c = (c.in_ok-fire_way.ensures.caught, c.in_ok-fire_way.ensures.made)

pub returns-clause-caught : goal.returns-clause-caught
returns-clause-caught c = c.loop-place.invariant.0

pub fire_way-requires-clause-caught : goal.fire_way-requires-clause-caught
fire_way-requires-clause-caught c = c.loop-place.invariant.0

pub returns-clause-made : goal.returns-clause-made
returns-clause-made c =
    let whole = take_all c.loop-place.place c.args.ways.now (omega (arith, c.loop-place-test.false)) in
    subst (λ (l : List Way). IsMadeOf c.args.machine.now l (IsOfWays c.args.machine.now (configuration_of c.args.config.now) l)
    c.loop-place.roster.calls.items) whole c.loop-place.invariant.1
