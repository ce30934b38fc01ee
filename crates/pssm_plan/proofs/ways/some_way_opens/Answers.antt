use Rattle.std.proofs.Common.{◌≡◌, List, true, false, refl, sym, subst, arith}
use Rattle.std.proofs.lemmas.List.{take_all}
use Rattle.pssm_plan.specs.declared.ways.Way.{Way}
use Rattle.pssm_plan.specs.inner.ByWays.{opens_by}
use Rattle.pssm_plan.specs.inner.Sequence.{IsOpenedBySome}
use Rattle.pssm_plan.proofs.SomeWay.{is_there, none_more}
use Rattle.pssm_plan.proofs.ways.some_way_opens.Goals as goal

pub way_opens-requires-clause-way : goal.way_opens-requires-clause-way
way_opens-requires-clause-way c =
    c.requires.ways c.way-item.result (is_there c.args.ways.now c.loop-way.way-index c.way-item.result c.loop-way-test.true c.way-item.is)

pub returns-then-way_opens : goal.returns-then-way_opens
returns-then-way_opens c = (
  λ t. (
    c.way-item.result,
    is_there c.args.ways.now c.loop-way.way-index c.way-item.result c.loop-way-test.true c.way-item.is,
    c.way_opens.ensures.0 c.if-way_opens.true,
  ),
  λ h. refl,
)

pub loop-way-preserved : goal.loop-way-preserved
loop-way-preserved c =
    none_more c.args.ways.now c.loop-way.way-index c.way-item.result c.loop-way-test.true c.way-item.is
    (λ (way : Way). opens_by c.args.machine.now way c.args.s c.args.r)
    (λ h. absurd (let yes : c.way_opens.result ≡ true = c.way_opens.ensures.1 h in let no = c.if-way_opens.false in cc))
    c.loop-way.invariant

pub returns : goal.returns
returns c =
    let whole = take_all c.loop-way.way-index c.args.ways.now (omega (arith, c.loop-way-test.false)) in (
      λ f. absurd (let e : false ≡ true = f in cc),
      λ h. absurd (c.loop-way.invariant (subst (λ (zs : List Way). IsOpenedBySome c.args.machine.now zs c.args.s c.args.r) (sym whole) h)),
    )
