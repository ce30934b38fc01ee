use Rattle.std.proofs.Common.{◌≡◌, List, true, false, refl, sym, subst, arith}
use Rattle.std.proofs.lemmas.List.{take_all}
use Rattle.pssm_plan.specs.declared.ways.Way.{Way}
use Rattle.pssm_plan.specs.inner.Sequence.{IsLong, IsSomeLong}
use Rattle.pssm_plan.proofs.SomeWay.{is_there, none_more}
use Rattle.pssm_plan.proofs.ways.some_is_long.Goals as goal

pub returns-then-is_long : goal.returns-then-is_long
returns-then-is_long c = (
  λ t. (
    c.way-item.result,
    is_there c.args.ways.now c.loop-way.way-index c.way-item.result c.loop-way-test.true c.way-item.is,
    c.is_long.ensures.0 c.if-is_long.true,
  ),
  λ h. refl,
)

pub loop-way-preserved : goal.loop-way-preserved
loop-way-preserved c =
    none_more c.args.ways.now c.loop-way.way-index c.way-item.result c.loop-way-test.true c.way-item.is
    (λ (way : Way). IsLong way)
    (λ h. absurd (let yes : c.is_long.result ≡ true = c.is_long.ensures.1 h in let no = c.if-is_long.false in cc))
    c.loop-way.invariant

pub returns : goal.returns
returns c =
    let whole = take_all c.loop-way.way-index c.args.ways.now (omega (arith, c.loop-way-test.false)) in (
      λ f. absurd (let e : false ≡ true = f in cc),
      λ h. absurd (c.loop-way.invariant (subst (λ (zs : List Way). IsSomeLong zs) (sym whole) h)),
    )
