use Rattle.std.proofs.Common.{◌≡◌, List, true, false, refl, sym, subst, arith}
use Rattle.std.proofs.lemmas.List.{take_all}
use Rattle.pssm_legs.specs.declared.legs.Leg.{Leg}
use Rattle.pssm_plan.specs.inner.Near.{EndsNear, IsNearSome}
use Rattle.pssm_plan.proofs.SomeWay.{is_there, none_more}
use Rattle.pssm_plan.proofs.near.some_ends_near.Goals as goal

pub ends_near-requires-clause-leg : goal.ends_near-requires-clause-leg
ends_near-requires-clause-leg c =
    c.requires.legs c.leg-item.result (is_there c.args.legs.now c.loop-leg.leg-index c.leg-item.result c.loop-leg-test.true c.leg-item.is)

pub returns-then-ends_near : goal.returns-then-ends_near
returns-then-ends_near c = (
  λ t. (
    c.leg-item.result,
    is_there c.args.legs.now c.loop-leg.leg-index c.leg-item.result c.loop-leg-test.true c.leg-item.is,
    c.ends_near.ensures.0 c.if-ends_near.true,
  ),
  λ h. refl,
)

pub loop-leg-preserved : goal.loop-leg-preserved
loop-leg-preserved c =
    none_more c.args.legs.now c.loop-leg.leg-index c.leg-item.result c.loop-leg-test.true c.leg-item.is
    (λ (leg : Leg). EndsNear c.args.machine.now leg c.args.s)
    (λ h. absurd (let yes : c.ends_near.result ≡ true = c.ends_near.ensures.1 h in let no = c.if-ends_near.false in cc))
    c.loop-leg.invariant

pub returns : goal.returns
returns c =
    let whole = take_all c.loop-leg.leg-index c.args.legs.now (omega (arith, c.loop-leg-test.false)) in (
      λ f. absurd (let e : false ≡ true = f in cc),
      λ h. absurd (c.loop-leg.invariant (subst (λ (zs : List Leg). IsNearSome c.args.machine.now zs c.args.s) (sym whole) h)),
    )
