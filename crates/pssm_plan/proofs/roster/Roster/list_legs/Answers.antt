use Rattle.std.proofs.Common.{subst, sym, arith}
use Rattle.std.proofs.lemmas.List.{take_all}
use Rattle.pssm_legs.specs.declared.legs.Leg.{Leg}
use Rattle.pssm_plan.specs.inner.Calling.{IsEffectOf, IsEffectOfSome}
use Rattle.pssm_plan.proofs.Extending.{extended_same}
use Rattle.pssm_plan.proofs.Growing.{AddedBy, grown_by_one}
use Rattle.pssm_plan.proofs.SomeWay.{is_there}
use Rattle.pssm_plan.proofs.roster.Roster.list_legs.Goals as goal

pub list_leg-requires-clause-leg : goal.list_leg-requires-clause-leg
list_leg-requires-clause-leg c =
    c.requires.legs c.leg-item.result (is_there c.args.legs.now c.loop-leg.leg-index c.leg-item.result c.loop-leg-test.true c.leg-item.is)

pub loop-leg-preserved : goal.loop-leg-preserved
loop-leg-preserved c =
    let leg = c.leg-item.result in
    grown_by_one c.args.machine.now c.args.self.now.calls.items IsEffectOf (IsEffectOf leg) c.args.legs.now c.loop-leg.leg-index leg
    _ _ c.loop-leg-test.true
    (λ x. (
      λ q. subst (λ (a : Leg). IsEffectOf a x) (sym c.leg-item.is) q,
      λ q. subst (λ (a : Leg). IsEffectOf a x) c.leg-item.is q,
    ))
    c.loop-leg.invariant c.list_leg.ensures.calls c.in_ok-list_leg.ensures.added

pub returns-clause-added : goal.returns-clause-added
returns-clause-added c =
    let whole = take_all c.loop-leg.leg-index c.args.legs.now (omega (arith, c.loop-leg-test.false)) in
    extended_same c.args.machine.now _ _ (AddedBy IsEffectOf c.args.legs.now) (IsEffectOfSome c.args.legs.now)
    (λ x. (λ h. (h.0, h.1, h.2), λ h. (h.0, h.1, h.2)))
    (rw whole at c.loop-leg.invariant.extended)
