use Rattle.std.proofs.Common.{subst, sym, arith}
use Rattle.std.proofs.lemmas.List.{take_all}
use Rattle.pssm_legs.specs.declared.legs.Leg.{Leg}
use Rattle.pssm_plan.specs.inner.Calling.{IsPickAt, IsPickAtSome}
use Rattle.pssm_plan.proofs.Extending.{extended_same}
use Rattle.pssm_plan.proofs.Growing.{AddedBy, grown_by_one}
use Rattle.pssm_plan.proofs.SomeWay.{is_there}
use Rattle.pssm_plan.proofs.roster.Roster.list_further_picks.Goals as goal

pub list_pick-requires-clause-leg : goal.list_pick-requires-clause-leg
list_pick-requires-clause-leg c =
    c.requires.legs c.leg-item.result (is_there c.args.legs.now c.loop-leg.leg-index c.leg-item.result c.loop-leg-test.true c.leg-item.is)

pub loop-leg-preserved : goal.loop-leg-preserved
loop-leg-preserved c =
    let m = c.args.machine.now in
    let way = c.args.way.now in
    let leg = c.leg-item.result in
    grown_by_one m c.args.self.now.calls.items (IsPickAt m way) (IsPickAt m way leg) c.args.legs.now c.loop-leg.leg-index leg
    _ _ c.loop-leg-test.true
    (λ x. (
      λ q. subst (λ (a : Leg). IsPickAt m way a x) (sym c.leg-item.is) q,
      λ q. subst (λ (a : Leg). IsPickAt m way a x) c.leg-item.is q,
    ))
    c.loop-leg.invariant c.list_pick.ensures.calls c.in_ok-list_pick.ensures.added

pub returns-clause-added : goal.returns-clause-added
returns-clause-added c =
    let m = c.args.machine.now in
    let way = c.args.way.now in
    let whole = take_all c.loop-leg.leg-index c.args.legs.now (omega (arith, c.loop-leg-test.false)) in
    extended_same m _ _ (AddedBy (IsPickAt m way) c.args.legs.now) (IsPickAtSome m way c.args.legs.now)
    (λ x. (λ h. (h.0, h.1, h.2), λ h. (h.0, h.1, h.2)))
    (rw whole at c.loop-leg.invariant.extended)
