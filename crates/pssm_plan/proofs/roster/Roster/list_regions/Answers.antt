use Rattle.std.proofs.Common.{◌≡◌, IsTrue, arith, get_or}
use Rattle.std.proofs.lemmas.List.{take_all}
use Rattle.pssm_model.specs.declared.ids.RegionId.{RegionId}
use Rattle.pssm_model.specs.declared.steps.Item.{Item}
use Rattle.pssm_model.specs.declared.steps.Item.TheVariants.{Opened}
use Rattle.pssm_plan.specs.inner.Calling.{IsOpeningOf}
use Rattle.pssm_plan.proofs.Extending.{extended_same}
use Rattle.pssm_plan.proofs.Growing.{AddedBy, grown_by_one}
use Rattle.pssm_plan.proofs.AddedCalls.{OpenedIf, regions_all}
use Rattle.pssm_plan.proofs.roster.Roster.list_regions.Goals as goal

pub loop-r-preserved : goal.loop-r-preserved
loop-r-preserved c =
    let d : RegionId = record { 0 = 0 } in
    let xs = c.regions_of-r-items.result.now in
    grown_by_one c.args.machine.now c.args.self.now.calls.items (OpenedIf c.args.mode (IsTrue c.args.wanted))
    (λ (x : Item). IsTrue c.args.wanted × (x ≡ Opened (get_or c.regions_of-r-items.result.now c.loop-r.r-index d) c.args.mode))
    xs c.loop-r.r-index d _ _ c.loop-r-test.true
    (λ x. (λ q. q, λ h. h))
    c.loop-r.invariant c.add.ensures.calls c.in_ok-add.ensures.added

pub returns-clause-added : goal.returns-clause-added
returns-clause-added c =
    let xs = c.regions_of-r-items.result.now in
    let whole = take_all c.loop-r.r-index c.regions_of-r-items.result.now (omega (arith, c.loop-r-test.false)) in
    extended_same c.args.machine.now _ _ (AddedBy (OpenedIf c.args.mode (IsTrue c.args.wanted)) c.regions_of-r-items.result.now)
    (λ (x : Item). IsTrue c.args.wanted × IsOpeningOf c.args.machine.now c.args.s c.args.mode x)
    (regions_all c.args.machine.now c.args.s xs c.regions_of-r-items.ensures.items c.args.mode (IsTrue c.args.wanted))
    (rw whole at c.loop-r.invariant.extended)
