use Rattle.std.proofs.Common.{◌≡◌, IsTrue, arith, get_or}
use Rattle.std.proofs.lemmas.List.{take_all}
use Rattle.pssm_model.specs.declared.ids.RegionId.{RegionId}
use Rattle.pssm_model.specs.declared.steps.Item.{Item}
use Rattle.pssm_model.specs.declared.steps.Item.TheVariants.{Opened}
use Rattle.pssm_model.specs.declared.steps.Mode.TheVariants.{Plain}
use Rattle.pssm_plan.specs.inner.Calling.{IsDefaultOf}
use Rattle.pssm_plan.proofs.Extending.{extended_same}
use Rattle.pssm_plan.proofs.Growing.{AddedBy, grown_by_one}
use Rattle.pssm_plan.proofs.AddedCalls.{OpenedBySome, defaults_all}
use Rattle.pssm_plan.proofs.roster.Roster.list_defaults.Goals as goal

pub loop-r-preserved : goal.loop-r-preserved
loop-r-preserved c =
    let d : RegionId = record { 0 = 0 } in
    let xs = c.regions_of-r-items.result.now in
    grown_by_one c.args.machine.now c.args.self.now.calls.items (OpenedBySome c.args.machine.now c.args.ways.now c.args.s)
    (λ (x : Item). IsTrue c.some_way_opens-opens.result × (x ≡ Opened (get_or c.regions_of-r-items.result.now c.loop-r.r-index d) Plain))
    xs c.loop-r.r-index d _ _ c.loop-r-test.true
    (λ x. (λ q. (c.some_way_opens-opens.ensures.1 q.1, q.0), λ h. (h.1, c.some_way_opens-opens.ensures.0 h.0)))
    c.loop-r.invariant c.add.ensures.calls c.in_ok-add.ensures.added

pub returns-clause-added : goal.returns-clause-added
returns-clause-added c =
    let xs = c.regions_of-r-items.result.now in
    let whole = take_all c.loop-r.r-index c.regions_of-r-items.result.now (omega (arith, c.loop-r-test.false)) in
    extended_same c.args.machine.now _ _ (AddedBy (OpenedBySome c.args.machine.now c.args.ways.now c.args.s) c.regions_of-r-items.result.now)
    (IsDefaultOf c.args.machine.now c.args.ways.now c.args.s)
    (defaults_all c.args.machine.now c.args.s xs c.regions_of-r-items.ensures.items c.args.ways.now)
    (rw whole at c.loop-r.invariant.extended)
