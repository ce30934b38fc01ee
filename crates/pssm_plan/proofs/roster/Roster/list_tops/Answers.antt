use Rattle.std.proofs.Common.{◌≡◌, IsTrue, true, refl, arith, get_or}
use Rattle.std.proofs.lemmas.List.{take_all}
use Rattle.pssm_model.specs.declared.ids.RegionId.{RegionId}
use Rattle.pssm_model.specs.declared.steps.Item.{Item}
use Rattle.pssm_model.specs.declared.steps.Item.TheVariants.{Opened}
use Rattle.pssm_model.specs.declared.steps.Mode.TheVariants.{Plain}
use Rattle.pssm_plan.specs.inner.Calling.{IsTopOpening}
use Rattle.pssm_plan.proofs.Extending.{extended_same}
use Rattle.pssm_plan.proofs.Growing.{AddedBy, grown_by_one}
use Rattle.pssm_plan.proofs.roster.Roster.list_tops.Goals as goal

pub loop-r-preserved : goal.loop-r-preserved
loop-r-preserved c =
    let Q : RegionId → Item → Type 0 = (λ r x. x ≡ Opened r Plain) in
    let d : RegionId = record { 0 = 0 } in
    let xs = c.top_regions-r-items.result.now in
    grown_by_one c.args.machine.now c.args.self.now.calls.items Q
    (λ (x : Item). IsTrue true × (x ≡ Opened (get_or c.top_regions-r-items.result.now c.loop-r.r-index d) Plain)) xs c.loop-r.r-index d _ _ c.loop-r-test.true
    (λ x. (λ q. (refl, q), λ h. h.1))
    c.loop-r.invariant c.add.ensures.calls c.in_ok-add.ensures.added

pub returns-clause-added : goal.returns-clause-added
returns-clause-added c =
    let Q : RegionId → Item → Type 0 = (λ r x. x ≡ Opened r Plain) in
    let whole = take_all c.loop-r.r-index c.top_regions-r-items.result.now (omega (arith, c.loop-r-test.false)) in
    extended_same c.args.machine.now _ _ (AddedBy Q c.top_regions-r-items.result.now) (IsTopOpening c.args.machine.now)
    (λ x. (
      λ h. (h.0, h.2, (c.top_regions-r-items.ensures.items h.0).0 h.1),
      λ h. (h.0, (c.top_regions-r-items.ensures.items h.0).1 h.2, h.1),
    ))
    (rw whole at c.loop-r.invariant.extended)
