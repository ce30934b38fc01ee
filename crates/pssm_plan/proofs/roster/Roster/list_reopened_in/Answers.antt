use Rattle.std.proofs.Common.{◌≡◌, IsTrue, arith, get_or}
use Rattle.std.proofs.lemmas.List.{take_all}
use Rattle.pssm_model.specs.declared.ids.RegionId.{RegionId}
use Rattle.pssm_model.specs.declared.steps.Item.{Item}
use Rattle.pssm_model.specs.declared.steps.Item.TheVariants.{Opened}
use Rattle.pssm_model.specs.declared.steps.Mode.TheVariants.{Plain}
use Rattle.pssm_plan.specs.inner.Direct.{IsReopenedIn}
use Rattle.pssm_plan.proofs.Extending.{extended_same}
use Rattle.pssm_plan.proofs.Growing.{AddedBy, grown_by_one, iff_further}
use Rattle.pssm_plan.proofs.AddedCalls.{reopened_same}
use Rattle.pssm_plan.proofs.DirectWays.{ReopenedAt, reopened_in_all}
use Rattle.pssm_plan.proofs.roster.Roster.list_reopened_in.Goals as goal

pub loop-r-preserved : goal.loop-r-preserved
loop-r-preserved c =
    let m = c.args.machine.now in
    let way = c.args.way.now in
    let d : RegionId = record { 0 = 0 } in
    let xs = c.regions_of-r-items.result.now in
    let calls = c.args.self.now.calls.items in
    let same = iff_further c.is_reopened-reopened.ensures
    (reopened_same m _ _ way c.loop-r.invariant.extended.marked (Opened (get_or c.regions_of-r-items.result.now c.loop-r.r-index d) Plain)) in
    grown_by_one m calls (ReopenedAt m calls way)
    (λ (x : Item). IsTrue c.is_reopened-reopened.result × (x ≡ Opened (get_or c.regions_of-r-items.result.now c.loop-r.r-index d) Plain))
    xs c.loop-r.r-index d _ _ c.loop-r-test.true
    (λ x. (λ q. (same.1 q.1, q.0), λ h. (h.1, same.0 h.0)))
    c.loop-r.invariant c.add.ensures.calls c.in_ok-add.ensures.added

pub returns-clause-added : goal.returns-clause-added
returns-clause-added c =
    let m = c.args.machine.now in
    let way = c.args.way.now in
    let calls = c.args.self.now.calls.items in
    let xs = c.regions_of-r-items.result.now in
    let whole = take_all c.loop-r.r-index c.regions_of-r-items.result.now (omega (arith, c.loop-r-test.false)) in
    extended_same m _ _ (AddedBy (ReopenedAt m calls way) c.regions_of-r-items.result.now)
    (IsReopenedIn m calls way c.args.s)
    (reopened_in_all m c.args.s xs c.regions_of-r-items.ensures.items calls way)
    (rw whole at c.loop-r.invariant.extended)
