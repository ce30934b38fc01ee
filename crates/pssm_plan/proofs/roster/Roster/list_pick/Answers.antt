-- the vertex on which a leg ends is there, and its pick is listed where the way calls it
use Rattle.std.proofs.Common.{◌≡◌, IsTrue}
use Rattle.std.proofs.lemmas.Result.{on_ok_weaker}
use Rattle.pssm_model.specs.declared.steps.Item.{Item}
use Rattle.pssm_model.specs.declared.steps.Item.TheVariants.{Pick}
use Rattle.pssm_plan.specs.inner.Calling.{IsPickAt}
use Rattle.pssm_plan.proofs.Extending.{extended_same}
use Rattle.pssm_plan.proofs.roster.Roster.list_pick.Goals as goal

pub returns-clause-added : goal.returns-clause-added
returns-clause-added c =
    let m = c.args.machine.now in
    let wanted = c.way_calls-wanted.result in
    let leg = c.args.leg.now in
    on_ok_weaker c.add.result
    (λ added. extended_same m _ _ (λ (x : Item). IsTrue wanted × (x ≡ Pick leg.last)) (IsPickAt m c.args.way.now leg)
    (λ x. (λ h. (h.1, c.way_calls-wanted.ensures.0 h.0), λ h. (c.way_calls-wanted.ensures.1 h.1, h.0)))
    added)
    c.add.ensures.added
