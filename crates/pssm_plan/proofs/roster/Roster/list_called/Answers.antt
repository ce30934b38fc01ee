use Rattle.std.proofs.Common.{◌≡◌, IsTrue}
use Rattle.std.proofs.lemmas.Result.{on_ok_weaker}
use Rattle.pssm_model.specs.declared.steps.Item.{Item}
use Rattle.pssm_plan.specs.inner.ByWays.{calls_by}
use Rattle.pssm_plan.proofs.Extending.{extended_same}
use Rattle.pssm_plan.proofs.roster.Roster.list_called.Goals as goal

pub returns-clause-added : goal.returns-clause-added
returns-clause-added c =
    let m = c.args.machine.now in
    let wanted = c.way_calls-wanted.result in
    on_ok_weaker c.add.result
    (λ added. extended_same m _ _ (λ (x : Item). IsTrue wanted × (x ≡ c.args.item)) (λ (x : Item). (x ≡ c.args.item) × calls_by m c.args.way.now c.args.item)
    (λ x. (λ h. (h.1, c.way_calls-wanted.ensures.0 h.0), λ h. (c.way_calls-wanted.ensures.1 h.1, h.0)))
    added)
    c.add.ensures.added
