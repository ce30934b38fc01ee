use Rattle.std.proofs.Common.{◌≡◌, IsTrue}
use Rattle.std.proofs.lemmas.Result.{on_ok_weaker}
use Rattle.pssm_model.specs.declared.steps.Item.{Item}
use Rattle.pssm_plan.proofs.Extending.{extended_same}
use Rattle.pssm_plan.proofs.roster.Roster.add.Goals as goal

pub returns-then-wanted-clause-added : goal.returns-then-wanted-clause-added
returns-then-wanted-clause-added c =
    on_ok_weaker c.add_wanted.result
    (λ added. extended_same c.args.machine.now _ _ (λ (x : Item). x ≡ c.args.item) (λ (x : Item). IsTrue c.args.wanted × (x ≡ c.args.item))
    (λ x. (λ e. (c.if-wanted.true, e), λ h. h.1)) added)
    c.add_wanted.ensures.added
