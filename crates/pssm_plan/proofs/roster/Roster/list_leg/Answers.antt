use Rattle.std.proofs.Common.{◌≡◌, ◌⊎◌, IsTrue, true, refl, inl, inr, ⊎_elim}
use Rattle.std.proofs.lemmas.Result.{on_ok_weaker}
use Rattle.pssm_model.specs.declared.steps.Item.{Item}
use Rattle.pssm_model.specs.declared.steps.Item.TheVariants.{Effect}
use Rattle.pssm_plan.specs.inner.Calling.{IsEffectAmong, IsEffectOf}
use Rattle.pssm_plan.proofs.Extending.{extended_same, extended_further}
use Rattle.pssm_plan.proofs.NearItems.{named_there, further_there}
use Rattle.pssm_plan.proofs.roster.Roster.list_leg.Goals as goal

pub add-requires-clause-item : goal.add-requires-clause-item
add-requires-clause-item c = λ wanted. named_there c.args.leg.now c.requires.leg

pub list_transitions-requires-clause-there : goal.list_transitions-requires-clause-there
list_transitions-requires-clause-there c = λ t inside. further_there c.args.leg.now c.requires.leg t (rw c.as_slice.ensures.value at inside)

pub returns-clause-added : goal.returns-clause-added
returns-clause-added c =
    let m = c.args.machine.now in
    let leg = c.args.leg.now in
    let old = c.args.self.now.calls.items in
    let mid = c.add.new.self.calls.items in
    on_ok_weaker c.list_transitions.result
    (λ added. extended_same m old _
    (λ (x : Item). (IsTrue true × (x ≡ Effect leg.named)) ⊎ IsEffectAmong leg.further.items x)
    (IsEffectOf leg)
    (λ x. (λ h. ⊎_elim (λ first. inl first.1) (λ further. inr further) h, λ h. ⊎_elim (λ first. inl (refl, first)) (λ further. inr further) h))
    (extended_further m old mid _ (λ (x : Item). IsTrue true × (x ≡ Effect leg.named)) (IsEffectAmong leg.further.items)
    c.in_ok-add.ensures.added (rw c.as_slice.ensures.value at added)))
    c.list_transitions.ensures.added
