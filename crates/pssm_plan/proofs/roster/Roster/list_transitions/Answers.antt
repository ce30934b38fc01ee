use Rattle.std.proofs.Common.{◌≡◌, IsTrue, true, refl, arith, get_or}
use Rattle.std.proofs.lemmas.List.{take_all}
use Rattle.std.proofs.lemmas.List.Elements.{Contains-get_or}
use Rattle.pssm_model.specs.declared.ids.TransId.{TransId}
use Rattle.pssm_model.specs.declared.steps.Item.{Item}
use Rattle.pssm_model.specs.declared.steps.Item.TheVariants.{Effect}
use Rattle.pssm_plan.specs.inner.Calling.{IsEffectAmong}
use Rattle.pssm_plan.proofs.Extending.{extended_same}
use Rattle.pssm_plan.proofs.Growing.{AddedBy, grown_by_one}
use Rattle.pssm_plan.proofs.roster.Roster.list_transitions.Goals as goal

pub add-requires-clause-item : goal.add-requires-clause-item
add-requires-clause-item c = λ wanted.
    let d : TransId = record { 0 = 0 } in
    c.requires.there (get_or c.args.transitions.now c.loop-t.t-index d) (Contains-get_or c.args.transitions.now c.loop-t.t-index d c.loop-t-test.true)

pub loop-t-preserved : goal.loop-t-preserved
loop-t-preserved c =
    let Q : TransId → Item → Type 0 = (λ t x. x ≡ Effect t) in
    let d : TransId = record { 0 = 0 } in
    grown_by_one c.args.machine.now c.args.self.now.calls.items Q
    (λ (x : Item). IsTrue true × (x ≡ Effect (get_or c.args.transitions.now c.loop-t.t-index d))) c.args.transitions.now c.loop-t.t-index d _ _
    c.loop-t-test.true
    (λ x. (λ q. (refl, q), λ h. h.1))
    c.loop-t.invariant c.add.ensures.calls c.in_ok-add.ensures.added

pub returns-clause-added : goal.returns-clause-added
returns-clause-added c =
    let Q : TransId → Item → Type 0 = (λ t x. x ≡ Effect t) in
    let whole = take_all c.loop-t.t-index c.args.transitions.now (omega (arith, c.loop-t-test.false)) in
    extended_same c.args.machine.now _ _ (AddedBy Q c.args.transitions.now) (IsEffectAmong c.args.transitions.now)
    (λ x. (λ h. (h.0, h.1, h.2), λ h. (h.0, h.1, h.2)))
    (rw whole at c.loop-t.invariant.extended)
