use Rattle.std.proofs.Common.{◌≡◌, ◌⊎◌, IsTrue, true, refl}
use Rattle.std.proofs.lemmas.Result.{on_ok_weaker}
use Rattle.pssm_model.specs.declared.steps.Item.{Item}
use Rattle.pssm_model.specs.declared.steps.Item.TheVariants.{Enter}
use Rattle.pssm_plan.specs.inner.Calling.{IsOpeningOf, IsOfRestored}
use Rattle.pssm_plan.proofs.Extending.{extended_same, extended_further}
use Rattle.pssm_plan.proofs.AddedCalls.{of_restored}
use Rattle.pssm_plan.proofs.roster.Roster.list_restored.Goals as goal

pub returns-clause-added : goal.returns-clause-added
returns-clause-added c =
    let m = c.args.machine.now in
    let s = c.args.s in
    let old = c.args.self.now.calls.items in
    let mid = c.add.new.self.calls.items in
    let ran = c.has_run-ran.ensures in
    on_ok_weaker c.list_regions.result
    (λ added. extended_same m old _ (λ (x : Item). (IsTrue true × (x ≡ Enter s)) ⊎ (IsTrue c.has_run-ran.result × IsOpeningOf m s c.restored_mode.result x))
    (IsOfRestored m old c.args.mode s)
    (of_restored m s old mid c.args.mode c.restored_mode.result true c.has_run-ran.result refl
    c.in_ok-add.ensures.added.marked c.restored_mode.ensures ran)
    (extended_further m old mid _ (λ (x : Item). IsTrue true × (x ≡ Enter s))
    (λ (x : Item). IsTrue c.has_run-ran.result × IsOpeningOf m s c.restored_mode.result x)
    c.in_ok-add.ensures.added added))
    c.list_regions.ensures.added
