-- the mode tells how the region is opened
use Rattle.std.proofs.Common.{◌≡◌, ◌↔◌, IsTrue, sym, subst, ◌∙◌, ap}
use Rattle.pssm_model.specs.declared.steps.Item.{Item}
use Rattle.pssm_model.specs.declared.steps.Mode.{Mode}
use Rattle.pssm_model.specs.declared.steps.Item.TheVariants.{Opened}
use Rattle.pssm_model.specs.declared.steps.Mode.TheVariants.{Plain}
use Rattle.pssm_legs.specs.inner.Told.{IsCalledAsTold}
use Rattle.pssm_legs.proofs.asking.is_called.Goals as goal

pub returns-in-Opened-default-Plain : goal.returns-in-Opened-default-Plain
returns-in-Opened-default-Plain c =
    let mode : c.in-Opened-default-Plain.field-1 ≡ Plain = (rw c.in-Opened-default-Plain.is at c.in-Opened-default-Plain.field-1-is) in
    let plain : c.args.item ≡ Opened c.in-Opened-default-Plain.r Plain =
    c.in-Opened-default-Plain.is ∙ ap (λ (x : Mode). Opened c.in-Opened-default-Plain.r x) mode in
    subst
    (λ (x : Item). IsTrue c.is_beside.result ↔ IsCalledAsTold c.args.machine.now c.args.legs.now c.args.place c.args.leg.now c.args.fires x)
    (sym plain) c.is_beside.ensures
