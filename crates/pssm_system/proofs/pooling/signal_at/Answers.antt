use Rattle.std.proofs.Common.{Option, sym, subst}
use Rattle.pssm_links.specs.declared.slot.SlotId.{SlotId}
use Rattle.pssm_system.specs.inner.Pooling.{IsSlotTaken}
use Rattle.pssm_system.proofs.Slots.{signal_there}
use Rattle.pssm_system.proofs.pooling.signal_at.Goals as goal

pub returns-in-Some : goal.returns-in-Some
returns-in-Some c = λ e t.
    signal_there c.args.pools.now e c.in-Some.slot c.at.result.now (subst (λ (o : Option SlotId). IsSlotTaken c.args.pools.now e o) c.in-Some.is t) c.at.ensures

pub returns-in-None : goal.returns-in-None
returns-in-None c = λ e t. sym (subst (λ (o : Option SlotId). IsSlotTaken c.args.pools.now e o) c.in-None.is t).0
