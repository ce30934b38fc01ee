-- the signal of the slot leaves, or there is none
use Rattle.std.proofs.Common.{◌≡◌, Option, sym, subst, ◌∙◌}
use Rattle.pssm_semantics.specs.declared.entry.ObjectId.{ObjectId}
use Rattle.pssm_links.specs.declared.slot.SlotId.{SlotId}
use Rattle.pssm_pool.specs.Waits.{IsSlotOf, without}
use Rattle.pssm_system.specs.inner.Pooling.{IsSlotTaken, IsTakenAt, left_by}
use Rattle.pssm_system.proofs.pooling.leave_slot.Goals as goal

pub take_from-requires : goal.take_from-requires
take_from-requires c =
    let pools = c.args.pools.now in
    let slot = c.in-Some.slot in
    let t : IsTakenAt pools c.args.entry.now slot = subst (λ (o : Option SlotId). IsSlotTaken pools c.args.entry.now o) c.in-Some.is c.requires in
    (t.place, subst (λ (o : ObjectId). IsSlotOf pools slot o t.place) (t.own ∙ sym c.object_of.ensures) t.is)

pub returns-in-Some-clause-waiting : goal.returns-in-Some-clause-waiting
returns-in-Some-clause-waiting c =
    let pools = c.args.pools.now in
    let slot = c.in-Some.slot in
    let t : IsTakenAt pools c.args.entry.now slot = subst (λ (o : Option SlotId). IsSlotTaken pools c.args.entry.now o) c.in-Some.is c.requires in
    let own = t.own ∙ sym c.object_of.ensures in
    c.take_from.ensures.waiting t.place (subst (λ (o : ObjectId). IsSlotOf pools slot o t.place) own t.is)
    ∙ sym (subst (λ (o : ObjectId). left_by c.args.entry.now pools.waiting ≡ without pools.waiting o t.place) own t.others)

pub returns-in_default-clause-waiting : goal.returns-in_default-clause-waiting
returns-in_default-clause-waiting c =
    sym (subst (λ (o : Option SlotId). IsSlotTaken c.args.pools.now c.args.entry.now o) c.in_default.is c.requires).1
