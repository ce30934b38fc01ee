-- a signal with the number is the first with it
use Rattle.std.proofs.lemmas.Option.{IfSome_then}
use Rattle.pssm_pool.specs.Waits.{waiting_for}
use Rattle.pssm_system.proofs.Numbers.{own-numbered}
use Rattle.pssm_system.proofs.Slots.{slot_taken}
use Rattle.pssm_system.proofs.pooling.taken_slot.Goals as goal

pub returns-in-Take : goal.returns-in-Take
returns-in-Take c =
    let pools = c.args.pools.now in
    let o = c.in-Take.object in
    slot_taken pools c.args.entry.now o c.in-Take.number c.in-Take.firing c.in-Take.is c.numbered.result
    (IfSome_then c.numbered.result c.numbered.ensures.there
    (λ slot at. (at.0, at.1, own-numbered c.in-Take.number (waiting_for pools.waiting o) at.0 at.2.0 at.2.1 at.2.2 (c.requires o))))
    c.numbered.ensures.none
