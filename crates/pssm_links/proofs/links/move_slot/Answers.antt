-- the slot leaves one row and comes to another
use Rattle.std.proofs.Common.{◌<◌, length, arith}
use Rattle.pssm_links.specs.inner.Rings.{less}
use Rattle.pssm_links.proofs.Turning.{can-stand, less-rings, less-none, less-size, less-length, ring-edge, no-slot, more-rings}
use Rattle.pssm_links.proofs.links.move_slot.Goals as goal

pub detach-requires-clause-here : goal.detach-requires-clause-here
detach-requires-clause-here g c = (can-stand c.args.slots.now c.requires.0 c.args.slot c.requires.1 c.requires.2 c.args.to c.requires.3).0

pub detach-requires-clause-before : goal.detach-requires-clause-before
detach-requires-clause-before g c = (can-stand c.args.slots.now c.requires.0 c.args.slot c.requires.1 c.requires.2 c.args.to c.requires.3).1

pub detach-requires-clause-after : goal.detach-requires-clause-after
detach-requires-clause-after g c = (can-stand c.args.slots.now c.requires.0 c.args.slot c.requires.1 c.requires.2 c.args.to c.requires.3).2

pub attach-requires-clause-here : goal.attach-requires-clause-here
attach-requires-clause-here g c =
    let stand = can-stand c.args.slots.now c.requires.0 c.args.slot c.requires.1 c.requires.2 c.args.to c.requires.3 in
    let here = stand.0 in
    omega (arith, here, c.detach.ensures.size)

pub attach-requires-clause-before : goal.attach-requires-clause-before
attach-requires-clause-before g c =
    let can = c.requires.3 in
    let rings = less-rings c.args.slots.now c.detach.new.slots c.requires.0 c.args.slot c.requires.1 c.requires.2 can.rings can.from can.place
    c.detach.ensures in
    let e = ring-edge c.detach.new.slots (less c.requires.0 c.requires.1 c.requires.2) c.args.to rings
    (omega (arith, less-length c.requires.0 c.requires.1 c.requires.2, can.into)) in
    e.from

pub returns-clause-rings : goal.returns-clause-rings
returns-clause-rings g c rows r i can =
    let stand = can-stand c.args.slots.now rows c.args.slot r i c.args.to can in
    let here = stand.0 in
    let old = c.args.slots.now in
    let rings = less-rings old c.detach.new.slots rows c.args.slot r i can.rings can.from can.place c.detach.ensures in
    let within : c.args.to < length (less rows r i) = omega (arith, less-length rows r i, can.into) in
    more-rings c.detach.new.slots c.attach.ensures.0 c.attach.new.slots (less rows r i) c.args.slot c.args.to rings within
    (less-none old c.detach.new.slots rows c.args.slot r i can.rings can.from can.place c.detach.ensures)
    (no-slot old rows c.args.slot r i c.args.to can)
    (omega (arith, here, c.detach.ensures.size))
    (less-size old c.detach.new.slots rows c.args.slot r i can.rings can.from can.place c.detach.ensures)
    c.attach.ensures.1 c.attach.ensures.2
