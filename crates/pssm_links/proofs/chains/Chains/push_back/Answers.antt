-- a value comes into the last of the unused slots
use Rattle.std.proofs.Common.{ap, ◌+◌, arith}
use Rattle.pssm_links.proofs.Turning.{can-stand}
use Rattle.pssm_links.specs.Chained.{Chained}
use Rattle.pssm_links.proofs.Fresh.{new-edge, new-done}
use Rattle.pssm_links.proofs.Coming.{push-ready, push-done}
use Rattle.pssm_links.proofs.chains.Chains.push_back.Goals as goal

pub move_slot-requires : goal.move_slot-requires
move_slot-requires g c =
    let lent = c.as_mut_slice-slots.ensures in
    push-ready c.self.inside.slots.items c.self.inside.lists c.self.inside.unused (c.self.inside.unused + c.self.inside.fresh) c.args.self.now c.self.view_is (c.self.invariant.0, c.self.invariant.1)
    c.as_mut_slice-slots.result.now lent.value c.index.result.now c.args.list c.index.ensures c.requires.list (omega arith)

pub put_value-requires : goal.put_value-requires
put_value-requires g c =
    let lent = c.as_mut_slice-slots.ensures in
    let moving = c.move_slot.ensures in
    let ready = push-ready c.self.inside.slots.items c.self.inside.lists c.self.inside.unused (c.self.inside.unused + c.self.inside.fresh) c.args.self.now c.self.view_is (c.self.invariant.0, c.self.invariant.1)
    c.as_mut_slice-slots.result.now lent.value c.index.result.now c.args.list c.index.ensures c.requires.list (omega arith) in
    let stand = can-stand c.as_mut_slice-slots.result.now ready.0 c.index.result.now.prev ready.1 ready.2 c.args.list ready.3 in
    let there = stand.0 in
    omega (arith, there, moving.size)

pub invariant_of-self-2 : goal.invariant_of-self-2
invariant_of-self-2 g c =
    let lent = c.as_mut_slice-slots.ensures in
    let moving = c.move_slot.ensures in
    let done = push-done c.self.inside.slots.items c.self.inside.lists c.self.inside.unused (c.self.inside.unused + c.self.inside.fresh) c.args.self.now c.self.view_is (c.self.invariant.0, c.self.invariant.1)
    c.as_mut_slice-slots.result.now lent.value c.index.result.now c.args.list c.index.ensures c.requires.list (omega arith)
    c.move_slot.new.slots c.put_value.new.slots c.args.value c.self.inside.slots.len c.self.inside.slots.ok.0
    moving.rings moving.values moving.size c.put_value.ensures in
    let base = done.0 in
    (base.0, base.1, omega (arith, done.2, c.self.invariant.2), omega (arith, done.2, c.self.invariant.3))

pub returns-clause-lists : goal.returns-clause-lists
returns-clause-lists g c =
    let lent = c.as_mut_slice-slots.ensures in
    let moving = c.move_slot.ensures in
    let done = push-done c.self.inside.slots.items c.self.inside.lists c.self.inside.unused (c.self.inside.unused + c.self.inside.fresh) c.args.self.now c.self.view_is (c.self.invariant.0, c.self.invariant.1)
    c.as_mut_slice-slots.result.now lent.value c.index.result.now c.args.list c.index.ensures c.requires.list (omega arith)
    c.move_slot.new.slots c.put_value.new.slots c.args.value c.self.inside.slots.len c.self.inside.slots.ok.0
    moving.rings moving.values moving.size c.put_value.ensures in
    done.1

pub push_slot-requires-clause-before : goal.push_slot-requires-clause-before
push_slot-requires-clause-before g c =
    new-edge c.self.inside.slots.items c.self.inside.lists c.self.inside.unused (c.self.inside.unused + c.self.inside.fresh) c.args.self.now
    c.self.view_is (c.self.invariant.0, c.self.invariant.1) c.len-slot.result c.args.list c.requires.list

pub invariant_of-self : goal.invariant_of-self
invariant_of-self g c =
    let pushed = c.push_slot.ensures in
    let total = ap (λ (v : Chained g.row.T.Denot). v.spare) c.self.view_is in
    let done = new-done c.self.inside.slots.items c.self.inside.lists c.self.inside.unused (c.self.inside.unused + c.self.inside.fresh) c.args.self.now
    c.self.view_is (c.self.invariant.0, c.self.invariant.1) c.len-slot.result c.args.list c.requires.list c.args.value pushed.items.0
    c.push_slot.new.slots.items (omega arith) (omega (arith, total, c.self.invariant.3)) pushed.items.1 pushed.items.2 in
    let base = done.0 in
    (base.0, base.1, omega (arith, total, pushed.size, pushed.capacity, c.self.invariant.2), omega (arith, total, pushed.size, c.self.invariant.3))

pub returns-then-self-eq0-clause-lists : goal.returns-then-self-eq0-clause-lists
returns-then-self-eq0-clause-lists g c =
    let pushed = c.push_slot.ensures in
    let total = ap (λ (v : Chained g.row.T.Denot). v.spare) c.self.view_is in
    let done = new-done c.self.inside.slots.items c.self.inside.lists c.self.inside.unused (c.self.inside.unused + c.self.inside.fresh) c.args.self.now
    c.self.view_is (c.self.invariant.0, c.self.invariant.1) c.len-slot.result c.args.list c.requires.list c.args.value pushed.items.0
    c.push_slot.new.slots.items (omega arith) (omega (arith, total, c.self.invariant.3)) pushed.items.1 pushed.items.2 in
    done.1
