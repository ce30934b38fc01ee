-- a value leaves, and its slot is unused
use Rattle.std.proofs.Common.{◌+◌, IsSome, sym, subst, ◌∙◌, arith}
use Rattle.pssm_links.proofs.Leaving.{take-ready, slot-there, take-some, take-is, take-done}
use Rattle.pssm_links.proofs.chains.Chains.unlink.Goals as goal

pub move_slot-requires : goal.move_slot-requires
move_slot-requires g c =
    let lent = c.as_mut_slice-slots.ensures in
    take-ready c.self.inside.slots.items c.self.inside.lists c.self.inside.unused (c.self.inside.unused + c.self.inside.fresh) c.args.self.now c.self.view_is (c.self.invariant.0, c.self.invariant.1)
    c.as_mut_slice-slots.result.now lent.value c.args.slot c.requires.0 c.requires.1 c.requires.2

pub take_value-value-requires-clause-here : goal.take_value-value-requires-clause-here
take_value-value-requires-clause-here g c =
    let lent = c.as_mut_slice-slots.ensures in
    let there = slot-there c.self.inside.slots.items c.self.inside.lists c.self.inside.unused (c.self.inside.unused + c.self.inside.fresh) c.args.self.now c.self.view_is (c.self.invariant.0, c.self.invariant.1)
    c.as_mut_slice-slots.result.now lent.value c.args.slot c.requires.0 c.requires.1 c.requires.2 in
    omega (arith, there, c.move_slot.ensures.size)

pub take_value-value-requires-clause-value : goal.take_value-value-requires-clause-value
take_value-value-requires-clause-value g c =
    let lent = c.as_mut_slice-slots.ensures in
    let some = take-some c.self.inside.slots.items c.self.inside.lists c.self.inside.unused (c.self.inside.unused + c.self.inside.fresh) c.args.self.now c.self.view_is (c.self.invariant.0, c.self.invariant.1)
    c.as_mut_slice-slots.result.now lent.value c.args.slot c.requires.0 c.requires.1 c.requires.2 in
    subst (λ o. IsSome o) (sym (c.move_slot.ensures.values c.args.slot.0)) some

pub invariant_of-self : goal.invariant_of-self
invariant_of-self g c =
    let lent = c.as_mut_slice-slots.ensures in
    let moving = c.move_slot.ensures in
    let done = take-done c.self.inside.slots.items c.self.inside.lists c.self.inside.unused (c.self.inside.unused + c.self.inside.fresh) c.args.self.now c.self.view_is (c.self.invariant.0, c.self.invariant.1)
    c.as_mut_slice-slots.result.now lent.value c.args.slot c.move_slot.new.slots c.take_value-value.new.slots c.self.inside.slots.len
    c.self.inside.slots.ok.0 moving.rings moving.values moving.size c.take_value-value.ensures.slots c.requires.0 c.requires.1 c.requires.2 in
    let base = done.0 in
    (base.0, base.1, omega (arith, done.2, c.self.invariant.2), omega (arith, done.2, c.self.invariant.3))

pub returns-clause-taken : goal.returns-clause-taken
returns-clause-taken g c l i at =
    let lent = c.as_mut_slice-slots.ensures in
    let is = take-is c.self.inside.slots.items c.self.inside.lists c.self.inside.unused (c.self.inside.unused + c.self.inside.fresh) c.args.self.now c.self.view_is (c.self.invariant.0, c.self.invariant.1)
    c.as_mut_slice-slots.result.now lent.value c.args.slot l i at in
    sym is ∙ sym (c.move_slot.ensures.values c.args.slot.0) ∙ c.take_value-value.ensures.value

pub returns-clause-lists : goal.returns-clause-lists
returns-clause-lists g c l i at =
    let lent = c.as_mut_slice-slots.ensures in
    let moving = c.move_slot.ensures in
    let done = take-done c.self.inside.slots.items c.self.inside.lists c.self.inside.unused (c.self.inside.unused + c.self.inside.fresh) c.args.self.now c.self.view_is (c.self.invariant.0, c.self.invariant.1)
    c.as_mut_slice-slots.result.now lent.value c.args.slot c.move_slot.new.slots c.take_value-value.new.slots c.self.inside.slots.len
    c.self.inside.slots.ok.0 moving.rings moving.values moving.size c.take_value-value.ensures.slots l i at in
    done.1
