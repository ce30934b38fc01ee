use Rattle.std.proofs.Common.{length, ap, ◌∙◌, List}
use Rattle.pssm_model.specs.declared.draft_setting.ElementRef.{ElementRef}
use Rattle.pssm_redefine.specs.Merging.{slots_of}
use Rattle.pssm_redefine.proofs.BodyLaws.{order_few, order_within, order_given}
use Rattle.pssm_redefine.proofs.WholeLaws.{whole}
use Rattle.pssm_redefine.proofs.machine.merge.Goals as goal

pub numbers_of-requires-clause-few : goal.numbers_of-requires-clause-few
numbers_of-requires-clause-few c =
    order_few c.in_ok-slots.slots.items c.as_slice-lent.result.now (slots_of c.args.draft.now c.args.gathered.now.vertices c.args.gathered.now.transitions)
    c.in_ok-order.order.items c.as_slice-places.result.now c.as_slice-lent.ensures.value
    (c.in_ok-slots.ensures ∙ ap (λ (x : List (List ElementRef)). slots_of c.args.draft.now x c.as_slice-transitions.result.now) c.as_slice-vertices.ensures
    ∙ ap (slots_of c.args.draft.now c.args.gathered.now.vertices) c.as_slice-transitions.ensures)
    c.as_slice-places.ensures.value c.in_ok-order.ensures c.requires.bodies

pub numbers_of-requires-clause-within : goal.numbers_of-requires-clause-within
numbers_of-requires-clause-within c =
    order_within c.in_ok-slots.slots.items c.as_slice-lent.result.now c.in_ok-order.order.items c.as_slice-places.result.now (length c.as_slice-lent.result.now)
    c.as_slice-lent.ensures.value c.as_slice-places.ensures.value (ap length c.as_slice-lent.ensures.value) c.in_ok-order.ensures

pub bodies_of-requires : goal.bodies_of-requires
bodies_of-requires c =
    order_given c.in_ok-slots.slots.items c.as_slice-lent.result.now c.as_slice-lent.result.now c.in_ok-order.order.items c.as_slice-places.result.now
    c.as_slice-lent.ensures.value c.as_slice-lent.ensures.value c.as_slice-places.ensures.value c.in_ok-order.ensures

pub returns : goal.returns
returns c =
    whole c.args.draft.now c.args.class.now c.args.gathered.now c.in_ok-slots.slots.items c.as_slice-lent.result.now c.as_slice-lent.result.now
    c.as_slice-vertices.result.now c.as_slice-transitions.result.now c.in_ok-order.order.items c.as_slice-places.result.now c.as_slice-places.result.now
    (length c.as_slice-lent.result.now) c.in_ok-numbers.numbers.items c.deref.result.now c.as_slice.result.now c.in_ok-vars.vars.items c.from_vec.result
    c.in_ok-machine.machine c.in_ok-bodies.bodies.items c.from_vec-2.result
    c.as_slice-vertices.ensures c.as_slice-transitions.ensures c.in_ok-slots.ensures c.as_slice-lent.ensures.value c.as_slice-lent.ensures.value c.in_ok-order.ensures
    c.as_slice-places.ensures.value c.as_slice-places.ensures.value c.in_ok-numbers.ensures c.deref.ensures.value c.as_slice.ensures c.in_ok-vars.ensures
    c.from_vec.ensures c.in_ok-machine.ensures c.in_ok-bodies.ensures c.from_vec-2.ensures
