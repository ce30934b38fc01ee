use Rattle.std.proofs.Common.{◌∙◌, ap, sym, ◌++◌, ◌∷◌, [], List}
use Rattle.pssm_redefine.specs.declared.bodies.Place.{Place}
use Rattle.pssm_redefine.proofs.BodyLaws.{places_some, places_none}
use Rattle.pssm_redefine.proofs.bodies.places_of.Goals as goal
use Rattle.pssm_redefine.proofs.bodies.places_of.Goals.{in-Some+in_ok-push-in-Some, in-None}

pub loop-slot-preserved : goal.loop-slot-preserved
loop-slot-preserved c = elim c.match-given.branch [
  | in-Some+in_ok-push-in-Some w ↦
      rw w.places-is
      (w.in_ok-push-in-Some.ensures.items
      ∙ ap (λ (ps : List Place). ps ++ record { at = w.in-Some.body.now.at; slot = c.loop-slot.slot } ∷ []) c.loop-slot.invariant
      ∙ sym (places_some c.args.slots.now c.loop-slot.slot c.index-slots-slot.result w.in-Some.body c.loop-slot-test.true c.index-slots-slot.is w.in-Some.is))
  | in-None w ↦
      rw w.places-is
      (c.loop-slot.invariant ∙ sym (places_none c.args.slots.now c.loop-slot.slot c.index-slots-slot.result c.loop-slot-test.true c.index-slots-slot.is w.in-None.is))
]
