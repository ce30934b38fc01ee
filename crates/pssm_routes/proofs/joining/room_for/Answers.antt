use Rattle.std.proofs.Common.{refl}
use Rattle.std.proofs.lemmas.Bool.{false≢true}
use Rattle.pssm_routes.proofs.Rooms.{goes_at, goes_by, touched_is_shut, open_unless_external, shut_without_ceiling, open_below_ceiling}
use Rattle.pssm_routes.proofs.joining.room_for.Goals as goal

pub returns-then-is_touched : goal.returns-then-is_touched
returns-then-is_touched c = record {
  inside = tt;
  room = touched_is_shut c.requires.rules c.regions-shaped.ensures.shaped _ _ _ c.anchor_of-anchor.ensures.anchor (c.if-is_touched.ensures.0 refl);
}

pub returns-in-Some-clause-room : goal.returns-in-Some-clause-room
returns-in-Some-clause-room c =
    open_below_ceiling c.requires.rules c.regions-shaped.ensures.shaped _ _ _ c.anchor_of-anchor.ensures.anchor
    (λ h. false≢true (c.if-is_touched.ensures.1 h)) (goes_by c.args.machine.now c.args.t _ _ c.transition.ensures c.in-External.is) _ c.in-Some.ensures.some

pub returns-in-None-clause-room : goal.returns-in-None-clause-room
returns-in-None-clause-room c =
    shut_without_ceiling c.requires.rules c.regions-shaped.ensures.shaped _ _ _ c.anchor_of-anchor.ensures.anchor
    (λ h. false≢true (c.if-is_touched.ensures.1 h)) (goes_by c.args.machine.now c.args.t _ _ c.transition.ensures c.in-External.is) c.in-None.ensures.none

pub returns-in_default : goal.returns-in_default
returns-in_default c = record {
  inside = tt;
  room = open_unless_external c.requires.rules c.regions-shaped.ensures.shaped _ _ _ c.anchor_of-anchor.ensures.anchor
      (λ h. false≢true (c.if-is_touched.ensures.1 h)) _ (goes_at c.args.machine.now c.args.t _ c.transition.ensures) c.in_default.not-External;
}
