-- the first signal that the object does not defer, or none where it waits for none
use Rattle.std.proofs.Common.{false, refl, subst, inl, inr}
use Rattle.pssm_object.specs.Following.{TellsWait}
use Rattle.pssm_system.proofs.Members.{member, of_member}
use Rattle.pssm_system.proofs.situation.Situation.awaited.Goals as goal

pub returns-then-not-awaits_signal : goal.returns-then-not-awaits_signal
returns-then-not-awaits_signal c =
    inr (
      refl,
      λ class x is at.
          let m = member c.requires.well_formed c.requires.stands.1.objects c.args.own class c.index-object.result.now c.from.result is c.from.ensures
          c.index-object.ensures in
          of_member m (λ k y. TellsWait k y false)
          (subst (TellsWait class c.index-object.result.now) c.if-not-awaits_signal.true (c.awaits_signal.ensures class)) class x is at,
    )

pub returns : goal.returns
returns c = inl c.first_for.ensures
