-- the start is open; an open transition goes on from where the last one ends, or that is the end of a way
use Rattle.std.proofs.Common.{rules, subst, arith}
use Rattle.pssm_model.proofs.ElementLaws.{enters_one}
use Rattle.pssm_enabled.specs.Ways.{IsPassedOver}
use Rattle.pssm_enabled.proofs.ListPlaces.{refuted}
use Rattle.pssm_enabled.proofs.FollowedWays.{follows_at_start, follows_more, follows_out}
use Rattle.pssm_enabled.proofs.following.follow.Goals as goal

pub loop-place-init : goal.loop-place-init
loop-place-init g c =
    (search rules, c.requires.there, λ values tells. follows_at_start c.args.steps.now ((c.is_open.ensures values tells).0 c.if-not-is_open.false))

pub returns-then-not-ends_inside-clause-found : goal.returns-then-not-ends_inside-clause-found
returns-then-not-ends_inside-clause-found g c values tells =
    follows_out c.loop-place.steps c.loop-place.last c.loop-place.place (c.loop-place.invariant.2 values tells)
    (λ v enters over. refuted c.ends_inside.result c.if-not-ends_inside.true c.ends_inside.ensures (v, enters, over))

pub loop-place-preserved : goal.loop-place-preserved
loop-place-preserved g c =
    let m = c.args.machine.now in
    let long = c.loop-place.invariant.0 in
    let lt = c.loop-place-test.true in
    let (v, enters, over) = c.ends_inside.ensures.0 c.if-not-ends_inside.false in
    let same = enters_one m c.loop-place.last.by v c.target.result enters c.target.ensures.enters in (
      search (rules, long),
      c.in_ok-next.ensures.there,
      λ values tells. follows_more c.requires.rules c.loop-place.steps c.loop-place.last c.loop-place.place c.in_ok-next.next c.target.result
          (c.loop-place.invariant.2 values tells) (omega (arith, lt, long)) c.target.ensures.enters (subst (IsPassedOver m) same over)
          c.in_ok-next.ensures.leaves (c.in_ok-next.ensures.open values tells),
    )
