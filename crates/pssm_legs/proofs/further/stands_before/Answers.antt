-- each turn looks at one transition more
use Rattle.std.proofs.Common.{◌<◌, ◌≤◌, length, refl, arith}
use Rattle.std.proofs.lemmas.Option.{slice_get-get_or}
use Rattle.pssm_legs.proofs.NoneSoFar.{refuted}
use Rattle.pssm_legs.proofs.SeenBefore.{second_found, one_more_seen, none_stands}
use Rattle.pssm_legs.proofs.further.stands_before.Goals as goal

pub loop-w-preserved : goal.loop-w-preserved
loop-w-preserved c =
    let more : c.loop-w.w-index < length c.args.path.now =
    let less = c.loop-w-test.true in let upto = c.loop-w.auto.w-index-end in omega (arith, less, upto) in
    one_more_seen c.args.path.now c.args.t c.args.u c.loop-w.seen _ c.loop-w.w-index _ c.loop-w.invariant (slice_get-get_or _ _ _ more)
    c.comes_to-seen.ensures (refuted _ c.if-is_second.false c.is_second.ensures)

pub returns-then-is_second : goal.returns-then-is_second
returns-then-is_second c =
    let more : c.loop-w.w-index < length c.args.path.now =
    let less = c.loop-w-test.true in let upto = c.loop-w.auto.w-index-end in omega (arith, less, upto) in (
      λ is. second_found c.args.path.now c.args.t c.args.u c.loop-w.seen c.loop-w.w-index _ c.loop-w.invariant (slice_get-get_or _ _ _ more)
          (c.is_second.ensures.0 c.if-is_second.true),
      λ h. refl,
    )

pub returns : goal.returns
returns c =
    let all : length c.args.path.now ≤ c.loop-w.w-index =
    let last = c.loop-w-test.false in let upto = c.loop-w.auto.w-index-end in omega (arith, last, upto) in (
      λ wrong. absurd (cc),
      λ h. absurd (none_stands c.args.path.now c.args.t c.args.u c.loop-w.seen c.loop-w.w-index all c.loop-w.invariant h),
    )
