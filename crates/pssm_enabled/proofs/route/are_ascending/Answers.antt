-- each turn looks at one transition more
use Rattle.std.proofs.Common.{◌<◌, ◌≤◌, length, arith}
use Rattle.pssm_enabled.proofs.ListPlaces.{refuted}
use Rattle.pssm_enabled.proofs.Ascents.{ascends_one_less, ascends_fails, ascends_end}
use Rattle.pssm_enabled.proofs.route.are_ascending.Goals as goal

pub loop-t-preserved : goal.loop-t-preserved
loop-t-preserved c =
    let more : c.loop-t.t-index < length c.args.transitions.now =
    let less = c.loop-t-test.true in let upto = c.loop-t.auto.t-index-end in omega (arith, less, upto) in
    ascends_one_less (length c.args.machine.now.transitions) c.loop-t.least c.loop-t.t-index c.args.transitions.now _ more c.loop-t.invariant
    (c.is_further.ensures.0 c.if-not-is_further.false)

pub overflow_add-least : goal.overflow_add-least
overflow_add-least c =
    let limit = c.regions-shaped.ensures.shaped.limits.transitions in
    let less = (c.is_further.ensures.0 c.if-not-is_further.false).1 in omega (arith, limit, less)

pub returns-then-not-is_further : goal.returns-then-not-is_further
returns-then-not-is_further c =
    let more : c.loop-t.t-index < length c.args.transitions.now =
    let less = c.loop-t-test.true in let upto = c.loop-t.auto.t-index-end in omega (arith, less, upto) in (
      λ wrong. absurd (cc),
      λ h. absurd (ascends_fails (length c.args.machine.now.transitions) c.loop-t.least c.loop-t.t-index c.args.transitions.now _ more c.loop-t.invariant
          (refuted c.is_further.result c.if-not-is_further.true c.is_further.ensures) h),
    )

pub returns : goal.returns
returns c =
    let all : length c.args.transitions.now ≤ c.loop-t.t-index =
    let last = c.loop-t-test.false in let upto = c.loop-t.auto.t-index-end in omega (arith, last, upto) in
    (λ holds. ascends_end (length c.args.machine.now.transitions) c.loop-t.least c.loop-t.t-index c.args.transitions.now all c.loop-t.invariant, λ h. cc)
