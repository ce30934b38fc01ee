use Rattle.std.proofs.Common.{◌<◌, ◌≢◌, ◌+◌, length, get_or, subst, sym, arith, ◌∙◌}
use Rattle.pssm_plan.specs.declared.roster.Call.{Call}
use Rattle.pssm_plan.specs.inner.Sequence.{IsSequence}
use Rattle.pssm_plan.specs.inner.Marks.{HasSeen}
use Rattle.pssm_plan.specs.inner.Passes.{NewLeft}
use Rattle.pssm_plan.proofs.Settling.{seen_fresh, seen_along}
use Rattle.pssm_plan.proofs.Passes.{pairs_alike, alike_pairs, pairs_further, new_more, put_sure, put_alike, put_other}
use Rattle.pssm_plan.proofs.waiters.settle_each.Goals as goal

pub look_once_more-requires-clause-seen : goal.look_once_more-requires-clause-seen
look_once_more-requires-clause-seen c = λ e.
    let old = c.args.calls.now in
    let now = c.loop-place.calls in
    let p = c.loop-place.place in
    let Comes = IsSequence c.args.machine.now c.args.ways.now in
    let inv = c.loop-place.invariant in
    let lt : c.loop-place.place < length c.args.calls.now = (let long = c.loop-place.invariant.0.0 in let test = c.loop-place-test.true in omega (arith, long, test)) in
    subst (λ (x : Call). HasSeen Comes now p x) (sym (inv.3 p e (omega arith)))
    (seen_along Comes old now p (get_or old p e) (pairs_alike old now inv.0)
    (seen_fresh Comes old p (get_or old p e) lt (c.requires.fresh p e lt)))

pub loop-place-preserved : goal.loop-place-preserved
loop-place-preserved c =
    let old = c.args.calls.now in
    let now = c.loop-place.calls in
    let new = c.look_once_more.new.calls in
    let p = c.loop-place.place in
    let Comes = IsSequence c.args.machine.now c.args.ways.now in
    let inv = c.loop-place.invariant in
    let lt : c.loop-place.place < length c.loop-place.calls = (let long = c.loop-place.invariant.0.0 in let test = c.loop-place-test.true in omega (arith, long, test)) in
    let s = c.look_once_more.ensures.settled in (
      pairs_further old now new inv.0 (alike_pairs now new (put_alike Comes now new p s lt)),
      c.look_once_more.ensures.caught,
      put_sure Comes now new p s lt (NewLeft p) (NewLeft (p + 1)) inv.2 (λ k x other h. new_more Comes p now new k x other h),
      λ k d le. (let other : k ≢ c.loop-place.place = omega (arith, le) in put_other Comes now new p s lt k d other ∙ inv.3 k d (omega (arith, le))),
    )
