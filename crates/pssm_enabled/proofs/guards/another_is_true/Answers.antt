-- each turn looks at one transition more
use Rattle.std.proofs.Common.{◌≡◌, ◌<◌, length, arith}
use Rattle.pssm_enabled.proofs.ListPlaces.{below_next, refuted, below_all}
use Rattle.pssm_enabled.proofs.Guarded.{IsNoTrueOther, none_true_at_all}
use Rattle.pssm_enabled.proofs.guards.another_is_true.Goals as goal

pub loop-u-preserved : goal.loop-u-preserved
loop-u-preserved g c values tells =
    let more : c.loop-u.u-index < length c.outgoing-u-items.result.now =
    let less = c.loop-u-test.true in let upto = c.loop-u.auto.u-index-end in omega (arith, less, upto) in
    below_next (IsNoTrueOther c.args.machine.now values c.args.t) c.outgoing-u-items.result.now c.loop-u.u-index _ more
    (refuted c.is_another_true.result c.if-is_another_true.false (c.is_another_true.ensures values tells)) (c.loop-u.invariant values tells)

pub returns : goal.returns
returns g c values tells =
    let all : length c.outgoing-u-items.result.now ≡ c.loop-u.u-index =
    let last = c.loop-u-test.false in let upto = c.loop-u.auto.u-index-end in omega (arith, last, upto) in (
      λ wrong. absurd (cc),
      λ h. absurd (none_true_at_all c.args.machine.now values c.args.t c.source.result c.outgoing-u-items.result.now c.source.ensures.leaves
          c.outgoing-u-items.ensures.items
          (below_all (IsNoTrueOther c.args.machine.now values c.args.t) c.outgoing-u-items.result.now c.loop-u.u-index all
          (c.loop-u.invariant values tells)) h),
    )
