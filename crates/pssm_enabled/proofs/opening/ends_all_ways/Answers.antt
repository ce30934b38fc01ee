-- each turn looks at one transition more
use Rattle.std.proofs.Common.{◌≡◌, ◌<◌, length, subst, arith}
use Rattle.pssm_model.proofs.ElementLaws.{enters_one}
use Rattle.pssm_enabled.specs.inner.Passing.{EndsWay, EndsWayBehind}
use Rattle.pssm_enabled.proofs.ListPlaces.{below_next, below_all}
use Rattle.pssm_enabled.proofs.opening.ends_all_ways.Goals as goal

pub returns-then-not-ends_way : goal.returns-then-not-ends_way
returns-then-not-ends_way c wrong = absurd (cc)

pub loop-t-preserved : goal.loop-t-preserved
loop-t-preserved c =
    let items = c.outgoing-t-items.result.now in
    let more : c.loop-t.t-index < length items =
    let less = c.loop-t-test.true in let upto = c.loop-t.auto.t-index-end in omega (arith, less, upto) in
    below_next (EndsWayBehind c.args.machine.now) items c.loop-t.t-index _ more
    (λ w enters. subst (EndsWay c.args.machine.now) (enters_one c.args.machine.now _ c.target.result w c.target.ensures.enters enters)
    (c.ends_way.ensures.0 c.if-not-ends_way.false)) c.loop-t.invariant

pub returns : goal.returns
returns c =
    let items = c.outgoing-t-items.result.now in
    let all : length items ≡ c.loop-t.t-index =
    let last = c.loop-t-test.false in let upto = c.loop-t.auto.t-index-end in omega (arith, last, upto) in
    λ holds u leaves. below_all (EndsWayBehind c.args.machine.now) items c.loop-t.t-index all c.loop-t.invariant u
    ((c.outgoing-t-items.ensures.items u).1 leaves)
