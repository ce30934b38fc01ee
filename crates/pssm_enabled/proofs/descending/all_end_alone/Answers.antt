-- each turn looks at one transition more
use Rattle.std.proofs.Common.{◌≡◌, ◌<◌, length, arith}
use Rattle.pssm_enabled.specs.inner.Fitting.{EndsAlone}
use Rattle.pssm_enabled.proofs.ListPlaces.{below_next, below_all}
use Rattle.pssm_enabled.proofs.descending.all_end_alone.Goals as goal

pub returns-then-not-ends_alone : goal.returns-then-not-ends_alone
returns-then-not-ends_alone c wrong = absurd (cc)

pub loop-t-preserved : goal.loop-t-preserved
loop-t-preserved c =
    let items = c.outgoing-t-items.result.now in
    let more : c.loop-t.t-index < length items =
    let less = c.loop-t-test.true in let upto = c.loop-t.auto.t-index-end in omega (arith, less, upto) in
    below_next (EndsAlone c.args.machine.now) items c.loop-t.t-index _ more (c.ends_alone.ensures.0 c.if-not-ends_alone.false) c.loop-t.invariant

pub returns : goal.returns
returns c =
    let items = c.outgoing-t-items.result.now in
    let all : length items ≡ c.loop-t.t-index =
    let last = c.loop-t-test.false in let upto = c.loop-t.auto.t-index-end in omega (arith, last, upto) in
    λ holds u leaves. below_all (EndsAlone c.args.machine.now) items c.loop-t.t-index all c.loop-t.invariant u
    ((c.outgoing-t-items.ensures.items u).1 leaves)
