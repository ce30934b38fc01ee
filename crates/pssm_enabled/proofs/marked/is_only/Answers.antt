-- each turn looks at one transition more
use Rattle.std.proofs.Common.{◌≡◌, ◌<◌, length, get_or, refl, arith}
use Rattle.std.proofs.lemmas.List.Elements.{Contains-get_or}
use Rattle.pssm_model.specs.declared.ids.TransId.{TransId}
use Rattle.pssm_enabled.specs.inner.Fitting.{IsOrUnmarked}
use Rattle.pssm_enabled.proofs.ListPlaces.{below_next, below_all, refuted}
use Rattle.pssm_enabled.proofs.marked.is_only.Goals as goal

pub returns-then-not-is_or_unmarked : goal.returns-then-not-is_or_unmarked
returns-then-not-is_or_unmarked c =
    let d : TransId = record { 0 = 0 } in
    let items = c.outgoing-u-items.result.now in
    let more : c.loop-u.u-index < length items =
    let less = c.loop-u-test.true in let upto = c.loop-u.auto.u-index-end in omega (arith, less, upto) in
    let u = get_or items c.loop-u.u-index d in (
      λ wrong. absurd (cc),
      λ h. absurd (refuted c.is_or_unmarked.result c.if-not-is_or_unmarked.true c.is_or_unmarked.ensures
          (h u ((c.outgoing-u-items.ensures.items u).0 (Contains-get_or items c.loop-u.u-index d more)))),
    )

pub loop-u-preserved : goal.loop-u-preserved
loop-u-preserved c =
    let items = c.outgoing-u-items.result.now in
    let more : c.loop-u.u-index < length items =
    let less = c.loop-u-test.true in let upto = c.loop-u.auto.u-index-end in omega (arith, less, upto) in
    below_next (IsOrUnmarked c.args.on.now c.args.t) items c.loop-u.u-index _ more (c.is_or_unmarked.ensures.0 c.if-not-is_or_unmarked.false)
    c.loop-u.invariant

pub returns : goal.returns
returns c =
    let items = c.outgoing-u-items.result.now in
    let all : length items ≡ c.loop-u.u-index =
    let last = c.loop-u-test.false in let upto = c.loop-u.auto.u-index-end in omega (arith, last, upto) in (
      λ holds u leaves. below_all (IsOrUnmarked c.args.on.now c.args.t) items c.loop-u.u-index all c.loop-u.invariant u
          ((c.outgoing-u-items.ensures.items u).1 leaves),
      λ h. refl,
    )
