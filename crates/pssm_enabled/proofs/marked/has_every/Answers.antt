-- each turn looks at one transition more
use Rattle.std.proofs.Common.{◌≡◌, ◌<◌, length, get_or, refl, arith}
use Rattle.std.proofs.lemmas.List.Elements.{Contains-get_or}
use Rattle.pssm_model.specs.declared.ids.TransId.{TransId}
use Rattle.pssm_enabled.specs.inner.Fitting.{IsMarkedTransition}
use Rattle.pssm_enabled.proofs.ListPlaces.{below_next, below_all, refuted}
use Rattle.pssm_enabled.proofs.marked.has_every.Goals as goal

pub returns-then-not-is_marked : goal.returns-then-not-is_marked
returns-then-not-is_marked c =
    let d : TransId = record { 0 = 0 } in
    let items = c.outgoing-t-items.result.now in
    let more : c.loop-t.t-index < length items =
    let less = c.loop-t-test.true in let upto = c.loop-t.auto.t-index-end in omega (arith, less, upto) in
    let u = get_or items c.loop-t.t-index d in (
      λ wrong. absurd (cc),
      λ h. absurd (refuted c.is_marked.result c.if-not-is_marked.true c.is_marked.ensures
          (h u ((c.outgoing-t-items.ensures.items u).0 (Contains-get_or items c.loop-t.t-index d more)))),
    )

pub loop-t-preserved : goal.loop-t-preserved
loop-t-preserved c =
    let items = c.outgoing-t-items.result.now in
    let more : c.loop-t.t-index < length items =
    let less = c.loop-t-test.true in let upto = c.loop-t.auto.t-index-end in omega (arith, less, upto) in
    below_next (IsMarkedTransition c.args.on.now) items c.loop-t.t-index _ more (c.is_marked.ensures.0 c.if-not-is_marked.false)
    c.loop-t.invariant

pub returns : goal.returns
returns c =
    let items = c.outgoing-t-items.result.now in
    let all : length items ≡ c.loop-t.t-index =
    let last = c.loop-t-test.false in let upto = c.loop-t.auto.t-index-end in omega (arith, last, upto) in (
      λ holds u leaves. below_all (IsMarkedTransition c.args.on.now) items c.loop-t.t-index all c.loop-t.invariant u
          ((c.outgoing-t-items.ensures.items u).1 leaves),
      λ h. refl,
    )
