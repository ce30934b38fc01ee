-- each turn looks at one transition more
use Rattle.std.proofs.Common.{◌≡◌, ◌<◌, length, get_or, arith}
use Rattle.std.proofs.lemmas.List.Elements.{Contains-get_or}
use Rattle.pssm_model.specs.declared.ids.TransId.{TransId}
use Rattle.pssm_enabled.specs.inner.Fitting.{IsMarkedTransition}
use Rattle.pssm_enabled.proofs.ListPlaces.{below_next, below_all, refuted}
use Rattle.pssm_enabled.proofs.Fitting.{one_is}
use Rattle.pssm_enabled.proofs.marked.has_one.Goals as goal

pub returns-then-is_marked : goal.returns-then-is_marked
returns-then-is_marked c =
    let d : TransId = record { 0 = 0 } in
    let items = c.outgoing-t-items.result.now in
    let more : c.loop-t.t-index < length items =
    let less = c.loop-t-test.true in let upto = c.loop-t.auto.t-index-end in omega (arith, less, upto) in
    let t = get_or items c.loop-t.t-index d in
    let one = one_is c.args.machine.now c.args.on.now c.args.v t (c.is_marked.ensures.0 c.if-is_marked.true)
    ((c.outgoing-t-items.ensures.items t).0 (Contains-get_or items c.loop-t.t-index d more)) in
    (λ h. one.0 (c.is_only.ensures.0 h), λ h. c.is_only.ensures.1 (one.1 h))

pub loop-t-preserved : goal.loop-t-preserved
loop-t-preserved c =
    let items = c.outgoing-t-items.result.now in
    let more : c.loop-t.t-index < length items =
    let less = c.loop-t-test.true in let upto = c.loop-t.auto.t-index-end in omega (arith, less, upto) in
    below_next (λ (t : TransId). IsMarkedTransition c.args.on.now t → ⊥) items c.loop-t.t-index _ more
    (refuted c.is_marked.result c.if-is_marked.false c.is_marked.ensures) c.loop-t.invariant

pub returns : goal.returns
returns c =
    let items = c.outgoing-t-items.result.now in
    let all : length items ≡ c.loop-t.t-index =
    let last = c.loop-t-test.false in let upto = c.loop-t.auto.t-index-end in omega (arith, last, upto) in (
      λ wrong. absurd (cc),
      λ h. absurd (below_all (λ (t : TransId). IsMarkedTransition c.args.on.now t → ⊥) items c.loop-t.t-index all c.loop-t.invariant h.0
          ((c.outgoing-t-items.ensures.items h.0).1 h.2) h.1),
    )
