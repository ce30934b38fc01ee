-- each turn looks at one transition more
use Rattle.std.proofs.Common.{◌≡◌, ◌<◌, length, arith}
use Rattle.pssm_model.specs.declared.ids.VertexId.{VertexId}
use Rattle.pssm_model.specs.declared.ids.TransId.{TransId}
use Rattle.pssm_model.specs.declared.elements.VertexKind.TheVariants as kinds
use Rattle.pssm_model.specs.Forest.{HasKind}
use Rattle.pssm_model.specs.Legs.{Enters}
use Rattle.pssm_enabled.proofs.ListPlaces.{below_next, below_all}
use Rattle.pssm_routes.proofs.completing.start_alone.Goals as goal

pub returns-then-not-starts_alone : goal.returns-then-not-starts_alone
returns-then-not-starts_alone c wrong = absurd (cc)

pub loop-t-preserved : goal.loop-t-preserved
loop-t-preserved c =
    let m = c.args.machine.now in
    let items = c.outgoing-t-items.result.now in
    let more : c.loop-t.t-index < length items =
    let less = c.loop-t-test.true in let upto = c.loop-t.auto.t-index-end in omega (arith, less, upto) in
    below_next (λ (t : TransId). (v : VertexId) → Enters m t v → HasKind m v kinds.Join → ⊥) items c.loop-t.t-index _ more
    (c.starts_alone.ensures.0 c.if-not-starts_alone.false) c.loop-t.invariant

pub returns : goal.returns
returns c =
    let m = c.args.machine.now in
    let items = c.outgoing-t-items.result.now in
    let all : length items ≡ c.loop-t.t-index =
    let last = c.loop-t-test.false in let upto = c.loop-t.auto.t-index-end in omega (arith, last, upto) in
    λ holds u leaves. below_all (λ (t : TransId). (v : VertexId) → Enters m t v → HasKind m v kinds.Join → ⊥) items c.loop-t.t-index all
    c.loop-t.invariant u ((c.outgoing-t-items.ensures.items u).1 leaves)
