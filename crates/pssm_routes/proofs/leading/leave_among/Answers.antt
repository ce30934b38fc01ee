-- each turn looks at one transition more
use Rattle.std.proofs.Common.{◌≡◌, ◌<◌, length, get_or, Contains, refl, arith}
use Rattle.std.proofs.lemmas.List.Elements.{Contains-get_or}
use Rattle.pssm_model.specs.declared.ids.TransId.{TransId}
use Rattle.pssm_model.specs.declared.ids.VertexId.{VertexId}
use Rattle.pssm_model.specs.Legs.{Leaves}
use Rattle.pssm_enabled.proofs.ListPlaces.{below_next, below_all, refuted}
use Rattle.pssm_routes.proofs.leading.leave_among.Goals as goal

pub returns-then-not-leaves_among : goal.returns-then-not-leaves_among
returns-then-not-leaves_among c =
    let d : TransId = record { 0 = 0 } in
    let ts = c.args.transitions.now in
    let more : c.loop-t.t-index < length ts =
    let less = c.loop-t-test.true in let upto = c.loop-t.auto.t-index-end in omega (arith, less, upto) in (
      λ wrong. absurd (cc),
      λ h. absurd (refuted c.leaves_among.result c.if-not-leaves_among.true c.leaves_among.ensures
          (λ s leaves. h (get_or ts c.loop-t.t-index d) s (Contains-get_or ts c.loop-t.t-index d more) leaves)),
    )

pub loop-t-preserved : goal.loop-t-preserved
loop-t-preserved c =
    let ts = c.args.transitions.now in
    let more : c.loop-t.t-index < length ts =
    let less = c.loop-t-test.true in let upto = c.loop-t.auto.t-index-end in omega (arith, less, upto) in
    below_next (λ (t : TransId). (s : VertexId) → Leaves c.args.machine.now t s → Contains c.args.states.now s) ts c.loop-t.t-index _ more
    (c.leaves_among.ensures.0 c.if-not-leaves_among.false) c.loop-t.invariant

pub returns : goal.returns
returns c =
    let ts = c.args.transitions.now in
    let all : length ts ≡ c.loop-t.t-index =
    let last = c.loop-t-test.false in let upto = c.loop-t.auto.t-index-end in omega (arith, last, upto) in (
      λ holds t s inside leaves. below_all (λ (u : TransId). (x : VertexId) → Leaves c.args.machine.now u x → Contains c.args.states.now x)
          ts c.loop-t.t-index all c.loop-t.invariant t inside s leaves,
      λ h. refl,
    )
