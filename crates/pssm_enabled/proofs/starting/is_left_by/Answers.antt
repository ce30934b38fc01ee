-- each turn looks at one transition more
use Rattle.std.proofs.Common.{◌≡◌, ◌<◌, length, get_or, refl, arith}
use Rattle.std.proofs.lemmas.List.Elements.{Contains-get_or}
use Rattle.pssm_model.specs.declared.ids.TransId.{TransId}
use Rattle.pssm_model.specs.Legs.{Leaves}
use Rattle.pssm_enabled.proofs.ListPlaces.{below_next, below_all, refuted}
use Rattle.pssm_enabled.proofs.starting.is_left_by.Goals as goal

pub returns-then-leaves : goal.returns-then-leaves
returns-then-leaves c =
    let d : TransId = record { 0 = 0 } in
    let more : c.loop-t.t-index < length c.args.starts.now =
    let less = c.loop-t-test.true in let upto = c.loop-t.auto.t-index-end in omega (arith, less, upto) in (
      λ is. (get_or c.args.starts.now c.loop-t.t-index d, Contains-get_or c.args.starts.now c.loop-t.t-index d more, c.leaves.ensures.0 c.if-leaves.true),
      λ h. refl,
    )

pub loop-t-preserved : goal.loop-t-preserved
loop-t-preserved c =
    let more : c.loop-t.t-index < length c.args.starts.now =
    let less = c.loop-t-test.true in let upto = c.loop-t.auto.t-index-end in omega (arith, less, upto) in
    below_next (λ (t : TransId). Leaves c.args.machine.now t c.args.state → ⊥) c.args.starts.now c.loop-t.t-index _ more
    (refuted c.leaves.result c.if-leaves.false c.leaves.ensures) c.loop-t.invariant

pub returns : goal.returns
returns c =
    let all : length c.args.starts.now ≡ c.loop-t.t-index =
    let last = c.loop-t-test.false in let upto = c.loop-t.auto.t-index-end in omega (arith, last, upto) in (
      λ wrong. absurd (cc),
      λ h. absurd (below_all (λ (t : TransId). Leaves c.args.machine.now t c.args.state → ⊥) c.args.starts.now c.loop-t.t-index all c.loop-t.invariant
          h.0 h.1 h.2),
    )
