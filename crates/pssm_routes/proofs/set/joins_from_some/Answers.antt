-- each turn looks at one State more
use Rattle.std.proofs.Common.{◌<◌, ◌≤◌, length, get_or, refl, arith}
use Rattle.std.proofs.lemmas.List.Elements.{Contains-get_or}
use Rattle.pssm_model.specs.declared.ids.TransId.{TransId}
use Rattle.pssm_model.specs.declared.ids.VertexId.{VertexId}
use Rattle.pssm_model.specs.Legs.{Leaves}
use Rattle.pssm_config.specs.Tables.{configuration_of}
use Rattle.pssm_routes.specs.inner.Sets.{HasJoiner}
use Rattle.pssm_enabled.proofs.Scanning.{holds_of_more, holds_of_all, refuted}
use Rattle.pssm_routes.proofs.set.joins_from_some.Goals as goal

pub joins_from-requires-clause-among : goal.joins_from-requires-clause-among
joins_from-requires-clause-among g c =
    let more : c.loop-s.s-index < length c.args.states.now =
    let less = c.loop-s-test.true in let upto = c.loop-s.auto.s-index-end in omega (arith, less, upto) in
    Contains-get_or c.args.states.now c.loop-s.s-index _ more

pub returns-then-joins_from : goal.returns-then-joins_from
returns-then-joins_from g c values tells =
    let d : VertexId = record { 0 = 0 } in
    let states = c.args.states.now in
    let more : c.loop-s.s-index < length states =
    let less = c.loop-s-test.true in let upto = c.loop-s.auto.s-index-end in omega (arith, less, upto) in
    let found = (c.joins_from.ensures values tells).0 c.if-joins_from.true in
    (λ is. (get_or states c.loop-s.s-index d, found.0, Contains-get_or states c.loop-s.s-index d more, found.1, found.2), λ h. refl)

pub loop-s-preserved : goal.loop-s-preserved
loop-s-preserved g c values tells =
    let now = configuration_of c.args.config.now in
    let states = c.args.states.now in
    let more : c.loop-s.s-index < length states =
    let less = c.loop-s-test.true in let upto = c.loop-s.auto.s-index-end in omega (arith, less, upto) in
    holds_of_more
    (λ (s : VertexId). (t : TransId) → Leaves c.args.machine.now t s
    → HasJoiner c.args.machine.now now values c.args.event states c.args.footprints.now t → ⊥) states c.loop-s.s-index (record { 0 = 0 }) more
    (λ t leaves joiner. refuted c.joins_from.result c.if-joins_from.false (c.joins_from.ensures values tells) (t, leaves, joiner))
    (c.loop-s.invariant values tells)

pub returns : goal.returns
returns g c values tells =
    let now = configuration_of c.args.config.now in
    let states = c.args.states.now in
    let all : length states ≤ c.loop-s.s-index =
    let last = c.loop-s-test.false in let upto = c.loop-s.auto.s-index-end in omega (arith, last, upto) in (
      λ f. absurd (cc),
      λ h. absurd (holds_of_all
          (λ (s : VertexId). (t : TransId) → Leaves c.args.machine.now t s
          → HasJoiner c.args.machine.now now values c.args.event states c.args.footprints.now t → ⊥)
          states
          c.loop-s.s-index
          all
          (c.loop-s.invariant values tells)
          h.0
          h.2
          h.1
          h.3
          h.4),
    )
