-- each turn looks at one transition more
use Rattle.std.proofs.Common.{◌<◌, ◌≤◌, length, get_or, Contains, refl, arith, subst}
use Rattle.std.proofs.lemmas.List.Elements.{Contains-get_or}
use Rattle.pssm_model.specs.declared.ids.TransId.{TransId}
use Rattle.pssm_model.proofs.ElementLaws.{leaves_one}
use Rattle.pssm_config.specs.Tables.{configuration_of}
use Rattle.pssm_routes.specs.inner.Sets.{HasJoiner}
use Rattle.pssm_enabled.proofs.Scanning.{holds_of_more, holds_of_all, refuted}
use Rattle.pssm_routes.proofs.set.joins_from.Goals as goal

pub joins_by-requires-clause-source : goal.joins_by-requires-clause-source
joins_by-requires-clause-source g c s leaves =
    let d : TransId = record { 0 = 0 } in
    let items = c.outgoing-t-items.result.now in
    let more : c.loop-t.t-index < length items =
    let less = c.loop-t-test.true in let upto = c.loop-t.auto.t-index-end in omega (arith, less, upto) in
    let t = get_or items c.loop-t.t-index d in
    let here = (c.outgoing-t-items.ensures.items t).0 (Contains-get_or items c.loop-t.t-index d more) in
    subst (Contains c.args.states.now) (leaves_one c.args.machine.now t c.args.source s here leaves) c.requires.among

pub returns-then-joins_by : goal.returns-then-joins_by
returns-then-joins_by g c values tells =
    let d : TransId = record { 0 = 0 } in
    let items = c.outgoing-t-items.result.now in
    let more : c.loop-t.t-index < length items =
    let less = c.loop-t-test.true in let upto = c.loop-t.auto.t-index-end in omega (arith, less, upto) in
    let t = get_or items c.loop-t.t-index d in
    let found = (c.joins_by.ensures values tells).0 c.if-joins_by.true in
    let leaves = (c.outgoing-t-items.ensures.items t).0 (Contains-get_or items c.loop-t.t-index d more) in
    (λ is. (t, leaves, found), λ h. refl)

pub loop-t-preserved : goal.loop-t-preserved
loop-t-preserved g c values tells =
    let items = c.outgoing-t-items.result.now in
    let now = configuration_of c.args.config.now in
    let more : c.loop-t.t-index < length items =
    let less = c.loop-t-test.true in let upto = c.loop-t.auto.t-index-end in omega (arith, less, upto) in
    holds_of_more
    (λ (t : TransId). HasJoiner c.args.machine.now now values c.args.event c.args.states.now c.args.footprints.now t → ⊥)
    items c.loop-t.t-index (record { 0 = 0 }) more
    (refuted c.joins_by.result c.if-joins_by.false (c.joins_by.ensures values tells))
    (c.loop-t.invariant values tells)

pub returns : goal.returns
returns g c values tells =
    let items = c.outgoing-t-items.result.now in
    let now = configuration_of c.args.config.now in
    let all : length items ≤ c.loop-t.t-index =
    let last = c.loop-t-test.false in let upto = c.loop-t.auto.t-index-end in omega (arith, last, upto) in (
      λ f. absurd (cc),
      λ h. absurd (holds_of_all
          (λ (t : TransId). HasJoiner c.args.machine.now now values c.args.event c.args.states.now c.args.footprints.now t → ⊥)
          items
          c.loop-t.t-index
          all
          (c.loop-t.invariant values tells)
          h.0
          ((c.outgoing-t-items.ensures.items h.0).1 h.1)
          h.2),
    )
