-- each turn looks at one transition more
use Rattle.std.proofs.Common.{◌<◌, ◌≤◌, length, get_or, Contains, IfSome, IfNone, subst, arith}
use Rattle.std.proofs.lemmas.List.Elements.{Contains-get_or}
use Rattle.pssm_model.specs.declared.ids.TransId.{TransId}
use Rattle.pssm_model.proofs.ElementLaws.{leaves_one}
use Rattle.pssm_config.specs.Tables.{configuration_of}
use Rattle.pssm_routes.specs.inner.Sets.{HasJoiner}
use Rattle.pssm_routes.specs.inner.Picks.{IsFreeRoute}
use Rattle.pssm_enabled.proofs.Scanning.{holds_of_more, holds_of_all}
use Rattle.pssm_routes.proofs.pick.free_route_from.Goals as goal

pub free_route-requires-clause-source : goal.free_route-requires-clause-source
free_route-requires-clause-source g c s leaves =
    let items = c.outgoing-t-items.result.now in
    let d : TransId = record { 0 = 0 } in
    let t = get_or items c.loop-t.t-index d in
    let more : c.loop-t.t-index < length items =
    let less = c.loop-t-test.true in let upto = c.loop-t.auto.t-index-end in omega (arith, less, upto) in
    let here = (c.outgoing-t-items.ensures.items t).0 (Contains-get_or items c.loop-t.t-index d more) in
    subst (Contains c.args.states.now) (leaves_one c.args.machine.now t c.args.source s here leaves) c.requires.among

pub returns-in-Some-clause-some : goal.returns-in-Some-clause-some
returns-in-Some-clause-some g c values tells =
    let m = c.args.machine.now in
    let now = configuration_of c.args.config.now in
    let event = c.args.event in
    let items = c.outgoing-t-items.result.now in
    let d : TransId = record { 0 = 0 } in
    let t = get_or items c.loop-t.t-index d in
    let found = subst
    (λ o. IfSome o (IsFreeRoute m now values event c.args.states.now c.args.footprints.now t))
    c.in-Some.is
    (c.in_ok-route.ensures.some values tells) in
    let more : c.loop-t.t-index < length items =
    let less = c.loop-t-test.true in let upto = c.loop-t.auto.t-index-end in omega (arith, less, upto) in
    (t, (c.outgoing-t-items.ensures.items t).0 (Contains-get_or items c.loop-t.t-index d more), found)

pub loop-t-preserved : goal.loop-t-preserved
loop-t-preserved g c values tells =
    let m = c.args.machine.now in
    let now = configuration_of c.args.config.now in
    let event = c.args.event in
    let items = c.outgoing-t-items.result.now in
    let d : TransId = record { 0 = 0 } in
    let more : c.loop-t.t-index < length items =
    let less = c.loop-t-test.true in let upto = c.loop-t.auto.t-index-end in omega (arith, less, upto) in
    let none = subst
    (λ o. IfNone o (HasJoiner m now values event c.args.states.now c.args.footprints.now (get_or items c.loop-t.t-index d) → ⊥))
    c.in_default.is
    (c.in_ok-route.ensures.none values tells) in
    holds_of_more
    (λ (t : TransId). HasJoiner m now values event c.args.states.now c.args.footprints.now t → ⊥) items c.loop-t.t-index d more
    none (c.loop-t.invariant values tells)

pub returns-clause-none : goal.returns-clause-none
returns-clause-none g c values tells t leaves =
    let m = c.args.machine.now in
    let now = configuration_of c.args.config.now in
    let items = c.outgoing-t-items.result.now in
    let all : length items ≤ c.loop-t.t-index =
    let last = c.loop-t-test.false in let upto = c.loop-t.auto.t-index-end in omega (arith, last, upto) in
    holds_of_all
    (λ (u : TransId). HasJoiner m now values c.args.event c.args.states.now c.args.footprints.now u → ⊥)
    items c.loop-t.t-index all (c.loop-t.invariant values tells) t ((c.outgoing-t-items.ensures.items t).1 leaves)
