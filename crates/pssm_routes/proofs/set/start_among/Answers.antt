-- each turn looks at one route more
use Rattle.std.proofs.Common.{◌<◌, ◌≤◌, length, Contains, refl, sym, subst, arith}
use Rattle.pssm_model.specs.declared.ids.VertexId.{VertexId}
use Rattle.pssm_model.specs.declared.steps.Route.{Route}
use Rattle.pssm_model.specs.Routes.{IsSource, IsStateRoute}
use Rattle.pssm_enabled.proofs.Scanning.{holds_of_item, holds_of_all, refuted}
use Rattle.pssm_routes.proofs.set.start_among.Goals as goal

pub starts_among-requires : goal.starts_among-requires
starts_among-requires c =
    let more : c.loop-route.route-index < length c.args.routes.now =
    let less = c.loop-route-test.true in let upto = c.loop-route.auto.route-index-end in omega (arith, less, upto) in
    record { route = subst (IsStateRoute c.args.machine.now) (sym c.route-item.is) (c.requires.routes c.loop-route.route-index c.route-item.result more) }

pub returns-then-not-starts_among : goal.returns-then-not-starts_among
returns-then-not-starts_among c =
    let more : c.loop-route.route-index < length c.args.routes.now =
    let less = c.loop-route-test.true in let upto = c.loop-route.auto.route-index-end in omega (arith, less, upto) in (
      λ f. absurd (cc),
      λ all. absurd (refuted c.starts_among.result c.if-not-starts_among.true c.starts_among.ensures
          (λ s source. all c.route-item.result s (c.loop-route.route-index, more, sym c.route-item.is) source)),
    )

pub loop-route-preserved : goal.loop-route-preserved
loop-route-preserved c =
    let more : c.loop-route.route-index < length c.args.routes.now =
    let less = c.loop-route-test.true in let upto = c.loop-route.auto.route-index-end in omega (arith, less, upto) in
    holds_of_item (λ (p : Route). (s : VertexId) → IsSource c.args.machine.now p s → Contains c.args.states.now s) c.args.routes.now
    c.loop-route.route-index c.route-item.result more c.route-item.is (c.starts_among.ensures.0 c.if-not-starts_among.false) c.loop-route.invariant

pub returns : goal.returns
returns c =
    let all : length c.args.routes.now ≤ c.loop-route.route-index =
    let last = c.loop-route-test.false in let upto = c.loop-route.auto.route-index-end in omega (arith, last, upto) in (
      λ t p s there source. holds_of_all (λ (q : Route). (x : VertexId) → IsSource c.args.machine.now q x → Contains c.args.states.now x)
          c.args.routes.now c.loop-route.route-index all c.loop-route.invariant p there s source,
      λ h. refl,
    )
