-- each turn looks at one route more
use Rattle.std.proofs.Common.{◌<◌, ◌≤◌, length, refl, sym, arith}
use Rattle.std.proofs.lemmas.List.Elements.{All-contains}
use Rattle.pssm_model.specs.Routes.{IsStateRoute, IsEnabled}
use Rattle.pssm_config.specs.Tables.{configuration_of}
use Rattle.pssm_enabled.proofs.Members.{all_of_members}
use Rattle.pssm_enabled.proofs.Scanning.{holds_of_item, holds_of_all, refuted}
use Rattle.pssm_routes.proofs.set.are_enabled.Goals as goal

pub loop-route-preserved : goal.loop-route-preserved
loop-route-preserved g c =
    let more : c.loop-route.route-index < length c.args.routes.now =
    let less = c.loop-route-test.true in let upto = c.loop-route.auto.route-index-end in omega (arith, less, upto) in (
      holds_of_item (IsStateRoute c.args.machine.now) c.args.routes.now c.loop-route.route-index c.route-item.result more c.route-item.is
          (c.check_route.ensures.route c.if-not-check_route.false)
          c.loop-route.invariant.0,
      λ values tells. holds_of_item (IsEnabled c.args.machine.now (configuration_of c.args.config.now) values c.args.event) c.args.routes.now
          c.loop-route.route-index
          c.route-item.result
          more
          c.route-item.is
          ((c.check_route.ensures.enabled values tells).0 c.if-not-check_route.false)
          (c.loop-route.invariant.1 values tells),
    )

pub returns-then-not-check_route-clause-enabled : goal.returns-then-not-check_route-clause-enabled
returns-then-not-check_route-clause-enabled g c values tells =
    let more : c.loop-route.route-index < length c.args.routes.now =
    let less = c.loop-route-test.true in let upto = c.loop-route.auto.route-index-end in omega (arith, less, upto) in
    let Enabled = IsEnabled c.args.machine.now (configuration_of c.args.config.now) values c.args.event in (
      λ f. absurd (cc),
      λ all. absurd (refuted c.check_route.result c.if-not-check_route.true (c.check_route.ensures.enabled values tells)
          (All-contains Enabled c.args.routes.now c.route-item.result all (c.loop-route.route-index, more, sym c.route-item.is))),
    )

pub returns-clause-enabled : goal.returns-clause-enabled
returns-clause-enabled g c values tells =
    let all : length c.args.routes.now ≤ c.loop-route.route-index =
    let last = c.loop-route-test.false in let upto = c.loop-route.auto.route-index-end in omega (arith, last, upto) in
    let Enabled = IsEnabled c.args.machine.now (configuration_of c.args.config.now) values c.args.event in (
      λ t. all_of_members Enabled c.args.routes.now
          (holds_of_all Enabled c.args.routes.now c.loop-route.route-index all (c.loop-route.invariant.1 values tells)),
      λ h. refl,
    )

pub returns-clause-routes : goal.returns-clause-routes
returns-clause-routes g c t =
    let all : length c.args.routes.now ≤ c.loop-route.route-index =
    let last = c.loop-route-test.false in let upto = c.loop-route.auto.route-index-end in omega (arith, last, upto) in
    all_of_members (IsStateRoute c.args.machine.now) c.args.routes.now
    (holds_of_all (IsStateRoute c.args.machine.now) c.args.routes.now c.loop-route.route-index all c.loop-route.invariant.0)
