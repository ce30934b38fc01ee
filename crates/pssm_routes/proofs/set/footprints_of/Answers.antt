-- each turn adds one footprint
use Rattle.std.proofs.Common.{◌<◌, ◌+◌, length, take, All, sym, subst, arith}
use Rattle.pssm_model.specs.Routes.{IsStateRoute}
use Rattle.pssm_routes.specs.inner.Footprints.{AreFootprints, IsFootprintIn}
use Rattle.std.proofs.lemmas.List.Elements.{All-push}
use Rattle.pssm_routes.proofs.FootprintLists.{footprints_next}
use Rattle.pssm_routes.proofs.set.footprints_of.Goals as goal

pub footprint_of-requires-clause-route : goal.footprint_of-requires-clause-route
footprint_of-requires-clause-route c =
    let more : c.loop-route.route-index < length c.args.routes.now =
    let less = c.loop-route-test.true in let upto = c.loop-route.auto.route-index-end in omega (arith, less, upto) in
    subst (IsStateRoute c.args.machine.now) (sym c.route-item.is) (c.requires.routes c.loop-route.route-index c.route-item.result more)

pub loop-route-preserved : goal.loop-route-preserved
loop-route-preserved c =
    let more : c.loop-route.route-index < length c.args.routes.now =
    let less = c.loop-route-test.true in let upto = c.loop-route.auto.route-index-end in omega (arith, less, upto) in
    let m = c.args.machine.now in
    let was = c.loop-route.footprints.items in
    subst (λ gs. AreFootprints m (take (c.loop-route.route-index + 1) c.args.routes.now) gs × All (IsFootprintIn m) gs) (sym c.in_ok-push.ensures.items) (
      footprints_next m c.args.routes.now was c.loop-route.route-index c.route-item.result c.footprint_of.result more c.route-item.is c.loop-route.invariant.0
          c.footprint_of.ensures.footprint,
      All-push (IsFootprintIn m) was c.footprint_of.result c.loop-route.invariant.1 c.footprint_of.ensures.there,
    )
