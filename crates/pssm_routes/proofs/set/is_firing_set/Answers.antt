-- what is told of the routes is told of the firing
use Rattle.std.proofs.Common.{◌↔◌, IsTrue, IfOk, subst}
use Rattle.pssm_model.specs.FiringSets.{IsFiring}
use Rattle.pssm_config.specs.Tables.{configuration_of}
use Rattle.pssm_routes.proofs.set.is_firing_set.Goals as goal

pub told_by_lone-requires-clause-routes : goal.told_by_lone-requires-clause-routes
told_by_lone-requires-clause-routes g c = c.are_enabled.ensures.routes c.if-not-are_enabled.false

pub is_set_of_enabled-requires-clause-routes : goal.is_set_of_enabled-requires-clause-routes
is_set_of_enabled-requires-clause-routes g c = c.are_enabled.ensures.routes c.if-not-are_enabled.false

pub returns-in-Some : goal.returns-in-Some
returns-in-Some g c values tells =
    let now = configuration_of c.args.config.now in
    subst (λ ps. IsTrue c.in-Some.fires ↔ IsFiring c.args.machine.now now values c.args.event ps) c.as_slice-routes.ensures
    (c.in-Some.ensures values tells ((c.are_enabled.ensures.enabled values tells).0 c.if-not-are_enabled.false))

pub returns-in-None : goal.returns-in-None
returns-in-None g c values tells =
    let now = configuration_of c.args.config.now in
    subst (λ ps. IfOk c.is_set_of_enabled.result (λ is. IsTrue is ↔ IsFiring c.args.machine.now now values c.args.event ps)) c.as_slice-routes.ensures
    (c.is_set_of_enabled.ensures values tells ((c.are_enabled.ensures.enabled values tells).0 c.if-not-are_enabled.false))
