-- the route that is followed
use Rattle.std.proofs.Common.{IfSome, subst}
use Rattle.pssm_routes.specs.inner.Rooms.{IsJoiningRoute}
use Rattle.pssm_routes.proofs.pick.joining_route.Goals as goal

pub returns-in-Some-clause-some : goal.returns-in-Some-clause-some
returns-in-Some-clause-some g c = λ values tells.
    subst (λ found. IfSome found (IsJoiningRoute c.args.machine.now values c.args.footprints.now c.args.t)) c.in-Some.is
    (c.in_ok-route.ensures.some values tells)
