-- It is the route of its starts and its other transitions.
use Rattle.std.proofs.Common.{sym, subst}
use Rattle.pssm_model.specs.FiringSets.{IsLateRoute}
use Rattle.pssm_model.proofs.RouteLaws.{same_route}
use Rattle.pssm_enabled.specs.Fitting.{route_with}
use Rattle.pssm_routes.proofs.late.check_late.Goals as goal

pub returns : goal.returns
returns g c =
    let same = same_route (route_with c.as_slice-starts.result.now c.as_slice-rest.result.now) c.args.route.now
    c.as_slice-starts.ensures c.as_slice-rest.ensures in
    λ values tells. (
      λ holds. subst (IsLateRoute c.args.machine.now values c.args.origin) same ((c.is_late_from.ensures values tells).0 holds),
      λ h. (c.is_late_from.ensures values tells).1 (subst (IsLateRoute c.args.machine.now values c.args.origin) (sym same) h),
    )
