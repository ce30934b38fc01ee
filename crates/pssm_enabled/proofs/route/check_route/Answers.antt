-- It is the route of its starts and its other transitions.
use Rattle.std.proofs.Common.{sym, subst}
use Rattle.pssm_config.specs.Tables.{configuration_of}
use Rattle.pssm_model.specs.Routes.{IsEnabled, IsStateRoute}
use Rattle.pssm_model.proofs.RouteLaws.{same_route}
use Rattle.pssm_enabled.specs.Fitting.{route_with}
use Rattle.pssm_enabled.proofs.route.check_route.Goals as goal

pub returns : goal.returns
returns g c =
    let m = c.args.machine.now in
    let same = same_route (route_with c.as_slice-starts.result.now c.as_slice-rest.result.now) c.args.route.now
    c.as_slice-starts.ensures c.as_slice-rest.ensures in
    record {
      enabled = λ values tells. (
        λ holds. subst (IsEnabled m (configuration_of c.args.config.now) values c.args.event) same ((c.is_enabled_over.ensures.enabled values tells).0 holds),
        λ h. (c.is_enabled_over.ensures.enabled values tells).1
            (subst (IsEnabled m (configuration_of c.args.config.now) values c.args.event) (sym same) h),
      );
      route = λ holds. subst (IsStateRoute m) same (c.is_enabled_over.ensures.route holds);
    }
