-- It is a started route whose transitions are true.
use Rattle.pssm_config.specs.Tables.{configuration_of}
use Rattle.pssm_enabled.proofs.Fitting.{starts_order, rest_order}
use Rattle.pssm_enabled.proofs.Started.{started_state_route, enabled_is}
use Rattle.pssm_enabled.proofs.route.is_enabled_over.Goals as goal

pub are_all_true-requires-clause-starts : goal.are_all_true-requires-clause-starts
are_all_true-requires-clause-starts g c =
    (starts_order c.args.machine.now c.args.starts.now c.args.rest.now (c.is_started_route.ensures.0 c.if-is_started_route.true).0).1

pub are_all_true-requires-clause-rest : goal.are_all_true-requires-clause-rest
are_all_true-requires-clause-rest g c =
    (rest_order c.args.machine.now c.args.starts.now c.args.rest.now (c.is_started_route.ensures.0 c.if-is_started_route.true).0).1

pub returns-then-is_started_route : goal.returns-then-is_started_route
returns-then-is_started_route g c =
    let m = c.args.machine.now in
    let now = configuration_of c.args.config.now in
    let started = c.is_started_route.ensures.0 c.if-is_started_route.true in
    record {
      enabled = λ values tells. (
          let is = enabled_is m now values c.args.event c.args.starts.now c.args.rest.now in (
            λ holds. is.1 (started, (c.are_all_true.ensures values tells).0 holds),
            λ h. (c.are_all_true.ensures values tells).1 (is.0 h).1,
          )
          );
      route = λ holds. started_state_route m now c.args.event c.args.starts.now c.args.rest.now started;
    }

pub returns-else-is_started_route : goal.returns-else-is_started_route
returns-else-is_started_route g c = record {
  enabled = λ values tells. (
    λ holds. absurd (let fails = c.if-is_started_route.false in cc (fails, holds)),
    λ h. c.is_started_route.ensures.1
        ((enabled_is c.args.machine.now (configuration_of c.args.config.now) values c.args.event c.args.starts.now c.args.rest.now).0 h).0,
  );
  route = λ holds. absurd (let fails = c.if-is_started_route.false in cc (fails, holds));
}
