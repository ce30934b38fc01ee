-- started transitions leave States
use Rattle.pssm_config.specs.Tables.{configuration_of}
use Rattle.pssm_enabled.proofs.ListPlaces.{refuted}
use Rattle.pssm_enabled.proofs.Fitting.{starts_order}
use Rattle.pssm_enabled.proofs.Started.{started_outside}
use Rattle.pssm_enabled.proofs.route.is_started_route.Goals as goal

pub returns-then-not-are_ascending : goal.returns-then-not-are_ascending
returns-then-not-are_ascending c = (
  λ wrong. absurd (cc),
  λ h. absurd (refuted c.are_ascending.result c.if-not-are_ascending.true c.are_ascending.ensures
      (starts_order c.args.machine.now c.args.starts.now c.args.rest.now h.0)),
)

pub is_route_over-requires-clause-outside : goal.is_route_over-requires-clause-outside
is_route_over-requires-clause-outside c =
    started_outside c.args.machine.now (configuration_of c.args.config.now) c.args.event c.args.starts.now
    (c.are_started.ensures.0 c.if-are_started.true)

pub returns-then-are_started : goal.returns-then-are_started
returns-then-are_started c = (
  λ h. (c.is_route_over.ensures.0 h, c.are_started.ensures.0 c.if-are_started.true),
  λ h. c.is_route_over.ensures.1 h.0,
)

pub returns-else-are_started : goal.returns-else-are_started
returns-else-are_started c = (
  λ holds. absurd (let fails = c.if-are_started.false in cc (fails, holds)),
  λ h. c.are_started.ensures.1 h.1,
)
