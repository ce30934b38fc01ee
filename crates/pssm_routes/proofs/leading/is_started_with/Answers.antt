-- what is started leaves an active State
use Rattle.pssm_config.specs.Tables.{configuration_of}
use Rattle.pssm_enabled.proofs.ListPlaces.{refuted}
use Rattle.pssm_routes.proofs.StartedWith.{with_state}
use Rattle.pssm_routes.proofs.leading.is_started_with.Goals as goal

pub returns-then-not-is_active_state : goal.returns-then-not-is_active_state
returns-then-not-is_active_state c = (
  λ wrong. absurd (cc),
  λ h. absurd (refuted c.is_active_state.result c.if-not-is_active_state.true c.is_active_state.ensures
      (with_state c.args.machine.now (configuration_of c.args.config.now) c.args.event c.args.t c.source-source.result c.source-source.ensures.leaves h)),
)

pub is_caused_with-requires-clause-kind : goal.is_caused_with-requires-clause-kind
is_caused_with-requires-clause-kind c = (c.is_active_state.ensures.0 c.if-not-is_active_state.false).0

pub is_caused_with-requires-clause-active : goal.is_caused_with-requires-clause-active
is_caused_with-requires-clause-active c = (c.is_active_state.ensures.0 c.if-not-is_active_state.false).1
