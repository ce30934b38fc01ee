-- where it reacts it does so alone, and where it does not nothing does
use Rattle.pssm_config.specs.Tables.{configuration_of}
use Rattle.pssm_enabled.proofs.ListPlaces.{refuted}
use Rattle.pssm_routes.proofs.Completions.{completes_it, completes_none}
use Rattle.pssm_routes.proofs.completing.reacting_to_completion.Goals as goal

pub returns-then-not-branch-clause-reacting : goal.returns-then-not-branch-clause-reacting
returns-then-not-branch-clause-reacting g c values tells =
    completes_none c.args.machine.now (configuration_of c.args.config.now) values c.args.state
    (λ h. refuted c.in_ok-reacts_at_sight.field-0 c.if-not-branch.true (c.in_ok-reacts_at_sight.ensures values tells) h)

pub returns-then-start_alone-clause-reacting : goal.returns-then-start_alone-clause-reacting
returns-then-start_alone-clause-reacting g c values tells =
    completes_it (configuration_of c.args.config.now) values c.args.state (c.start_alone.ensures c.if-start_alone.true)
    ((c.in_ok-reacts_at_sight.ensures values tells).0 c.if-not-branch.false)
