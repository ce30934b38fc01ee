-- where the transition is started a look tells
use Rattle.std.proofs.Common.{sym}
use Rattle.std.proofs.lemmas.Bool.{true≢false}
use Rattle.pssm_config.specs.Tables.{configuration_of}
use Rattle.pssm_enabled.proofs.ListPlaces.{refuted}
use Rattle.pssm_routes.proofs.Sights.{if_some_map, looked_starts}
use Rattle.pssm_routes.proofs.reacting.leads_at_sight.Goals as goal

pub returns-then-not-is_started_with : goal.returns-then-not-is_started_with
returns-then-not-is_started_with g c values tells = (
  λ e. absurd (true≢false (sym e)),
  λ h. absurd (refuted c.is_started_with.result c.if-not-is_started_with.true c.is_started_with.ensures h.0),
)

pub returns : goal.returns
returns g c values tells =
    if_some_map c.look.result
    (λ is told. looked_starts c.requires.rules (configuration_of c.args.config.now) values c.args.event c.args.t c.onward.result
    (c.is_started_with.ensures.0 c.if-not-is_started_with.false) c.onward.ensures.on is told)
    (c.look.ensures values tells)
