-- in the room for the start there is a free route exactly where a way leads out
use Rattle.std.proofs.Common.{sym}
use Rattle.std.proofs.lemmas.Bool.{true≢false}
use Rattle.pssm_routes.proofs.JoiningSteps.{none_joins_shut}
use Rattle.pssm_routes.proofs.WaysOut.{looked_free}
use Rattle.pssm_routes.proofs.joining.has_joiner.Goals as goal

pub returns-in-Shut : goal.returns-in-Shut
returns-in-Shut g c values tells = (
  λ e. absurd (true≢false (sym e)),
  λ free. absurd (none_joins_shut c.requires.rules c.regions-shaped.ensures.shaped values _ _ c.in-Shut.ensures.room free),
)

pub returns-in-Some : goal.returns-in-Some
returns-in-Some g c values tells =
    looked_free c.requires.rules c.regions-shaped.ensures.shaped values _ _ c.in-Open.within c.in-Open.ensures.room c.onward.result c.onward.ensures.on
    c.requires.there c.requires.source c.in-Some.leads (c.in-Some.ensures values tells)
