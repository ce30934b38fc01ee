-- A way that is found is a route, and where none is found none leads out.
use Rattle.std.proofs.Common.{◌∙◌, None, sym, subst}
use Rattle.pssm_enabled.specs.Ways.{LeadsOut}
use Rattle.pssm_enabled.specs.Steps.{steps_of}
use Rattle.pssm_config.specs.Tables.{configuration_of}
use Rattle.pssm_routes.proofs.Onward.{one_onward}
use Rattle.pssm_routes.proofs.Reaction.{found_reacts}
use Rattle.pssm_routes.proofs.Fruitless.{holds_some, holds_none}
use Rattle.pssm_routes.proofs.reacting.leads.Goals as goal

pub find_way-requires-clause-room : goal.find_way-requires-clause-room
find_way-requires-clause-room g c ends =
    c.requires.room c.args.t c.onward.result (c.is_started_with.ensures.0 c.if-not-is_started_with.false) c.onward.ensures.on ends

pub returns-clause-reacts : goal.returns-clause-reacts
returns-clause-reacts g c values tells is_some s leaves =
    let found = holds_some _ c.find_way.result (sym c.is_some.ensures ∙ is_some) (c.find_way.ensures.found values tells) in
    found_reacts c.requires.rules c.regions-shaped.ensures.shaped (configuration_of c.args.config.now) values c.args.event s c.args.t c.onward.result
    (steps_of c.find_way.new.search) found.0 leaves (c.is_started_with.ensures.0 c.if-not-is_started_with.false) c.onward.ensures.on found.1

pub returns-clause-none : goal.returns-clause-none
returns-clause-none g c values tells dead is_none u started on leads =
    let same = one_onward c.requires.rules c.args.t u c.onward.result on c.onward.ensures.on in
    holds_none _ c.find_way.result (sym c.is_some.ensures ∙ is_none) (c.find_way.ensures.none values tells dead)
    (subst (LeadsOut c.args.machine.now values None) same leads)

pub returns-clause-dead : goal.returns-clause-dead
returns-clause-dead g c values tells dead is_none =
    holds_none _ c.find_way.result (sym c.is_some.ensures ∙ is_none) (c.find_way.ensures.dead values tells dead)
