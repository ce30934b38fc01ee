-- where something was found, all that was seen is forgotten
use Rattle.std.proofs.Common.{None}
use Rattle.pssm_routes.proofs.reacting.reacts_afresh.Goals as goal

pub returns-then-reacts-clause-dead : goal.returns-then-reacts-clause-dead
returns-then-reacts-clause-dead g c values tells dead = c.forget.ensures.nothing c.args.machine.now values None
