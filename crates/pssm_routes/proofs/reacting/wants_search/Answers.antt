-- a transition that ends on no junction, exit point or join goes on by itself, and ends on neither
use Rattle.pssm_routes.proofs.Onward.{wants_none}
use Rattle.pssm_routes.proofs.reacting.wants_search.Goals as goal

pub returns-in_default : goal.returns-in_default
returns-in_default c never u on ends =
    wants_none c.args.machine.now c.args.t u c.target.result c.vertex.result.now c.target.ensures.enters c.vertex.ensures
    c.in_default.not-Junction c.in_default.not-ExitPoint c.in_default.not-Join on ends
