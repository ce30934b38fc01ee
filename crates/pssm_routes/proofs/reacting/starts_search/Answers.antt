-- where it wants no search it goes on to no junction or exit point
use Rattle.pssm_routes.proofs.reacting.starts_search.Goals as goal

pub returns-then-wants_search : goal.returns-then-wants_search
returns-then-wants_search c never u started on ends =
    let is = c.is_started_with.ensures.1 started in cc (never, is)

pub returns-else-wants_search : goal.returns-else-wants_search
returns-else-wants_search c never u started on ends = c.wants_search.ensures c.if-wants_search.false u on ends
