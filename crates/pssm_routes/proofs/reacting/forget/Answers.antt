-- a new search has seen nothing
use Rattle.pssm_enabled.proofs.OneSearch.{new_knows}
use Rattle.pssm_routes.proofs.reacting.forget.Goals as goal

pub returns-then-not-is_empty-clause-nothing : goal.returns-then-not-is_empty-clause-nothing
returns-then-not-is_empty-clause-nothing c m truth within = new_knows m truth within c.args.search.now c.clear.new.self (c.clear.ensures.nothing m truth within)
