-- what is followed is a way where a route may go
use Rattle.pssm_routes.proofs.JoiningSteps.{some_joins}
use Rattle.pssm_routes.proofs.joining.follow_joiner.Goals as goal

pub returns-in-Open-clause-some : goal.returns-in-Open-clause-some
returns-in-Open-clause-some g c = λ values tells.
    some_joins c.requires.rules c.regions-shaped.ensures.shaped values _ _ c.in-Open.within c.in-Open.ensures.room c.onward.result c.onward.ensures.on
    c.follow.new.steps c.follow.result c.requires.there c.requires.source (c.follow.ensures.found values tells)
