use Rattle.pssm_enabled.specs.Steps.{steps_of}
use Rattle.pssm_routes.proofs.JoiningSteps.{none_joins_shut, some_joins, none_joins}
use Rattle.pssm_routes.proofs.joining.find_joiner.Goals as goal

pub returns-in-Shut-clause-none : goal.returns-in-Shut-clause-none
returns-in-Shut-clause-none g c = λ values tells.
    none_joins_shut c.requires.rules c.regions-shaped.ensures.shaped values _ _ c.in-Shut.ensures.room

pub find_way-requires-clause-room : goal.find_way-requires-clause-room
find_way-requires-clause-room g c ends = c.requires.room c.onward.result c.onward.ensures.on ends

pub returns-in-Open-clause-some : goal.returns-in-Open-clause-some
returns-in-Open-clause-some g c = λ values tells.
    some_joins c.requires.rules c.regions-shaped.ensures.shaped values _ _ c.in-Open.within c.in-Open.ensures.room c.onward.result c.onward.ensures.on
    (steps_of c.find_way.new.search) c.find_way.result c.requires.there c.requires.source (c.find_way.ensures.found values tells)

pub returns-in-Open-clause-none : goal.returns-in-Open-clause-none
returns-in-Open-clause-none g c = λ values tells.
    none_joins c.requires.rules c.regions-shaped.ensures.shaped values _ _ c.in-Open.within c.in-Open.ensures.room c.onward.result c.onward.ensures.on
    c.find_way.result (c.find_way.ensures.none values tells (c.requires.nothing values c.in-Open.within))
