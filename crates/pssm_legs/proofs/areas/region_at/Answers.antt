-- the point has one State
use Rattle.pssm_legs.proofs.areas.region_at.Goals as goal

pub region_around-requires-clause-inside : goal.region_around-requires-clause-inside
region_around-requires-clause-inside c = c.requires.inside c.state_of_point-state.result c.state_of_point-state.ensures.owner

pub returns-clause-region : goal.returns-clause-region
returns-clause-region c =
    (c.state_of_point-state.result, c.state_of_point-state.ensures.owner, c.region_around.ensures.owner, c.region_around.ensures.lies)
