use Rattle.pssm_model.proofs.Nesting.{home_of_vertex, home_of_point}
use Rattle.pssm_model.proofs.forest.home.Goals as goal

pub returns-in-Region-clause-home : goal.returns-in-Region-clause-home
returns-in-Region-clause-home c = home_of_vertex _ _ _ c.in-Region.ensures

pub returns-in-State-clause-home : goal.returns-in-State-clause-home
returns-in-State-clause-home c = home_of_point _ _ _ _ c.in-State.ensures c.state_home.ensures.owner
