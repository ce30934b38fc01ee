-- a region is owned by a State, since nothing else may own it
use Rattle.pssm_model.specs.declared.elements.Owner.TheVariants.{Region, State}
use Rattle.pssm_model.proofs.Nesting.{outer_of_region}
use Rattle.pssm_model.proofs.forest.outer.Goals as goal

pub unreachable-requires-in-Region : goal.unreachable-requires-in-Region
unreachable-requires-in-Region c = (c.requires.shape.regions c.args.r (Region c.in-Region.field-0) c.in-Region.ensures).0

pub state_home-requires-clause-state : goal.state_home-requires-clause-state
state_home-requires-clause-state c = (c.requires.shape.regions c.args.r (State c.in-State.s) c.in-State.ensures).0

pub returns-clause-outer : goal.returns-clause-outer
returns-clause-outer c = outer_of_region _ _ _ _ c.in-State.ensures c.state_home.ensures.owner
