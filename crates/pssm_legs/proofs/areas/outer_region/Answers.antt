-- a region is owned by a State, since nothing else may own it
use Rattle.pssm_model.specs.declared.elements.VertexKind.TheVariants as kinds
use Rattle.pssm_model.specs.declared.elements.Owner.TheVariants.{Region, State}
use Rattle.pssm_legs.proofs.PathRegions.{kind_there}
use Rattle.pssm_legs.proofs.areas.outer_region.Goals as goal

pub home-requires : goal.home-requires
home-requires c =
    kind_there c.args.machine.now c.in-State.s kinds.State
    (c.regions-shaped.ensures.shaped.regions c.args.r (State c.in-State.s) c.in-State.ensures).0

pub unreachable-requires-in-Region : goal.unreachable-requires-in-Region
unreachable-requires-in-Region c = (c.regions-shaped.ensures.shaped.regions c.args.r (Region c.in-Region.field-0) c.in-Region.ensures).0

pub returns-clause-outer : goal.returns-clause-outer
returns-clause-outer c = (c.in-State.s, c.in-State.ensures, c.home.ensures.home)
