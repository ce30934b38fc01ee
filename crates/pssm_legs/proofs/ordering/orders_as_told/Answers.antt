-- the legs of the route do what is told of them
use Rattle.pssm_legs.proofs.TheLegs.{orders_is, orders_of}
use Rattle.pssm_legs.proofs.ordering.orders_as_told.Goals as goal

pub returns : goal.returns
returns c = λ p are. (
  λ is. orders_of c.regions-shaped.ensures.shaped c.requires.rules p c.args.legs.now are c.args.fires c.args.first c.args.second (c.are_ordered_by_some.ensures.0 is),
  λ h. c.are_ordered_by_some.ensures.1 (orders_is c.regions-shaped.ensures.shaped c.requires.rules p c.args.legs.now are c.args.fires c.args.first c.args.second h),
)
