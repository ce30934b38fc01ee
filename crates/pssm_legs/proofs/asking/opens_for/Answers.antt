-- the legs of the route do what is told of them
use Rattle.pssm_legs.proofs.TheLegs.{opens_is, opens_of}
use Rattle.pssm_legs.proofs.asking.opens_for.Goals as goal

pub returns : goal.returns
returns c = λ p are. (
  λ is. opens_of c.regions-shaped.ensures.shaped c.requires.rules p c.args.legs.now are c.args.s c.args.r (c.is_left_by_some.ensures.0 is),
  λ h. c.is_left_by_some.ensures.1 (opens_is c.regions-shaped.ensures.shaped c.requires.rules p c.args.legs.now are c.args.s c.args.r h),
)
