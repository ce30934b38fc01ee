-- the legs of the route do what is told of them
use Rattle.pssm_legs.proofs.TheLegs.{calls_is, calls_of}
use Rattle.pssm_legs.proofs.asking.calls.Goals as goal

pub returns : goal.returns
returns c = λ p are. (
  λ is. calls_of c.regions-shaped.ensures.shaped c.requires.rules p c.args.legs.now are c.args.fires c.args.item (c.is_called_by_some.ensures.0 is),
  λ h. c.is_called_by_some.ensures.1 (calls_is c.regions-shaped.ensures.shaped c.requires.rules p c.args.legs.now are c.args.fires c.args.item h),
)
