-- the first leg is one of them
use Rattle.std.proofs.Common.{refl}
use Rattle.pssm_legs.proofs.asking.is_called_by_some.Goals as goal

pub is_called-requires-clause-leg : goal.is_called-requires-clause-leg
is_called-requires-clause-leg c = c.requires.legs.each 0 c.args.legs.now.first refl
