-- the first leg is one of them
use Rattle.std.proofs.Common.{refl}
use Rattle.pssm_legs.proofs.ordering.are_ordered_forward.Goals as goal

pub are_called_over_legs-requires-clause-leg : goal.are_called_over_legs-requires-clause-leg
are_called_over_legs-requires-clause-leg c = c.requires.legs.each 0 c.args.legs.now.first refl
