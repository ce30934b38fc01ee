-- the first leg is one of them
use Rattle.std.proofs.Common.{refl}
use Rattle.pssm_legs.proofs.ordering.are_ordered_by_some.Goals as goal

pub are_ordered_within-requires-clause-leg : goal.are_ordered_within-requires-clause-leg
are_ordered_within-requires-clause-leg c = c.requires.legs.each 0 c.args.legs.now.first refl
