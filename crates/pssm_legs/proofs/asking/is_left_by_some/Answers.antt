-- the first leg is one of them
use Rattle.std.proofs.Common.{refl}
use Rattle.pssm_legs.proofs.asking.is_left_by_some.Goals as goal

pub is_left_to_open-requires-clause-leg : goal.is_left_to_open-requires-clause-leg
is_left_to_open-requires-clause-leg c = c.requires.legs.each 0 c.args.legs.now.first refl
