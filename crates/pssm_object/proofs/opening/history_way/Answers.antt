-- the State is what the region remembers
use Rattle.std.proofs.Common.{refl}
use Rattle.pssm_object.proofs.opening.history_way.Goals as goal

pub returns-in-Some : goal.returns-in-Some
returns-in-Some c = (c.in-Some.ensures c.in-Some.s).0 refl
