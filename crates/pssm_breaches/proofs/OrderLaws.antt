-- The order of a file.
use Rattle.std.proofs.Common.{arith}
use Rattle.pssm_breaches.specs.Faults.{Site, IsEarlier}

pub earlier_trans : (a b c : Site) → IsEarlier a b → IsEarlier b c → IsEarlier a c
earlier_trans a b c p q = grind arith

pub never_itself : (a : Site) → IsEarlier a a → ⊥
never_itself a p = grind arith

-- what comes before one comes before all that does not come before that one
pub earlier_than : (a b c : Site) → (IsEarlier c b → ⊥) → IsEarlier a b → IsEarlier a c
earlier_than a b c later earlier = grind arith
