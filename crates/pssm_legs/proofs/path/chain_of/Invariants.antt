use Rattle.std.proofs.Common.{◌-◌, ◌∷◌, length}
use Rattle.pssm_legs.proofs.Chains.{IsChaining}
use Rattle.pssm_legs.proofs.path.chain_of.Given as goal

-- the chain so far, and where it ends
abbrev pub invariant-chain : goal.invariant-chain
invariant-chain l = IsChaining l.fn.machine l.fn.route l.fn.named l.further.items l.last

-- it grows no longer than the machine has transitions
abbrev pub decreases-chain : goal.decreases-chain
decreases-chain l = length l.fn.machine.transitions - length (l.fn.named ∷ l.further.items)
