use Rattle.std.proofs.Common.{◌≡◌, ◌<◌, ◌-◌, ℕ, length, get_or}
use Rattle.pssm_totals.proofs.settling.place_of.Given as goal

-- None of the places before it is that of the machine.
abbrev pub invariant-places : goal.invariant-places
invariant-places l = (k : ℕ) → k < l.place → get_or l.path k l.m ≡ l.m → ⊥

abbrev pub decreases-places : goal.decreases-places
decreases-places l = length l.path - l.place
