use Rattle.std.proofs.Common.{◌≡◌, ◌+◌, ◌-◌, ℕ, length, get_or}
use Rattle.pssm_plan.specs.inner.Places.{no_row}
use Rattle.pssm_plan.proofs.places.reach.Given as goal

-- each row is as it was, and keeps nothing where there was none
abbrev pub invariant-loop-rows : goal.invariant-loop-rows
invariant-loop-rows l = (k : ℕ) → get_or l.rows.items k no_row ≡ get_or l.fn.rows.items k no_row

abbrev pub decreases-loop-rows : goal.decreases-loop-rows
decreases-loop-rows l = (l.number + 1) - length l.rows.items
