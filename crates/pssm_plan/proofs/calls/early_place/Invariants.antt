use Rattle.std.proofs.Common.{◌≡◌, ◌<◌, ℕ, get_or}
use Rattle.pssm_plan.specs.declared.roster.Call.{Call}
use Rattle.pssm_plan.proofs.calls.early_place.Given as goal

-- none of the calls so far is one of the item
abbrev pub invariant-loop-k : goal.invariant-loop-k
invariant-loop-k l = (j : ℕ) (d : Call) → j < l.k → (get_or l.calls j d).item ≡ l.item → ⊥
