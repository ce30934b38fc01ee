use Rattle.std.proofs.Common.{◌≡◌, ◌+◌, ◌≤◌, length}
use Rattle.pssm_values.specs.Ids.{ids_in}
use Rattle.pssm_values.proofs.ids.ids_len.Given as goal

abbrev pub invariant-loop-i : goal.invariant-loop-i
invariant-loop-i l = (l.count + length (ids_in l.rest) ≡ length (ids_in l.value)) × (length l.rest + l.i ≤ length l.value) × (l.count ≤ l.i)
