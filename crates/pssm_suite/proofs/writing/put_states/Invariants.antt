use Rattle.std.proofs.Common.{◌≡◌, ◌++◌, ◌-◌, ◌≤◌}
use Rattle.std.specs.Prelude.{map}
use Rattle.pssm_flat.specs.Text.{text_of}
use Rattle.pssm_suite.specs.Generated.{up_to, state_line}
use Rattle.pssm_suite.proofs.writing.put_states.Given as goal

abbrev pub invariant-loop-number : goal.invariant-loop-number
invariant-loop-number l = (1 ≤ l.number) × (l.text.items ≡ l.fn.text.items ++ text_of (map state_line (up_to (l.number - 1))))
