use Rattle.std.proofs.Common.{◌≡◌, ◌++◌, ◌-◌, ◌≤◌}
use Rattle.std.specs.List.{flat_map}
use Rattle.pssm_flat.specs.Text.{text_of}
use Rattle.pssm_suite.specs.Generated.{up_to, step_lines}
use Rattle.pssm_suite.proofs.writing.put_steps.Given as goal

abbrev pub invariant-loop-number : goal.invariant-loop-number
invariant-loop-number l = (1 ≤ l.number) × (l.text.items ≡ l.fn.text.items ++ text_of (flat_map (step_lines l.n) (up_to (l.number - 1))))
