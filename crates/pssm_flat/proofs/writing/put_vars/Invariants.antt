use Rattle.std.proofs.Common.{◌≡◌, ◌++◌, take}
use Rattle.std.specs.List.{flat_map}
use Rattle.pssm_flat.specs.Text.{line, var_line}
use Rattle.pssm_flat.proofs.writing.put_vars.Given as goal

abbrev pub invariant-loop-variable : goal.invariant-loop-variable
invariant-loop-variable l = l.text.items ≡ l.fn.text.items ++ flat_map (λ x. line (var_line x)) (take l.variable-index l.variable-items)
