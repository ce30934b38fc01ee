use Rattle.std.proofs.Common.{◌≡◌, ◌++◌, take}
use Rattle.std.specs.List.{flat_map}
use Rattle.pssm_flat.specs.Text.{line, step_line}
use Rattle.pssm_flat.proofs.behaviours.put_steps.Given as goal

abbrev pub invariant-loop-step : goal.invariant-loop-step
invariant-loop-step l = l.text.items ≡ l.fn.text.items ++ flat_map (λ act. line (step_line l.names l.class act)) (take l.step-index l.step-items)
