use Rattle.std.proofs.Common.{◌≡◌, ◌++◌, take}
use Rattle.std.specs.List.{flat_map}
use Rattle.pssm_flat.specs.Text.{text_of, machine_lines}
use Rattle.pssm_flat.proofs.writing.put_machines.Given as goal

abbrev pub invariant-loop-class : goal.invariant-loop-class
invariant-loop-class l = l.text.items ≡ l.fn.text.items ++ flat_map (λ x. text_of (machine_lines l.setting x)) (take l.class-index l.class-items)
