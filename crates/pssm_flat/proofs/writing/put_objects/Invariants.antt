use Rattle.std.proofs.Common.{◌≡◌, ◌++◌, take}
use Rattle.std.specs.List.{flat_map}
use Rattle.pssm_flat.specs.Text.{line, object_line}
use Rattle.pssm_flat.proofs.writing.put_objects.Given as goal

abbrev pub invariant-loop-object : goal.invariant-loop-object
invariant-loop-object l = l.text.items ≡ l.fn.text.items ++ flat_map (λ x. line (object_line l.classes x)) (take l.object-index l.object-items)
