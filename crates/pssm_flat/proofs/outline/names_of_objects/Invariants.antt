use Rattle.std.proofs.Common.{◌≡◌, take}
use Rattle.std.specs.Prelude.{map}
use Rattle.pssm_semantics.specs.declared.setting.ObjectDecl.{ObjectDecl}
use Rattle.pssm_flat.proofs.outline.names_of_objects.Given as goal

abbrev pub invariant-loop-object : goal.invariant-loop-object
invariant-loop-object l = l.names.items ≡ map (λ (o : ObjectDecl). o.name) (take l.object-index l.objects)
