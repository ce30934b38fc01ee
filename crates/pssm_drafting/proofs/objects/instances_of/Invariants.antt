use Rattle.std.proofs.Common.{◌≡◌, take}
use Rattle.std.specs.Prelude.{map, filter, is_some}
use Rattle.pssm_numbering.specs.Meanings.{class_of_instance}
use Rattle.pssm_drafting.specs.Drafts.{object_at}
use Rattle.pssm_drafting.proofs.objects.instances_of.Given as goal

abbrev pub invariant-loop-n : goal.invariant-loop-n
invariant-loop-n l = l.row ≡ map (object_at l.file) (filter (λ x. is_some (class_of_instance l.file x)) (take l.n-index l.n-items))
