use Rattle.std.proofs.Common.{◌≡◌, take}
use Rattle.std.specs.Prelude.{map, filter, not, codes}
use Rattle.pssm_numbering.specs.Meanings.{is_true}
use Rattle.pssm_drafting.specs.Drafts.{object_with}
use Rattle.pssm_drafting.proofs.objects.concrete_of.Given as goal

abbrev pub invariant-loop-c : goal.invariant-loop-c
invariant-loop-c l = l.row ≡ map (λ x. object_with l.file x x) (filter (λ x. not (is_true (codes "isAbstract") l.file x)) (take l.c-index l.c-items))
