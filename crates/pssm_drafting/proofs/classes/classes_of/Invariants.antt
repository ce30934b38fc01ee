use Rattle.std.proofs.Common.{◌≡◌, take}
use Rattle.std.specs.Prelude.{map}
use Rattle.pssm_drafting.specs.Drafts.{class_at}
use Rattle.pssm_drafting.proofs.classes.classes_of.Given as goal

abbrev pub invariant-loop-c : goal.invariant-loop-c
invariant-loop-c l = l.row ≡ map (class_at l.file) (take l.c-index l.c-items)
