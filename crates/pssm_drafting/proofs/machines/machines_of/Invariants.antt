use Rattle.std.proofs.Common.{◌≡◌, take}
use Rattle.std.specs.Prelude.{map}
use Rattle.pssm_drafting.specs.Drafts.{parts_at}
use Rattle.pssm_numbering.specs.Numbering.{machines}
use Rattle.pssm_drafting.proofs.machines.machines_of.Given as goal

abbrev pub invariant-loop-k : goal.invariant-loop-k
invariant-loop-k l = l.row ≡ map (parts_at l.file) (take l.k (machines l.file))
