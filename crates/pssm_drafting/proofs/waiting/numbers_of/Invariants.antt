use Rattle.std.proofs.Common.{◌≡◌, take}
use Rattle.pssm_numbering.specs.Numbering.{signals}
use Rattle.pssm_drafting.specs.inner.Waiting.{numbers_among}
use Rattle.pssm_drafting.proofs.waiting.numbers_of.Given as goal

abbrev pub invariant-loop-i : goal.invariant-loop-i
invariant-loop-i l = l.row ≡ numbers_among l.numbering l.waited (take l.i (signals l.numbering))
