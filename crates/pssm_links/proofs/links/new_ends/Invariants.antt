-- the slots so far are ends
use Rattle.pssm_links.specs.inner.Rings.{AreEnds}
use Rattle.pssm_links.proofs.links.new_ends.Given as goal

abbrev pub invariant-loop-number : goal.invariant-loop-number
invariant-loop-number g l = AreEnds l.slots.items l.number
