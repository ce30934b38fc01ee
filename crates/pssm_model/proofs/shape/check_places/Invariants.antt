use Rattle.pssm_model.specs.inner.Depths.{AreDepths}
use Rattle.pssm_model.proofs.Checked.{IsChecked}
use Rattle.pssm_model.proofs.shape.check_places.Given as goal

-- nothing is wrong with the places so far, and their depths are in the list
abbrev pub invariant-loop-number : goal.invariant-loop-number
invariant-loop-number l = IsChecked l.fn.draft l.fn.kind l.number l.found.items × AreDepths l.fn.draft l.depths
