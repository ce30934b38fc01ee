-- the States from the innermost one on are marked, up to the place
use Rattle.pssm_routes.proofs.Around.{IsMarking}
use Rattle.pssm_routes.proofs.candidates.mark_around.Given as goal

abbrev pub invariant-loop-left : goal.invariant-loop-left
invariant-loop-left l = IsMarking l.machine l.fn.v l.fn.marks.items l.at l.left l.marks.items

abbrev pub decreases-loop-left : goal.decreases-loop-left
decreases-loop-left l = l.left
