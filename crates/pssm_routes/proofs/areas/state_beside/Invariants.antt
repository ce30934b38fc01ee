use Rattle.pssm_routes.proofs.Spans.{IsNearing}
use Rattle.pssm_routes.proofs.areas.state_beside.Given as goal

-- the State that is sought is this one, or further out
abbrev pub invariant-loop-left : goal.invariant-loop-left
invariant-loop-left l = IsNearing l.machine l.home l.fn.v l.at l.left

abbrev pub decreases-loop-left : goal.decreases-loop-left
decreases-loop-left l = l.left
