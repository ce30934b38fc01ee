use Rattle.std.proofs.Common.{◌≡◌, take, min, sum_by}
use Rattle.pssm_parts.specs.Elements.{transition_at}
use Rattle.pssm_limits.specs.inner.Counts.{transition_bodies}
use Rattle.pssm_limits.proofs.bodies.bodies_of_transitions.Given as goal

abbrev pub invariant-loop-n : goal.invariant-loop-n
invariant-loop-n l = l.total ≡ min 65536 (sum_by (λ n. transition_bodies (transition_at l.file n)) (take l.n-index l.transitions))
