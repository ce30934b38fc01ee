use Rattle.std.proofs.Common.{◌≤◌}
use Rattle.pssm_profile.specs.inner.Counting.{IsCountedTo}
use Rattle.pssm_profile.proofs.counting.children_count.Given as goal

abbrev pub invariant-loop-turn : goal.invariant-loop-turn
invariant-loop-turn l = IsCountedTo l.elements l.p l.name l.turn l.count l.next × (l.count ≤ l.turn)
