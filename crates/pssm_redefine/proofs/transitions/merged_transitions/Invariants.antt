use Rattle.std.specs.List.{slice_index_or}
use Rattle.pssm_redefine.specs.inner.Merges.{AreTransitionsSoFar}
use Rattle.pssm_redefine.proofs.transitions.merged_transitions.Given as goal

abbrev pub invariant-loop-number : goal.invariant-loop-number
invariant-loop-number l = AreTransitionsSoFar l.draft (λ slot. slice_index_or l.numbers slot 0) l.base l.ends l.forms l.number l.transitions.items
