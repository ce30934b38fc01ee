use Rattle.pssm_wellformed.specs.inner.Cycles.{IsSearching, steps_left}
use Rattle.pssm_wellformed.proofs.cycles.cyclic_numbers.Given as goal

abbrev pub invariant-loop-search : goal.invariant-loop-search
invariant-loop-search l = IsSearching l.onward l.search

abbrev pub decreases-loop-search : goal.decreases-loop-search
decreases-loop-search l = steps_left l.onward l.search
