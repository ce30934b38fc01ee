use Rattle.pssm_pool.proofs.numbers.numbered_kind.Given as goal

abbrev pub invariant-loop-i : goal.invariant-loop-i
invariant-loop-i l = Unit {0}
