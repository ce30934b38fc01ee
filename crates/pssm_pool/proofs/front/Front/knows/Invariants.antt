use Rattle.pssm_pool.proofs.front.Front.knows.Given as goal

abbrev pub invariant-loop-i : goal.invariant-loop-i
invariant-loop-i l = Unit {0}
