use Rattle.pssm_routes.specs.inner.Footprints.{Clash}
use Rattle.pssm_enabled.proofs.Scanning.{HoldsOfFirst}
use Rattle.pssm_routes.proofs.set.clashes_with.Given as goal

-- none of the others so far clashes
abbrev pub invariant-loop-other : goal.invariant-loop-other
invariant-loop-other l = HoldsOfFirst (λ a. Clash l.machine a l.footprint → ⊥) l.others l.other-index
