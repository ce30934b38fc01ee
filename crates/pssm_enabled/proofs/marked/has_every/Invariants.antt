use Rattle.pssm_enabled.proofs.ListPlaces.{Below}
use Rattle.pssm_enabled.specs.inner.Fitting.{IsMarkedTransition}
use Rattle.pssm_enabled.proofs.marked.has_every.Given as goal

-- those before are marked
abbrev pub invariant-loop-t : goal.invariant-loop-t
invariant-loop-t l = Below (IsMarkedTransition l.on) l.t-items l.t-index
