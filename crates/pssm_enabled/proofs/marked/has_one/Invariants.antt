use Rattle.pssm_model.specs.declared.ids.TransId.{TransId}
use Rattle.pssm_enabled.proofs.ListPlaces.{Below}
use Rattle.pssm_enabled.specs.inner.Fitting.{IsMarkedTransition}
use Rattle.pssm_enabled.proofs.marked.has_one.Given as goal

-- none before is marked
abbrev pub invariant-loop-t : goal.invariant-loop-t
invariant-loop-t l = Below (λ (t : TransId). IsMarkedTransition l.on t → ⊥) l.t-items l.t-index
