use Rattle.pssm_model.specs.declared.ids.TransId.{TransId}
use Rattle.pssm_model.specs.Legs.{Leaves}
use Rattle.pssm_enabled.proofs.ListPlaces.{Below}
use Rattle.pssm_enabled.proofs.starting.is_left_by.Given as goal

-- none before leaves the State
abbrev pub invariant-loop-t : goal.invariant-loop-t
invariant-loop-t l = Below (λ (t : TransId). Leaves l.machine t l.state → ⊥) l.starts l.t-index
