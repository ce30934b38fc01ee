-- none of those before is on the route
use Rattle.pssm_model.specs.declared.ids.TransId.{TransId}
use Rattle.pssm_model.specs.Legs.{On}
use Rattle.pssm_enabled.specs.Fitting.{route_with}
use Rattle.pssm_enabled.proofs.ListPlaces.{Below}
use Rattle.pssm_enabled.proofs.few.has_one.Given as goal

abbrev pub invariant-loop-t : goal.invariant-loop-t
invariant-loop-t l = Below (λ (t : TransId). On (route_with l.starts l.rest) t → ⊥) l.t-items l.t-index
