-- none of those before is on the route
use Rattle.pssm_model.specs.declared.ids.TransId.{TransId}
use Rattle.pssm_model.specs.Legs.{On}
use Rattle.pssm_enabled.specs.Fitting.{route_with}
use Rattle.pssm_enabled.proofs.ListPlaces.{Below}
use Rattle.pssm_enabled.proofs.few.is_entered.Given as goal

abbrev pub invariant-loop-u : goal.invariant-loop-u
invariant-loop-u l = Below (λ (t : TransId). On (route_with l.starts l.rest) t → ⊥) l.u-items l.u-index
