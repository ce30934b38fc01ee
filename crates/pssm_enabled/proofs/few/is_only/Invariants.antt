-- it is so of those before
use Rattle.pssm_model.specs.Legs.{On}
use Rattle.pssm_enabled.specs.Fitting.{route_with}
use Rattle.pssm_enabled.specs.inner.Fitting.{IsOrOff}
use Rattle.pssm_enabled.proofs.ListPlaces.{Below}
use Rattle.pssm_enabled.proofs.few.is_only.Given as goal

abbrev pub invariant-loop-u : goal.invariant-loop-u
invariant-loop-u l = Below (IsOrOff (On (route_with l.starts l.rest)) l.fn.t) l.u-items l.u-index
