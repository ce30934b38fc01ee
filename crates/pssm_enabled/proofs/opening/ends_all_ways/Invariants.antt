-- ways end behind those before
use Rattle.pssm_enabled.specs.inner.Passing.{EndsWayBehind}
use Rattle.pssm_enabled.proofs.ListPlaces.{Below}
use Rattle.pssm_enabled.proofs.opening.ends_all_ways.Given as goal

abbrev pub invariant-loop-t : goal.invariant-loop-t
invariant-loop-t l = Below (EndsWayBehind l.machine) l.t-items l.t-index
