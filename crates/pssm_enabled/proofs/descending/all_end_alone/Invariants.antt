-- a route ends with each of those before
use Rattle.pssm_enabled.specs.inner.Fitting.{EndsAlone}
use Rattle.pssm_enabled.proofs.ListPlaces.{Below}
use Rattle.pssm_enabled.proofs.descending.all_end_alone.Given as goal

abbrev pub invariant-loop-t : goal.invariant-loop-t
invariant-loop-t l = Below (EndsAlone l.machine) l.t-items l.t-index
