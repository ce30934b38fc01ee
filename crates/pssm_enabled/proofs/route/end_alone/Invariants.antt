use Rattle.pssm_enabled.specs.inner.Fitting.{EndsAlone}
use Rattle.pssm_enabled.proofs.ListPlaces.{Below}
use Rattle.pssm_enabled.proofs.route.end_alone.Given as goal

-- it is so of those before
abbrev pub invariant-loop-t : goal.invariant-loop-t
invariant-loop-t l = Below (EndsAlone l.machine) l.starts l.t-index
