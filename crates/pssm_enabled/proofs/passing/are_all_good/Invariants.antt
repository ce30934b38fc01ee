use Rattle.pssm_enabled.specs.inner.Passing.{EndsOnMarked}
use Rattle.pssm_enabled.proofs.ListPlaces.{Below}
use Rattle.pssm_enabled.proofs.passing.are_all_good.Given as goal

-- those before end on marked vertices
abbrev pub invariant-loop-t : goal.invariant-loop-t
invariant-loop-t l = Below (EndsOnMarked l.machine l.good) l.t-items l.t-index
