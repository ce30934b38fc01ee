use Rattle.pssm_model.specs.Routes.{Truth, IsTrueAt}
use Rattle.pssm_enabled.specs.Telling.{Tells}
use Rattle.pssm_enabled.proofs.ListPlaces.{Below}
use Rattle.pssm_enabled.proofs.route.are_true.Given as goal

-- those before are true
abbrev pub invariant-loop-t : goal.invariant-loop-t
invariant-loop-t g l = (values : Truth) → Tells l.machine (goal.T-post g l.truth) values → Below (IsTrueAt l.machine values) l.transitions l.t-index
