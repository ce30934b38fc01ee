use Rattle.pssm_model.specs.Routes.{Truth}
use Rattle.pssm_enabled.specs.Telling.{Tells}
use Rattle.pssm_enabled.proofs.ListPlaces.{Below}
use Rattle.pssm_enabled.proofs.Guarded.{IsNoTrueOther}
use Rattle.pssm_enabled.proofs.guards.another_is_true.Given as goal

-- none of those before is another one with a true guard
abbrev pub invariant-loop-u : goal.invariant-loop-u
invariant-loop-u g l = (values : Truth) → Tells l.machine (goal.T-post g l.truth) values → Below (IsNoTrueOther l.machine values l.t) l.u-items l.u-index
