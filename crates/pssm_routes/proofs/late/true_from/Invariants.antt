-- those of the transitions so far are found that are true
use Rattle.std.proofs.Common.{All}
use Rattle.pssm_model.specs.Legs.{Leaves}
use Rattle.pssm_model.specs.Routes.{Truth, IsTrueAt}
use Rattle.pssm_enabled.specs.Telling.{Tells}
use Rattle.pssm_routes.proofs.TrueOnes.{AreChosenUp}
use Rattle.pssm_routes.proofs.late.true_from.Given as goal

abbrev pub invariant-loop-t : goal.invariant-loop-t
invariant-loop-t g l =
    All (λ t. Leaves l.machine t l.fn.origin) l.found.items
    × ((values : Truth) → Tells l.machine (goal.T-post g l.truth) values → AreChosenUp (IsTrueAt l.machine values) l.t-items l.t-index l.found.items)
