-- all vertices before the place were looked on from
use Rattle.std.proofs.Common.{◌-◌}
use Rattle.pssm_model.specs.declared.ids.TransId.{TransId}
use Rattle.pssm_model.specs.Routes.{Truth}
use Rattle.pssm_enabled.specs.Telling.{Tells}
use Rattle.pssm_routes.specs.inner.Looking.{AreThere, IsLooking}
use Rattle.pssm_routes.proofs.looking.Reached.look_out.Given as goal

abbrev pub invariant-loop-place : goal.invariant-loop-place
invariant-loop-place g l =
    AreThere l.machine l.self
    × ((values : Truth) (start : TransId) → Tells l.machine (goal.T-post g l.truth) values → IsLooking l.machine values l.within start l.fn.self 0
    → IsLooking l.machine values l.within start l.self l.place)

abbrev pub decreases-loop-place : goal.decreases-loop-place
decreases-loop-place g l = 64 - l.place
