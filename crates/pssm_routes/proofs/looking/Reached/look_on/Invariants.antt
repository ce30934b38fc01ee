-- so many of the transitions out of the vertex are looked at
use Rattle.std.proofs.Common.{get_or}
use Rattle.pssm_model.specs.declared.ids.TransId.{TransId}
use Rattle.pssm_model.specs.Routes.{Truth}
use Rattle.pssm_enabled.specs.Telling.{Tells}
use Rattle.pssm_routes.specs.inner.Looking.{AreThere, IsLooking, IsLookingOn}
use Rattle.pssm_routes.proofs.looking.Reached.look_on.Given as goal

abbrev pub invariant-loop-t : goal.invariant-loop-t
invariant-loop-t g l =
    AreThere l.machine l.self
    × ((values : Truth) (start : TransId) → Tells l.machine (goal.T-post g l.truth) values
    → IsLooking l.machine values l.within start l.initial.self l.place
    → IsLookingOn l.machine values l.within start (get_or l.initial.self.found l.place (record { 0 = 0 })) l.place l.t-items l.self l.t-index)
