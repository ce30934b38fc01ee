-- as far as it has come a route can go on, and goes on from the first vertex with what was found
use Rattle.std.proofs.Common.{◌<◌, length}
use Rattle.pssm_model.specs.Routes.{Truth}
use Rattle.pssm_enabled.specs.inner.Down.{IsDown}
use Rattle.pssm_enabled.proofs.descending.descend.Given as goal

abbrev pub invariant-loop-left : goal.invariant-loop-left
invariant-loop-left l = (l.to.0 < length l.machine.vertices) × ((values : Truth) → IsDown l.machine values l.fn.v l.over.items l.to)

abbrev pub decreases-loop-left : goal.decreases-loop-left
decreases-loop-left l = l.left
