-- as far as it has come a way leads on exactly where one does from the first
use Rattle.std.proofs.Common.{◌↔◌, ◌<◌, length}
use Rattle.pssm_model.specs.declared.elements.VertexKind.TheVariants as kinds
use Rattle.pssm_model.specs.Forest.{HasKind}
use Rattle.pssm_model.specs.Routes.{Truth}
use Rattle.pssm_enabled.specs.Ways.{HasWay}
use Rattle.pssm_enabled.proofs.opening.last_entry.Given as goal

abbrev pub invariant-loop-left : goal.invariant-loop-left
invariant-loop-left l =
    (l.at.0 < length l.machine.vertices) × HasKind l.machine l.at kinds.EntryPoint
    × ((values : Truth) → HasWay l.machine values l.fn.v ↔ HasWay l.machine values l.at)

abbrev pub decreases-loop-left : goal.decreases-loop-left
decreases-loop-left l = l.left
