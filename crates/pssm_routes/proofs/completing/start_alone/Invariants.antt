-- none of those before ends on a join
use Rattle.pssm_model.specs.declared.ids.VertexId.{VertexId}
use Rattle.pssm_model.specs.declared.ids.TransId.{TransId}
use Rattle.pssm_model.specs.declared.elements.VertexKind.TheVariants as kinds
use Rattle.pssm_model.specs.Forest.{HasKind}
use Rattle.pssm_model.specs.Legs.{Enters}
use Rattle.pssm_enabled.proofs.ListPlaces.{Below}
use Rattle.pssm_routes.proofs.completing.start_alone.Given as goal

abbrev pub invariant-loop-t : goal.invariant-loop-t
invariant-loop-t l = Below (λ (t : TransId). (v : VertexId) → Enters l.machine t v → HasKind l.machine v kinds.Join → ⊥) l.t-items l.t-index
