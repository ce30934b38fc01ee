-- A transition that leaves a vertex is there.
use Rattle.std.proofs.Common.{◌<◌, length}
use Rattle.std.proofs.lemmas.Option.{slice_get_within}
use Rattle.pssm_model.specs.declared.ids.VertexId.{VertexId}
use Rattle.pssm_model.specs.declared.ids.TransId.{TransId}
use Rattle.pssm_model.specs.declared.elements.DraftMachine.{DraftMachine}
use Rattle.pssm_model.specs.declared.elements.Transition.{Transition}
use Rattle.pssm_model.specs.Forest.{transition_at}
use Rattle.pssm_model.specs.Legs.{Leaves}
use Rattle.pssm_model.proofs.ElementLaws.{mapped_some}

pub leaving_is_there : (m : DraftMachine) (t : TransId) (v : VertexId) → Leaves m t v → t.0 < length m.transitions
leaving_is_there m t v leaves =
    let at = mapped_some (λ (x : Transition). x.source) (transition_at m t) v leaves in slice_get_within m.transitions t.0 at.0 at.1
