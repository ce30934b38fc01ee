-- those of the States so far are found that are not marked
use Rattle.pssm_model.specs.declared.ids.VertexId.{VertexId}
use Rattle.pssm_routes.proofs.ChosenStates.{IsMarked}
use Rattle.pssm_enabled.proofs.Choosing.{AreChosen}
use Rattle.pssm_routes.proofs.candidates.unmarked.Given as goal

abbrev pub invariant-loop-s : goal.invariant-loop-s
invariant-loop-s l = AreChosen (λ (s : VertexId). IsMarked l.marks s → ⊥) l.states l.s-index l.found.items
