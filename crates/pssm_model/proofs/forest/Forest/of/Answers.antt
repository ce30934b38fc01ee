-- The first fault of one kind of elements is that of the draft, since the elements that were checked before are sound; and where all are, the tables are right.
use Rattle.std.proofs.Common.{⊎_elim, inl, inr}
use Rattle.std.proofs.lemmas.Result.{err_from_is_err_and}
use Rattle.pssm_model.proofs.FirstFault.{first_region_fault, first_vertex_fault, first_transition_fault, sound_has_shape}
use Rattle.pssm_model.proofs.forest.Forest.of.Goals as goal

pub returns-in_err-regions-clause-fault : goal.returns-in_err-regions-clause-fault
returns-in_err-regions-clause-fault c =
    let p = err_from_is_err_and c.from_residual-in_err-regions.result c.from_residual-in_err-regions.ensures.1 in
    rw (p.1, p.2)
    (⊎_elim (λ none. inl none) (λ first. inr (first_region_fault _ _ first)) c.in_err-regions.ensures.fault)

pub returns-in_err-vertices-clause-fault : goal.returns-in_err-vertices-clause-fault
returns-in_err-vertices-clause-fault c =
    let p = err_from_is_err_and c.from_residual-in_err-vertices.result c.from_residual-in_err-vertices.ensures.1 in
    rw (p.1, p.2)
    (⊎_elim (λ none. inl none) (λ first. inr (first_vertex_fault _ _ c.in_ok-regions.ensures.sound first)) c.in_err-vertices.ensures.fault)

pub returns-in_err-check_transitions-clause-fault : goal.returns-in_err-check_transitions-clause-fault
returns-in_err-check_transitions-clause-fault c =
    let p = err_from_is_err_and c.from_residual-in_err-check_transitions.result c.from_residual-in_err-check_transitions.ensures.1 in
    rw (p.1, p.2)
    (inr (first_transition_fault _ _ c.in_ok-regions.ensures.sound c.in_ok-vertices.ensures.sound c.in_err-check_transitions.ensures.fault))

pub returns-clause-tables : goal.returns-clause-tables
returns-clause-tables c =
    let regions = c.in_ok-regions.ensures in
    let vertices = c.in_ok-vertices.ensures in
    rw (c.from_vec.ensures, c.from_vec-2.ensures)
    (record {
      shape = sound_has_shape _ regions.sound vertices.sound c.in_ok-check_transitions.ensures.sound;
      all_regions = regions.all;
      all_vertices = vertices.all;
      region_depths = regions.right;
      vertex_depths = vertices.right;
    })
