-- in a new list of notes nothing is noted
use Rattle.std.proofs.Common.{ap, ◌∙◌, length, replicate}
use Rattle.pssm_model.specs.declared.depths.Depth.TheVariants.{Unknown}
use Rattle.pssm_model.proofs.Climbing.{nothing_noted}
use Rattle.pssm_model.proofs.depths.Depths.new.Goals as goal

pub returns : goal.returns
returns c = nothing_noted
    _
    _
    (c.in_ok-vec.ensures.items_if_clones_equal (λ y e. e) ∙ ap (λ xs. replicate (length xs) Unknown) c.as_slice.ensures)
    (c.in_ok-vec-2.ensures.items_if_clones_equal (λ y e. e) ∙ ap (λ xs. replicate (length xs) Unknown) c.as_slice-2.ensures)
