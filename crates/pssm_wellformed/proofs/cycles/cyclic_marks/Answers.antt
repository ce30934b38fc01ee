-- a vertex is marked where arrows lead from it back to it
use Rattle.std.proofs.Common.{◌≡◌, ◌↔◌, ℕ, true, false, get_or, take, sym, subst, ◌∙◌, ap, Vec, Global, List}
use Rattle.pssm_model.specs.WellFormed.{IsOnCycle}
use Rattle.pssm_wellformed.specs.inner.Cycles.{GoesRound}
use Rattle.pssm_wellformed.proofs.Arrows.{leads_within}
use Rattle.pssm_wellformed.proofs.Closures.{vertex_rounds}
use Rattle.pssm_wellformed.proofs.cycles.cyclic_marks.Goals as goal

pub cyclic_numbers-requires-clause-within : goal.cyclic_numbers-requires-clause-within
cyclic_numbers-requires-clause-within c = rw c.as_slice.ensures.value (leads_within c.args.machine.now c.requires c.in_ok-leads.leads.items c.in_ok-leads.ensures)

pub returns-clause-marks : goal.returns-clause-marks
returns-clause-marks c v =
    let m = c.args.machine.now in
    let marks = c.in_ok-marks.marks.items in
    let are : (a : ℕ) → (get_or marks a false ≡ true) ↔ GoesRound c.in_ok-leads.leads.items a =
    subst (λ (g : List (Vec ℕ Global)). (a : ℕ) → (get_or marks a false ≡ true) ↔ GoesRound g a) c.as_slice.ensures.value c.in_ok-marks.ensures.marks in
    subst (λ kept. (get_or kept v.0 false ≡ true) ↔ IsOnCycle m v) (sym (c.truncate.ensures.items ∙ ap (λ n. take n marks) c.vertices.ensures))
    (vertex_rounds m c.requires c.in_ok-leads.leads.items c.in_ok-leads.ensures marks are v)
