use Rattle.std.proofs.Common.{◌≡◌, ◌↔◌, ◌<◌, ℕ, length, Bool, true, false, get_or, Contains, subst, sym, Vec, Global, List}
use Rattle.pssm_wellformed.specs.declared.ends.End.TheVariants.{Target}
use Rattle.pssm_wellformed.specs.declared.walks.Walk.TheVariants.{Through}
use Rattle.pssm_model.specs.declared.ids.VertexId.{VertexId}
use Rattle.pssm_wellformed.specs.inner.Reach.{IsReached}
use Rattle.pssm_wellformed.specs.inner.Strays.{IsReachedLate}
use Rattle.pssm_wellformed.specs.inner.Ends.{vertex_number}
use Rattle.pssm_wellformed.specs.inner.Walks.{AreArrows, IsLateTarget}
use Rattle.pssm_wellformed.proofs.Arrows.{arrows_within}
use Rattle.pssm_wellformed.proofs.Closures.{late_iff}
use Rattle.pssm_wellformed.proofs.Places.{end_there}
use Rattle.pssm_wellformed.proofs.Straying.{ok_by}
use Rattle.pssm_wellformed.proofs.paths.late_marks.Goals as goal

pub walk_from-requires-clause-within : goal.walk_from-requires-clause-within
walk_from-requires-clause-within c = rw c.as_slice.ensures.value (arrows_within c.args.machine.now c.requires Through c.in_ok-through.through.items c.in_ok-through.ensures)

pub walk_from-requires-clause-there : goal.walk_from-requires-clause-there
walk_from-requires-clause-there c b h =
    let late = (c.in_ok-first.ensures b).0 (subst (λ xs. Contains xs b) c.as_slice-2.ensures.value h) in
    subst (λ n. b < n) (sym (subst (λ (x : List (Vec ℕ Global)). length x ≡ length c.args.machine.now.vertices) (sym c.as_slice.ensures.value) c.in_ok-through.ensures.width))
    (end_there c.args.machine.now c.requires Target late.0 (vertex_number b) late.4).1

pub returns-clause-marks : goal.returns-clause-marks
returns-clause-marks c =
    let m = c.args.machine.now in
    let are : AreArrows m Through c.as_slice.result.now = rw c.as_slice.ensures.value c.in_ok-through.ensures in
    let firsts : (b : ℕ) → Contains c.as_slice-2.result.now b ↔ IsLateTarget m b = rw c.as_slice-2.ensures.value c.in_ok-first.ensures in
    ok_by (λ (marks : Vec Bool Global). (b : ℕ) → (get_or marks.items b false ≡ true) ↔ IsReached c.as_slice.result.now c.as_slice-2.result.now b)
    (λ (marks : Vec Bool Global). (v : VertexId) → (get_or marks.items v.0 false ≡ true) ↔ IsReachedLate m v)
    c.walk_from.result c.walk_from.ensures.marks
    (λ marks is v. let late = late_iff are c.as_slice-2.result.now firsts v in (λ e. late.0 ((is v.0).0 e), λ l. (is v.0).1 (late.1 l)))
