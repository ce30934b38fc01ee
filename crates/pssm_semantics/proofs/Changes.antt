-- What statements leave of the variables, whatever they made before.
use Rattle.std.proofs.Common.{◌≡◌, ℕ, ◌+◌, ◌<◌, length, refl, sym, ap, ◌∙◌, List, take, slice_index_or, true, false, Option, Some, None}
use Rattle.pssm_semantics.specs.declared.entry.ObjectId.{ObjectId}
use Rattle.pssm_semantics.specs.declared.entry.Out.{Out}
use Rattle.pssm_semantics.specs.declared.setting.Outcome.{Outcome}
use Rattle.pssm_semantics.specs.declared.tree.Cond.{Cond}
use Rattle.pssm_semantics.specs.declared.tree.Stmt.{Stmt}
use Rattle.pssm_semantics.specs.declared.tree.Stmt.TheViews as views
use Rattle.pssm_semantics.specs.Values.{Store, Params, truth_of, after_stmt, after_stmts}
use Rattle.pssm_semantics.specs.inner.Running.{so_far, IsChangedBy, IsChangedByAll}
use Rattle.pssm_semantics.proofs.Blocks.{runs_first, runs_other, one_more}

-- the values in an outcome
abbrev values_in : Outcome → Store
values_in o = o.store

-- An `if` whose condition holds changes them as its first block does.
pub changes_first : (s : Stmt) (c : Cond) (body block : List Stmt) (o : Option (List Stmt)) (params : Params) (before after : Store) → s ≡ views.Choose c body o
    → block ≡ body → truth_of c before params ≡ true → IsChangedByAll block params before after → IsChangedBy s params before after
changes_first s c body block o params before after is same holds changed own outs =
    ap values_in (sym (runs_first s c body block o own params (so_far before outs) is same holds)) ∙ changed own outs

-- One whose condition fails changes them as the other block does.
pub changes_other : (s : Stmt) (c : Cond) (body rest block : List Stmt) (o : Option (List Stmt)) (params : Params) (before after : Store) → s ≡ views.Choose c body o
    → o ≡ Some rest → block ≡ rest → truth_of c before params ≡ false → IsChangedByAll block params before after → IsChangedBy s params before after
changes_other s c body rest block o params before after is other same fails changed own outs =
    ap values_in (sym (runs_other s c body rest block o own params (so_far before outs) is other same fails)) ∙ changed own outs

-- One statement more changes what the others left.
pub one_more_changes : (stmts : List Stmt) (k : ℕ) (s : Stmt) (params : Params) (before now after : Store) → k < length stmts → s ≡ slice_index_or stmts k s
    → IsChangedByAll (take k stmts) params before now → IsChangedBy s params now after → IsChangedByAll (take (k + 1) stmts) params before after
one_more_changes stmts k s params before now after h is all changed own outs =
    let was : Outcome = after_stmts (take k stmts) own params (so_far before outs) in
    let so : so_far now was.outs ≡ was = ap (λ x. so_far x was.outs) (sym (all own outs)) in
    let more : after_stmt s own params (so_far now was.outs) ≡ after_stmts (take (k + 1) stmts) own params (so_far before outs) =
    one_more stmts k s own params (so_far before outs) (so_far now was.outs) (after_stmt s own params (so_far now was.outs)) h is so refl in
    ap values_in (sym more) ∙ changed own was.outs
