-- What a block of statements in code is to a definition that goes by cases: a row of them.
use Rattle.std.proofs.Common.{◌≡◌, ℕ, zero, suc, ◌+◌, ◌<◌, ◌≤◌, refl, sym, ap, ◌∙◌, subst, arith, List, [], ◌∷◌, ◌++◌, length, take, slice_index_or, All, true, false, Option, Some, None}
use Rattle.std.proofs.lemmas.List.{take_more}
use denote.Hole.Carrier.{hidden}
use Rattle.pssm_semantics.specs.declared.entry.ObjectId.{ObjectId}
use Rattle.pssm_semantics.specs.declared.setting.Outcome.{Outcome}
use Rattle.pssm_semantics.specs.declared.tree.Cond.{Cond}
use Rattle.pssm_semantics.specs.declared.tree.Stmt.{Stmt}
use Rattle.pssm_semantics.specs.declared.tree.Stmt.TheViews as views
use Rattle.pssm_semantics.specs.declared.tree.Stmt.TheBlock.{shape-the_row-Stmt-0, hidden-the_row-Stmt-0}
use Rattle.pssm_semantics.specs.Arguments.{StmtArgsFit, BlockArgsFit}
use Rattle.pssm_semantics.specs.Fits.{stmt_count, block_count, stmts_count}
use Rattle.pssm_semantics.specs.Values.{Params, truth_of, after_stmt, after_block, after_stmts}

block_after : (body : List Stmt) (own : ObjectId) (params : Params) (was : Outcome) → after_block (hidden-the_row-Stmt-0 body) own params was ≡ after_stmts body own params was
unfolding shape-the_row-Stmt-0 hidden-the_row-Stmt-0 hidden
block_after [] own params was = refl
block_after (s ∷ rest) own params was = block_after rest own params (after_stmt s own params was)

pub block_counts : (body : List Stmt) → block_count (hidden-the_row-Stmt-0 body) ≡ stmts_count body
unfolding shape-the_row-Stmt-0 hidden-the_row-Stmt-0 hidden
block_counts [] = refl
block_counts (s ∷ rest) = ap (λ n. stmt_count s + n) (block_counts rest)

args_at : (s : Stmt) (rest : List Stmt) → StmtArgsFit s → All StmtArgsFit rest → (k : ℕ) (d : Stmt) → k < length (s ∷ rest) → StmtArgsFit (slice_index_or (s ∷ rest) k d)
args_at s rest one others zero d h = one
args_at s rest one others (suc k) d h = others k d (omega arith)

block_args : (body : List Stmt) → BlockArgsFit (hidden-the_row-Stmt-0 body) → All StmtArgsFit body
unfolding shape-the_row-Stmt-0 hidden-the_row-Stmt-0 hidden
block_args [] fits = λ k d h. absurd (omega arith)
block_args (s ∷ rest) fits = args_at s rest fits.0 (block_args rest fits.1)

-- And back.
block_fits : (body : List Stmt) → All StmtArgsFit body → BlockArgsFit (hidden-the_row-Stmt-0 body)
unfolding shape-the_row-Stmt-0 hidden-the_row-Stmt-0 hidden
block_fits [] all = tt
block_fits (s ∷ rest) all = (all zero s (omega arith), block_fits rest (λ k d h. all (suc k) d (omega arith)))

-- An `if` has fitting arguments where its blocks have.
pub Choose_fits : (s : Stmt) (c : Cond) (body block : List Stmt) (o : Option (List Stmt)) → s ≡ views.Choose c body o → o ≡ None → block ≡ body
    → All StmtArgsFit block → StmtArgsFit s
Choose_fits s c body block o is other same all =
    let All_of : List Stmt → Type 0 = λ xs. All StmtArgsFit xs in
    let Fits : Stmt → Type 0 = λ x. StmtArgsFit x in
    let parts : StmtArgsFit (views.Choose c body None) = (block_fits body (subst All_of same all), tt) in
    subst Fits (sym (is ∙ ap (λ x. views.Choose c body x) other)) parts

pub Choose_else_fits : (s : Stmt) (c : Cond) (body rest block more : List Stmt) (o : Option (List Stmt)) → s ≡ views.Choose c body o → o ≡ Some rest
    → block ≡ body → more ≡ rest → All StmtArgsFit block → All StmtArgsFit more → StmtArgsFit s
Choose_else_fits s c body rest block more o is other same too all others =
    let All_of : List Stmt → Type 0 = λ xs. All StmtArgsFit xs in
    let Fits : Stmt → Type 0 = λ x. StmtArgsFit x in
    let parts : StmtArgsFit (views.Choose c body (Some rest)) = (block_fits body (subst All_of same all), block_fits rest (subst All_of too others)) in
    subst Fits (sym (is ∙ ap (λ x. views.Choose c body x) other)) parts

-- An `if` whose condition holds runs its first block.
pub runs_first : (s : Stmt) (c : Cond) (body block : List Stmt) (o : Option (List Stmt)) (own : ObjectId) (params : Params) (was : Outcome) → s ≡ views.Choose c body o
    → block ≡ body → truth_of c was.store params ≡ true → after_stmts block own params was ≡ after_stmt s own params was
runs_first s c body block o own params was is same holds = rw (is, same, holds) (sym (block_after body own params was))

-- One whose condition fails runs the other block.
pub runs_other : (s : Stmt) (c : Cond) (body rest block : List Stmt) (o : Option (List Stmt)) (own : ObjectId) (params : Params) (was : Outcome)
    → s ≡ views.Choose c body o → o ≡ Some rest → block ≡ rest → truth_of c was.store params ≡ false → after_stmts block own params was ≡ after_stmt s own params was
runs_other s c body rest block o own params was is other same fails = rw (is, other, same, fails) (sym (block_after rest own params was))

-- The blocks of a statement are smaller than it.
pub first_smaller : (s : Stmt) (c : Cond) (body block : List Stmt) (o : Option (List Stmt)) → s ≡ views.Choose c body o → block ≡ body → stmts_count block < stmt_count s
first_smaller s c body block o is same = rw (is, same) (omega (arith, block_counts body))

pub other_smaller : (s : Stmt) (c : Cond) (body rest block : List Stmt) (o : Option (List Stmt)) → s ≡ views.Choose c body o → o ≡ Some rest → block ≡ rest
    → stmts_count block < stmt_count s
other_smaller s c body rest block o is other same =
    let whole : s ≡ views.Choose c body (Some rest) = is ∙ ap (λ x. views.Choose c body x) other in
    rw (whole, same) (omega (arith, block_counts rest))

-- The blocks of a statement have fitting arguments, and are smaller than it.
pub record IsPart (block : List Stmt) (s : Stmt) : Type 0 where
  pub args : All StmtArgsFit block
  pub count : stmts_count block < stmt_count s

pub first_part : (s : Stmt) (c : Cond) (body block : List Stmt) (o : Option (List Stmt)) → s ≡ views.Choose c body o → block ≡ body → StmtArgsFit s → IsPart block s
first_part s c body block o is same fits =
    let Fits : Stmt → Type 0 = λ x. StmtArgsFit x in
    let parts : StmtArgsFit (views.Choose c body o) = subst Fits is fits in
    record { args = rw same (block_args body parts.0); count = first_smaller s c body block o is same }

pub other_part : (s : Stmt) (c : Cond) (body rest block : List Stmt) (o : Option (List Stmt)) → s ≡ views.Choose c body o → o ≡ Some rest → block ≡ rest → StmtArgsFit s
    → IsPart block s
other_part s c body rest block o is other same fits =
    let Fits : Stmt → Type 0 = λ x. StmtArgsFit x in
    let whole : s ≡ views.Choose c body (Some rest) = is ∙ ap (λ x. views.Choose c body x) other in
    let parts : StmtArgsFit (views.Choose c body (Some rest)) = subst Fits whole fits in
    record { args = rw same (block_args rest parts.1); count = other_smaller s c body rest block o is other same }

-- A statement of a block is no more than the block, and has fitting arguments.
stmts_count-at : (stmts : List Stmt) (k : ℕ) (d : Stmt) → k < length stmts → stmt_count (slice_index_or stmts k d) ≤ stmts_count stmts
stmts_count-at [] k d h = absurd (omega arith)
stmts_count-at (s ∷ rest) zero d h = omega arith
stmts_count-at (s ∷ rest) (suc k) d h = omega (arith, stmts_count-at rest k d (omega arith))

pub one_smaller : (stmts : List Stmt) (k : ℕ) (s : Stmt) → k < length stmts → s ≡ slice_index_or stmts k s → stmt_count s ≤ stmts_count stmts
one_smaller stmts k s h is =
    let At : Stmt → Type 0 = λ x. stmt_count x ≤ stmts_count stmts in
    subst At (sym is) (stmts_count-at stmts k s h)

pub record IsOneOf (s : Stmt) (stmts : List Stmt) : Type 0 where
  pub args : StmtArgsFit s
  pub count : stmt_count s ≤ stmts_count stmts

pub one_of : (stmts : List Stmt) (k : ℕ) (s : Stmt) → All StmtArgsFit stmts → k < length stmts → s ≡ slice_index_or stmts k s → IsOneOf s stmts
one_of stmts k s fits h is =
    let At : Stmt → Type 0 = λ x. StmtArgsFit x in
    record { args = subst At (sym is) (fits k s h); count = one_smaller stmts k s h is }

-- One statement more takes effect on what the others left.
after_stmts-append : (stmts : List Stmt) (s : Stmt) (own : ObjectId) (params : Params) (was : Outcome)
    → after_stmts (stmts ++ s ∷ []) own params was ≡ after_stmt s own params (after_stmts stmts own params was)
after_stmts-append [] s own params was = refl
after_stmts-append (x ∷ rest) s own params was = after_stmts-append rest s own params (after_stmt x own params was)

pub one_more : (stmts : List Stmt) (k : ℕ) (s : Stmt) (own : ObjectId) (params : Params) (start was after : Outcome) → k < length stmts → s ≡ slice_index_or stmts k s
    → was ≡ after_stmts (take k stmts) own params start → after ≡ after_stmt s own params was → after ≡ after_stmts (take (k + 1) stmts) own params start
one_more stmts k s own params start was after h is so_far step =
    step ∙ ap (after_stmt s own params) so_far ∙ sym (after_stmts-append (take k stmts) s own params start)
    ∙ ap (λ x. after_stmts (take k stmts ++ x ∷ []) own params start) is ∙ ap (λ xs. after_stmts xs own params start) (sym (take_more stmts k s h))
