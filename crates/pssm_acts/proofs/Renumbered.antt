-- Statements whose marks have other numbers: those that their names have where these marks are there and the names that are new are noted behind them.
use Rattle.std.proofs.Common.{◌≡◌, ℕ, List, [], ◌∷◌, ◌++◌, Option, Some, None, refl, ap, ◌∙◌}
use denote.Hole.Carrier.{hidden}
use Rattle.pssm_semantics.specs.declared.tree.Cond.{Cond}
use Rattle.pssm_semantics.specs.declared.tree.Stmt.{Stmt, Assign, Choose', Send, Mark, Row_of-Stmt, end_of-Stmt, more_of-Stmt, Held-Stmt-Choose-2, None', Some'}
use Rattle.pssm_semantics.specs.declared.tree.Stmt.TheBlock.{shape-the_row-Stmt-0, hidden-the_row-Stmt-0}
use Rattle.pssm_semantics.specs.declared.tree.Stmt.TheViews as views
use Rattle.pssm_acts.specs.ActText.{name_at}
use Rattle.pssm_acts.specs.Marks.{mark_of, with_mark}

-- A statement whose marks have their names by one list, numbered by another, and this list behind it.
abbrev mutual
  pub stmt_renumbered : List (List ℕ) → List (List ℕ) → Stmt → Stmt × List (List ℕ)
  stmt_renumbered named marks (Assign x e) = (Assign x e, marks)
  stmt_renumbered named marks (Choose' c shape body otherwise) =
      let first = row_renumbered named marks body in
      let second = otherwise_renumbered named first.1 otherwise in
      (views.Choose c first.0 second.0, second.1)
  stmt_renumbered named marks (Send to signal args) = (Send to signal args, marks)
  stmt_renumbered named marks (Mark mark args) = (Mark (mark_of marks (name_at named mark.0)) args, with_mark marks (name_at named mark.0))

  pub row_renumbered : {n : _} → List (List ℕ) → List (List ℕ) → Row_of-Stmt n → List Stmt × List (List ℕ)
  row_renumbered named marks end_of-Stmt = ([], marks)
  row_renumbered named marks (more_of-Stmt stmt rest) =
      let first = stmt_renumbered named marks stmt in
      let others = row_renumbered named first.1 rest in
      (first.0 ∷ others.0, others.1)

  pub otherwise_renumbered : List (List ℕ) → List (List ℕ) → Held-Stmt-Choose-2 → Option (List Stmt) × List (List ℕ)
  otherwise_renumbered named marks None' = (None, marks)
  otherwise_renumbered named marks (Some' shape block) = let inner = row_renumbered named marks block in (Some inner.0, inner.1)

-- so it is with several
abbrev pub stmts_renumbered : List (List ℕ) → List (List ℕ) → List Stmt → List Stmt × List (List ℕ)
stmts_renumbered named marks [] = ([], marks)
stmts_renumbered named marks (stmt ∷ rest) =
    let first = stmt_renumbered named marks stmt in
    let others = stmts_renumbered named first.1 rest in
    (first.0 ∷ others.0, others.1)

rows_renumbered : (named marks : List (List ℕ)) (body : List Stmt) → row_renumbered named marks (hidden-the_row-Stmt-0 body) ≡ stmts_renumbered named marks body
unfolding shape-the_row-Stmt-0 hidden-the_row-Stmt-0 hidden
rows_renumbered named marks [] = refl
rows_renumbered named marks (s ∷ rest) =
    let first = stmt_renumbered named marks s in ap (λ (others : List Stmt × List (List ℕ)). (first.0 ∷ others.0, others.1)) (rows_renumbered named first.1 rest)

behind_others : (named marks : List (List ℕ)) (block : List Stmt) (s : Stmt)
    → stmts_renumbered named marks (block ++ s ∷ []) ≡ (let front = stmts_renumbered named marks block in let last = stmt_renumbered named front.1 s in (front.0 ++ last.0 ∷ [], last.1))
behind_others named marks [] s = refl
behind_others named marks (x ∷ rest) s =
    let first = stmt_renumbered named marks x in ap (λ (others : List Stmt × List (List ℕ)). (first.0 ∷ others.0, others.1)) (behind_others named first.1 rest s)

-- One statement more is renumbered behind others.
pub one_more_renumbered : (named marks : List (List ℕ)) (block : List Stmt) (s : Stmt) (read : List Stmt) (left : List (List ℕ)) (r : Stmt) (last : List (List ℕ))
    → stmts_renumbered named marks block ≡ (read, left) → stmt_renumbered named left s ≡ (r, last) → stmts_renumbered named marks (block ++ s ∷ []) ≡ (read ++ r ∷ [], last)
one_more_renumbered named marks block s read left r last first second =
    behind_others named marks block s
    ∙ ap (λ (front : List Stmt × List (List ℕ)). let end = stmt_renumbered named front.1 s in (front.0 ++ end.0 ∷ [], end.1)) first
    ∙ ap (λ (end : Stmt × List (List ℕ)). (read ++ end.0 ∷ [], end.1)) second

-- An `if` is renumbered where its blocks are.
pub one_block_renumbered : (named marks : List (List ℕ)) (c : Cond) (body read : List Stmt) (left : List (List ℕ)) → stmts_renumbered named marks body ≡ (read, left)
    → stmt_renumbered named marks (views.Choose c body None) ≡ (views.Choose c read None, left)
one_block_renumbered named marks c body read left same =
    ap (λ (inner : List Stmt × List (List ℕ)). (views.Choose c inner.0 None, inner.1)) (rows_renumbered named marks body ∙ same)

pub two_blocks_renumbered : (named marks : List (List ℕ)) (c : Cond) (body rest read other : List Stmt) (middle left : List (List ℕ)) → stmts_renumbered named marks body ≡ (read, middle) → stmts_renumbered named middle rest ≡ (other, left)
    → stmt_renumbered named marks (views.Choose c body (Some rest)) ≡ (views.Choose c read (Some other), left)
two_blocks_renumbered named marks c body rest read other middle left first second =
    ap (λ (inner : List Stmt × List (List ℕ)). let last = row_renumbered named inner.1 (hidden-the_row-Stmt-0 rest) in (views.Choose c inner.0 (Some last.0), last.1)) (rows_renumbered named marks body ∙ first)
    ∙ ap (λ (last : List Stmt × List (List ℕ)). (views.Choose c read (Some last.0), last.1)) (rows_renumbered named middle rest ∙ second)
