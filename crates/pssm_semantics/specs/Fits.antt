-- Behaviours and guards whose numbers are in range.
use Rattle.std.specs.Prelude.{◌≤◌, ◌<◌, ◌+◌, ℕ, List, [], ◌∷◌, length, Option, All}
use Rattle.pssm_model.specs.declared.ids.SignalId.{SignalId}
use Rattle.pssm_semantics.specs.declared.entry.ObjectId.{ObjectId}
use Rattle.pssm_semantics.specs.declared.tree.Act.{Act}
use Rattle.pssm_semantics.specs.declared.tree.Expr.{Expr, end_of-Expr, more_of-Expr}
use Rattle.pssm_semantics.specs.declared.tree.Expr.TheVariants.{Num, Var, Param, Sum', Diff', Prod'}
use Rattle.pssm_semantics.specs.declared.tree.Cond.{Cond, end_of-Cond, more_of-Cond}
use Rattle.pssm_semantics.specs.declared.tree.Cond.TheVariants.{True, False, Compare, Not', And', Or'}
use Rattle.pssm_semantics.specs.declared.tree.Stmt.{Stmt, Assign, Choose', Send, Mark, Row_of-Stmt, end_of-Stmt, more_of-Stmt, Held-Stmt-Choose-2, None', Some'}

-- what the trees of a class may name: so many variables and marks, and these sends (this profile's choice)
pub record Vocabulary : Type 1 where
  pub vars : ℕ
  pub marks : ℕ
  pub Sends : Option ObjectId → SignalId → ℕ → Type 0

-- The numbers in an expression are in range (this profile's choice).
abbrev pub ExprFits : ℕ → Expr → Type 0
ExprFits vars (Num n) = Unit {0}
ExprFits vars (Var x) = x < vars
ExprFits vars (Param k) = (1 ≤ k) × (k ≤ 8)
ExprFits vars (Sum' p (more_of-Expr a end_of-Expr) q (more_of-Expr b end_of-Expr)) = ExprFits vars a × ExprFits vars b
ExprFits vars (Diff' p (more_of-Expr a end_of-Expr) q (more_of-Expr b end_of-Expr)) = ExprFits vars a × ExprFits vars b
ExprFits vars (Prod' p (more_of-Expr a end_of-Expr) q (more_of-Expr b end_of-Expr)) = ExprFits vars a × ExprFits vars b

-- The numbers in a guard are in range (this profile's choice).
abbrev pub CondFits : ℕ → Cond → Type 0
CondFits vars True = Unit {0}
CondFits vars False = Unit {0}
CondFits vars (Compare rel a b) = ExprFits vars a × ExprFits vars b
CondFits vars (Not' p (more_of-Cond c end_of-Cond)) = CondFits vars c
CondFits vars (And' p (more_of-Cond c end_of-Cond) q (more_of-Cond d end_of-Cond)) = CondFits vars c × CondFits vars d
CondFits vars (Or' p (more_of-Cond c end_of-Cond) q (more_of-Cond d end_of-Cond)) = CondFits vars c × CondFits vars d

-- The numbers in a statement and its blocks are in range (this profile's choice).
abbrev mutual
  pub StmtFits : Vocabulary → Stmt → Type 0
  StmtFits vocabulary (Assign x e) = (x < vocabulary.vars) × ExprFits vocabulary.vars e
  StmtFits vocabulary (Choose' c shape body otherwise) = CondFits vocabulary.vars c × BlockFits vocabulary body × OtherwiseFits vocabulary otherwise
  StmtFits vocabulary (Send to signal args) = vocabulary.Sends to signal (length args) × All (ExprFits vocabulary.vars) args
  StmtFits vocabulary (Mark mark args) = (mark.0 < vocabulary.marks) × (length args ≤ 8) × All (ExprFits vocabulary.vars) args

  pub BlockFits : {n : _} → Vocabulary → Row_of-Stmt n → Type 0
  BlockFits vocabulary end_of-Stmt = Unit {0}
  BlockFits vocabulary (more_of-Stmt stmt rest) = StmtFits vocabulary stmt × BlockFits vocabulary rest

  pub OtherwiseFits : Vocabulary → Held-Stmt-Choose-2 → Type 0
  OtherwiseFits vocabulary None' = Unit {0}
  OtherwiseFits vocabulary (Some' shape block) = BlockFits vocabulary block

-- how many statements a statement is, those in its blocks counted (this profile's choice)
abbrev mutual
  pub stmt_count : Stmt → ℕ
  stmt_count (Assign x e) = 1
  stmt_count (Choose' c shape body otherwise) = 1 + block_count body + otherwise_count otherwise
  stmt_count (Send to signal args) = 1
  stmt_count (Mark mark args) = 1

  pub block_count : {n : _} → Row_of-Stmt n → ℕ
  block_count end_of-Stmt = 0
  block_count (more_of-Stmt stmt rest) = stmt_count stmt + block_count rest

  pub otherwise_count : Held-Stmt-Choose-2 → ℕ
  otherwise_count None' = 0
  otherwise_count (Some' shape block) = block_count block

-- the statements of a behaviour, those in blocks counted (this profile's choice)
abbrev pub stmts_count : List Stmt → ℕ
stmts_count [] = 0
stmts_count (stmt ∷ rest) = stmt_count stmt + stmts_count rest

-- a behaviour whose numbers are in range and that has at most 64 statements (this profile's choice)
abbrev pub ActFits : Vocabulary → Act → Type 0
ActFits vocabulary act = All (StmtFits vocabulary) act.stmts × (stmts_count act.stmts ≤ 64)
