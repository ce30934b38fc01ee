-- Behaviours whose sends and marks have no more arguments than an output can hold.
use Rattle.std.specs.Prelude.{◌≤◌, length, All}
use Rattle.pssm_semantics.specs.declared.tree.Act.{Act}
use Rattle.pssm_semantics.specs.declared.tree.Stmt.{Stmt, Assign, Choose', Send, Mark, Row_of-Stmt, end_of-Stmt, more_of-Stmt, Held-Stmt-Choose-2, None', Some'}

-- Every send and mark in the statement and its blocks has at most eight arguments (this profile's choice).
abbrev mutual
  pub StmtArgsFit : Stmt → Type 0
  StmtArgsFit (Assign x e) = Unit {0}
  StmtArgsFit (Choose' c shape body otherwise) = BlockArgsFit body × OtherwiseArgsFit otherwise
  StmtArgsFit (Send to signal args) = length args ≤ 8
  StmtArgsFit (Mark mark args) = length args ≤ 8

  pub BlockArgsFit : {n : _} → Row_of-Stmt n → Type 0
  BlockArgsFit end_of-Stmt = Unit {0}
  BlockArgsFit (more_of-Stmt stmt rest) = StmtArgsFit stmt × BlockArgsFit rest

  pub OtherwiseArgsFit : Held-Stmt-Choose-2 → Type 0
  OtherwiseArgsFit None' = Unit {0}
  OtherwiseArgsFit (Some' shape block) = BlockArgsFit block

-- Every send and mark of the behaviour has at most eight arguments (this profile's choice).
abbrev pub ActArgsFit : Act → Type 0
ActArgsFit act = All StmtArgsFit act.stmts
