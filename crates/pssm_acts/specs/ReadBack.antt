-- When a text that is written can be read back as the same tree (this profile's choice).
use Rattle.std.specs.Prelude.{◌≡◌, ◌≢◌, ◌≤◌, ◌<◌, ◌+◌, ◌^◌, ℕ, ℤ, pos, negsuc, Bool, true, false, List, [], ◌∷◌, length, map, max, Option, Some, None, All, AllPairs}
use Rattle.pssm_semantics.specs.declared.entry.ObjectId.{ObjectId}
use Rattle.pssm_semantics.specs.declared.setting.Names.{Names}
use Rattle.pssm_acts.specs.declared.token.Kind.TheVariants as kinds
use Rattle.pssm_semantics.specs.declared.tree.Act.{Act}
use Rattle.pssm_semantics.specs.declared.tree.Expr.{Expr, end_of-Expr, more_of-Expr}
use Rattle.pssm_semantics.specs.declared.tree.Expr.TheVariants.{Num, Var, Param, Sum', Diff', Prod'}
use Rattle.pssm_semantics.specs.declared.tree.Cond.{Cond, end_of-Cond, more_of-Cond}
use Rattle.pssm_semantics.specs.declared.tree.Cond.TheVariants.{True, False, Compare, Not', And', Or'}
use Rattle.pssm_semantics.specs.declared.tree.Stmt.{Stmt, Assign, Choose', Send, Mark, Row_of-Stmt, end_of-Stmt, more_of-Stmt, Held-Stmt-Choose-2, None', Some'}
use Rattle.pssm_acts.specs.ActText.{name_at, signal_name, is_operation, is_chain, cond_text, act_text}
use Rattle.pssm_semantics.specs.Fits.{CondFits, ActFits}
use Rattle.pssm_spelling.specs.Spelling.{IsName}
use Rattle.pssm_acts.specs.Tokens.{word_kind}
use Rattle.pssm_acts.specs.Vocabularies.{vocabulary}

-- names, no two of them alike
pub record AreNames (names : List (List ℕ)) : Type 0 where
  pub each : All IsName names
  pub differ : AllPairs (λ a b. a ≢ b) names

-- none of the words of the language
abbrev pub IsFree : List ℕ → Type 0
IsFree name = word_kind name ≡ kinds.Name

-- one level more where something stands in parentheses or brackets
abbrev pub levels_with : Bool → ℕ → ℕ
levels_with true levels = levels + 1
levels_with false levels = levels

-- how many levels of parentheses are open at once where an expression is written
abbrev pub expr_levels : Expr → ℕ
expr_levels (Num n) = 0
expr_levels (Var x) = 0
expr_levels (Param k) = 0
expr_levels (Sum' p (more_of-Expr a end_of-Expr) q (more_of-Expr b end_of-Expr)) = max (levels_with (is_operation a) (expr_levels a)) (levels_with (is_operation b) (expr_levels b))
expr_levels (Diff' p (more_of-Expr a end_of-Expr) q (more_of-Expr b end_of-Expr)) = max (levels_with (is_operation a) (expr_levels a)) (levels_with (is_operation b) (expr_levels b))
expr_levels (Prod' p (more_of-Expr a end_of-Expr) q (more_of-Expr b end_of-Expr)) = max (levels_with (is_operation a) (expr_levels a)) (levels_with (is_operation b) (expr_levels b))

-- how many levels of brackets and parentheses are open at once where a guard is written
abbrev pub cond_levels : Cond → ℕ
cond_levels True = 0
cond_levels False = 0
cond_levels (Compare rel a b) = max (expr_levels a) (expr_levels b)
cond_levels (Not' p (more_of-Cond c end_of-Cond)) = levels_with (is_chain c) (cond_levels c)
cond_levels (And' p (more_of-Cond c end_of-Cond) q (more_of-Cond d end_of-Cond)) = max (levels_with (is_chain c) (cond_levels c)) (levels_with (is_chain d) (cond_levels d))
cond_levels (Or' p (more_of-Cond c end_of-Cond) q (more_of-Cond d end_of-Cond)) = max (levels_with (is_chain c) (cond_levels c)) (levels_with (is_chain d) (cond_levels d))

-- the deepest of several expressions
abbrev pub args_levels : List Expr → ℕ
args_levels [] = 0
args_levels (e ∷ rest) = max (expr_levels e) (args_levels rest)

-- how many levels of blocks, brackets and parentheses are open at once where a statement is written
abbrev mutual
  pub stmt_levels : Stmt → ℕ
  stmt_levels (Assign x e) = expr_levels e
  stmt_levels (Choose' c shape body otherwise) = max (cond_levels c) (max (block_levels body) (otherwise_levels otherwise) + 1)
  stmt_levels (Send to signal args) = args_levels args + 1
  stmt_levels (Mark mark args) = args_levels args + 1

  pub block_levels : {n : _} → Row_of-Stmt n → ℕ
  block_levels end_of-Stmt = 0
  block_levels (more_of-Stmt stmt rest) = max (stmt_levels stmt) (block_levels rest)

  pub otherwise_levels : Held-Stmt-Choose-2 → ℕ
  otherwise_levels None' = 0
  otherwise_levels (Some' shape block) = block_levels block

-- the deepest of the statements of a behaviour
abbrev pub stmts_levels : List Stmt → ℕ
stmts_levels [] = 0
stmts_levels (stmt ∷ rest) = max (stmt_levels stmt) (stmts_levels rest)

-- a number of 64 bits, with a sign
abbrev pub IsShortNumber : ℤ → Type 0
IsShortNumber (pos n) = n < 2 ^ 63
IsShortNumber (negsuc n) = n < 2 ^ 63

-- The numbers in an expression have 64 bits, and the names in it are free.
abbrev pub IsPlain : Names → Expr → Type 0
IsPlain names (Num n) = IsShortNumber n
IsPlain names (Var x) = IsFree (name_at names.vars x)
IsPlain names (Param k) = Unit {0}
IsPlain names (Sum' p (more_of-Expr a end_of-Expr) q (more_of-Expr b end_of-Expr)) = IsPlain names a × IsPlain names b
IsPlain names (Diff' p (more_of-Expr a end_of-Expr) q (more_of-Expr b end_of-Expr)) = IsPlain names a × IsPlain names b
IsPlain names (Prod' p (more_of-Expr a end_of-Expr) q (more_of-Expr b end_of-Expr)) = IsPlain names a × IsPlain names b

-- The numbers in a guard have 64 bits, and the names in it are free.
abbrev pub GuardIsPlain : Names → Cond → Type 0
GuardIsPlain names True = Unit {0}
GuardIsPlain names False = Unit {0}
GuardIsPlain names (Compare rel a b) = IsPlain names a × IsPlain names b
GuardIsPlain names (Not' p (more_of-Cond c end_of-Cond)) = GuardIsPlain names c
GuardIsPlain names (And' p (more_of-Cond c end_of-Cond) q (more_of-Cond d end_of-Cond)) = GuardIsPlain names c × GuardIsPlain names d
GuardIsPlain names (Or' p (more_of-Cond c end_of-Cond) q (more_of-Cond d end_of-Cond)) = GuardIsPlain names c × GuardIsPlain names d

-- The object that a signal is sent to has a free name, where it is not the running one.
abbrev pub ReceiverIsFree : Names → Option ObjectId → Type 0
ReceiverIsFree names (Some object) = IsFree (name_at names.objects object.0)
ReceiverIsFree names None = Unit {0}

-- The numbers in a statement and its blocks have 64 bits, and the names in it are free.
abbrev mutual
  pub StmtIsPlain : Names → List (List ℕ) → Stmt → Type 0
  StmtIsPlain names marks (Assign x e) = IsFree (name_at names.vars x) × IsPlain names e
  StmtIsPlain names marks (Choose' c shape body otherwise) = GuardIsPlain names c × BlockIsPlain names marks body × OtherwiseIsPlain names marks otherwise
  StmtIsPlain names marks (Send to signal args) = ReceiverIsFree names to × IsFree (signal_name names signal) × All (IsPlain names) args
  StmtIsPlain names marks (Mark mark args) = IsFree (name_at marks mark.0) × All (IsPlain names) args

  pub BlockIsPlain : {n : _} → Names → List (List ℕ) → Row_of-Stmt n → Type 0
  BlockIsPlain names marks end_of-Stmt = Unit {0}
  BlockIsPlain names marks (more_of-Stmt stmt rest) = StmtIsPlain names marks stmt × BlockIsPlain names marks rest

  pub OtherwiseIsPlain : Names → List (List ℕ) → Held-Stmt-Choose-2 → Type 0
  OtherwiseIsPlain names marks None' = Unit {0}
  OtherwiseIsPlain names marks (Some' shape block) = BlockIsPlain names marks block

-- What is written of the guard can be read back: the names of variables are names and differ, those in it are no words of the language, its numbers are in range, and the text keeps within the limits.
pub record GuardCanBeReadBack (names : Names) (cond : Cond) : Type 0 where
  pub vars : AreNames names.vars
  pub fits : CondFits (length names.vars) cond
  pub plain : GuardIsPlain names cond
  pub short : length (cond_text names cond) ≤ 4096
  pub shallow : cond_levels cond ≤ 16

-- What is written of the behaviour can be read back: names are names and differ in their kind, those in it are no words of the language, its numbers are in range, and the text keeps within the limits.
pub record CanBeReadBack (names : Names) (marks : List (List ℕ)) (act : Act) : Type 0 where
  pub vars : AreNames names.vars
  pub objects : AreNames names.objects
  pub signals : AreNames (map (λ d. d.name) names.signals)
  pub marks' : AreNames marks
  pub fits : ActFits (vocabulary names marks) act
  pub plain : All (StmtIsPlain names marks) act.stmts
  pub short : length (act_text names marks act) ≤ 4096
  pub shallow : stmts_levels act.stmts ≤ 16
