-- How behaviours and guards are spelled: the one text of each (this profile's choice).
-- A number that names nothing has the empty name.
use Rattle.std.specs.Prelude.{ℕ, Bool, true, false, List, [], ◌∷◌, ◌++◌, Option, Some, None, slice_get, codes}
use Rattle.std.specs.List.{slice_index_or}
use Rattle.std.specs.Option.{option_map_or}
use Rattle.std.specs.Fmt.{decimal, signed_decimal}
use Rattle.pssm_model.specs.declared.ids.MarkId.{MarkId}
use Rattle.pssm_model.specs.declared.ids.SignalId.{SignalId}
use Rattle.pssm_semantics.specs.declared.entry.ObjectId.{ObjectId}
use Rattle.pssm_semantics.specs.declared.setting.Names.{Names}
use Rattle.pssm_semantics.specs.declared.tree.Act.{Act}
use Rattle.pssm_semantics.specs.declared.tree.Expr.{Expr, end_of-Expr, more_of-Expr}
use Rattle.pssm_semantics.specs.declared.tree.Expr.TheVariants.{Num, Var, Param, Sum', Diff', Prod'}
use Rattle.pssm_semantics.specs.declared.tree.Rel.{Rel}
use Rattle.pssm_semantics.specs.declared.tree.Rel.TheVariants.{Eq, Ne, Lt, Le, Gt, Ge}
use Rattle.pssm_semantics.specs.declared.tree.Cond.{Cond, end_of-Cond, more_of-Cond}
use Rattle.pssm_semantics.specs.declared.tree.Cond.TheVariants.{True, False, Compare, Not', And', Or'}
use Rattle.pssm_semantics.specs.declared.tree.Stmt.{Stmt, Assign, Choose', Send, Mark, Row_of-Stmt, end_of-Stmt, more_of-Stmt, Held-Stmt-Choose-2, None', Some'}

-- the name with a number
abbrev pub name_at : List (List ℕ) → ℕ → List ℕ
name_at names n = slice_index_or names n []

-- the name of a signal
abbrev pub signal_name : Names → SignalId → List ℕ
signal_name names signal = option_map_or (λ d. d.name) (slice_get names.signals signal.0) []

-- the name of the object that a signal is sent to, and `self` where it is the running one
abbrev pub receiver_name : Names → Option ObjectId → List ℕ
receiver_name names (Some object) = name_at names.objects object.0
receiver_name names None = codes "self"

-- a sum, a difference or a product
abbrev pub is_operation : Expr → Bool
is_operation (Sum' p a q b) = true
is_operation (Diff' p a q b) = true
is_operation (Prod' p a q b) = true
is_operation e = false

-- an operand that is itself a sum, a difference or a product stands in parentheses
abbrev pub in_parentheses : Bool → List ℕ → List ℕ
in_parentheses true text = codes "(" ++ text ++ codes ")"
in_parentheses false text = text

-- `5`, `x`, `$1`, `x + 1`, `x - (y - 1)`, `2 * x`
abbrev pub expr_text : Names → Expr → List ℕ
expr_text names (Num n) = signed_decimal n
expr_text names (Var x) = name_at names.vars x
expr_text names (Param k) = codes "$" ++ decimal k
expr_text names (Sum' p (more_of-Expr a end_of-Expr) q (more_of-Expr b end_of-Expr)) =
    in_parentheses (is_operation a) (expr_text names a) ++ codes " + " ++ in_parentheses (is_operation b) (expr_text names b)
expr_text names (Diff' p (more_of-Expr a end_of-Expr) q (more_of-Expr b end_of-Expr)) =
    in_parentheses (is_operation a) (expr_text names a) ++ codes " - " ++ in_parentheses (is_operation b) (expr_text names b)
expr_text names (Prod' p (more_of-Expr a end_of-Expr) q (more_of-Expr b end_of-Expr)) =
    in_parentheses (is_operation a) (expr_text names a) ++ codes " * " ++ in_parentheses (is_operation b) (expr_text names b)

-- a relation
abbrev pub rel_text : Rel → List ℕ
rel_text Eq = codes " == "
rel_text Ne = codes " != "
rel_text Lt = codes " < "
rel_text Le = codes " <= "
rel_text Gt = codes " > "
rel_text Ge = codes " >= "

-- one of several guards joined by `&&` or `||`
abbrev pub is_chain : Cond → Bool
is_chain (And' p a q b) = true
is_chain (Or' p a q b) = true
is_chain c = false

-- an operand that is itself joined by `&&` or `||` stands in brackets
abbrev pub in_brackets : Bool → List ℕ → List ℕ
in_brackets true text = codes "[" ++ text ++ codes "]"
in_brackets false text = text

-- `true`, `x < 1`, `!x < 1`, `x < 1 && true`, `[true || false] && ![true && false]`
abbrev pub cond_text : Names → Cond → List ℕ
cond_text names True = codes "true"
cond_text names False = codes "false"
cond_text names (Compare rel a b) = expr_text names a ++ rel_text rel ++ expr_text names b
cond_text names (Not' p (more_of-Cond a end_of-Cond)) = codes "!" ++ in_brackets (is_chain a) (cond_text names a)
cond_text names (And' p (more_of-Cond a end_of-Cond) q (more_of-Cond b end_of-Cond)) =
    in_brackets (is_chain a) (cond_text names a) ++ codes " && " ++ in_brackets (is_chain b) (cond_text names b)
cond_text names (Or' p (more_of-Cond a end_of-Cond) q (more_of-Cond b end_of-Cond)) =
    in_brackets (is_chain a) (cond_text names a) ++ codes " || " ++ in_brackets (is_chain b) (cond_text names b)

-- expressions, each with a comma and a space before it
abbrev pub further_text : Names → List Expr → List ℕ
further_text names [] = []
further_text names (e ∷ rest) = codes ", " ++ expr_text names e ++ further_text names rest

-- the arguments of a send or a mark
abbrev pub args_text : Names → List Expr → List ℕ
args_text names [] = []
args_text names (e ∷ rest) = expr_text names e ++ further_text names rest

-- `x := 1;`
abbrev pub assignment_text : Names → ℕ → Expr → List ℕ
assignment_text names x e = name_at names.vars x ++ codes " := " ++ expr_text names e ++ codes ";"

-- `send b.Go(1, x);`, `send self.Go();`
abbrev pub send_text : Names → Option ObjectId → SignalId → List Expr → List ℕ
send_text names to signal args = codes "send " ++ receiver_name names to ++ codes "." ++ signal_name names signal ++ codes "(" ++ args_text names args ++ codes ");"

-- `mark m();`, `mark m(1, x);`
abbrev pub mark_text : Names → List (List ℕ) → MarkId → List Expr → List ℕ
mark_text names marks mark args = codes "mark " ++ name_at marks mark.0 ++ codes "(" ++ args_text names args ++ codes ");"

-- a block: what opens it, its statements, and a brace
abbrev pub block_text : List ℕ → List ℕ → List ℕ
block_text opening stmts = opening ++ stmts ++ codes " }"

-- a statement; in a block each has a space before it, as in `if x < 1 { mark m(); x := 1; } else { }`
abbrev mutual
  pub stmt_text : Names → List (List ℕ) → Stmt → List ℕ
  stmt_text names marks (Assign x e) = assignment_text names x e
  stmt_text names marks (Choose' c shape body otherwise) =
      codes "if " ++ cond_text names c ++ block_text (codes " {") (row_text names marks body) ++ otherwise_text names marks otherwise
  stmt_text names marks (Send to signal args) = send_text names to signal args
  stmt_text names marks (Mark mark args) = mark_text names marks mark args

  pub row_text : {n : _} → Names → List (List ℕ) → Row_of-Stmt n → List ℕ
  row_text names marks end_of-Stmt = []
  row_text names marks (more_of-Stmt stmt rest) = codes " " ++ stmt_text names marks stmt ++ row_text names marks rest

  pub otherwise_text : Names → List (List ℕ) → Held-Stmt-Choose-2 → List ℕ
  otherwise_text names marks None' = []
  otherwise_text names marks (Some' shape block) = block_text (codes " else {") (row_text names marks block)

-- statements, each with a space before it
abbrev pub stmts_text : Names → List (List ℕ) → List Stmt → List ℕ
stmts_text names marks [] = []
stmts_text names marks (stmt ∷ rest) = codes " " ++ stmt_text names marks stmt ++ stmts_text names marks rest

-- statements, separated by one space
abbrev pub spaced_text : Names → List (List ℕ) → List Stmt → List ℕ
spaced_text names marks [] = []
spaced_text names marks (stmt ∷ rest) = stmt_text names marks stmt ++ stmts_text names marks rest

-- the statements of a behaviour
abbrev pub act_text : Names → List (List ℕ) → Act → List ℕ
act_text names marks act = spaced_text names marks act.stmts
