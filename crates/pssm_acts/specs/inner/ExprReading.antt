-- What one token makes of an expression that has been read in part: the reader's step, and its first fault (this profile's choice).
use Rattle.std.specs.Prelude.{ℕ, List, [], ◌∷◌, length, Option, Some, None, Result, Ok, Err, nat_lt, if◌then◌else◌, position, bytes_eq}
use Rattle.pssm_acts.specs.declared.act_fault.ActFault.{ActFault}
pub use Rattle.pssm_acts.specs.Answers.{Answers}
use Rattle.pssm_acts.specs.declared.act_fault.ActFault.TheVariants.{Syntax, UnknownName, TooLong}
use Rattle.pssm_semantics.specs.declared.setting.Names.{Names}
use Rattle.pssm_acts.specs.declared.token.Kind.{Kind}
use Rattle.pssm_acts.specs.declared.token.Kind.TheVariants as kinds
use Rattle.pssm_acts.specs.declared.token.Piece.{Piece}
use Rattle.pssm_semantics.specs.declared.tree.Expr.{Expr}
use Rattle.pssm_semantics.specs.declared.tree.Expr.TheVariants.{Num, Var, Param}
use Rattle.pssm_semantics.specs.declared.tree.Expr.TheViews as views
use Rattle.pssm_acts.specs.declared.expr_reader.Left.{Left}
use Rattle.pssm_acts.specs.declared.expr_reader.Left.TheVariants.{Nothing, Plus, Minus}
use Rattle.pssm_acts.specs.declared.expr_reader.Level.{Level}
use Rattle.pssm_acts.specs.declared.expr_reader.Place.{Place}
use Rattle.pssm_acts.specs.declared.expr_reader.Place.TheVariants.{Wants, Has}
use Rattle.pssm_acts.specs.declared.expr_reader.ExprReader.{ExprReader}
use Rattle.pssm_acts.specs.inner.NumberReading.{number_read}
use Rattle.pssm_acts.specs.Tokens.{Token}

-- what comes after a step that succeeds
abbrev pub and_then : {A B : Type 0} → Result A ActFault → (A → Result B ActFault) → Result B ActFault
and_then (Ok x) f = f x
and_then (Err fault) f = Err fault

-- a token as it lies in a text
abbrev pub token_of : Piece → Token
token_of piece = record { at = piece.at; kind = piece.kind; word = piece.word.now }

-- an expression of which nothing has been read
abbrev pub fresh_expr : ExprReader
fresh_expr = record { outer = []; left = Nothing; place = Wants None }

-- the factors and an atom behind them
abbrev pub product_of : Option Expr → Expr → Expr
product_of None atom = atom
product_of (Some factor) atom = views.Prod factor atom

-- a product has been read
abbrev pub behind_product : List Level → Left → Expr → ExprReader
behind_product outer left term = record { outer = outer; left = left; place = Has term }

-- the left side of `+` or `-`, and a product behind it
abbrev pub sum_of : Left → Expr → Expr
sum_of Nothing term = term
sum_of (Plus left) term = views.Sum left term
sum_of (Minus left) term = views.Diff left term

-- the variable with a name
abbrev pub variable_read : ℕ → Option ℕ → Result Expr ActFault
variable_read at (Some x) = Ok (Var x)
variable_read at None = Err (UnknownName at)

-- the atom that one token is
abbrev pub atom_by : Names → Kind → ℕ → List ℕ → Result Expr ActFault
atom_by names kinds.Number at word = and_then (number_read at word) (λ n. Ok (Num n))
atom_by names kinds.Name at word = variable_read at (position (λ n. bytes_eq n word) names.vars)
atom_by names (kinds.Param k) at word = Ok (Param k)
atom_by names kind at word = Err (Syntax at)

unfoldable pub atom_of : Names → Token → Result Expr ActFault
atom_of names t = atom_by names t.kind t.at t.word

-- a parenthesis opens, where there is room for its level
unfoldable pub level_opened : ℕ → List Level → Level → Token → Result (List Level) ActFault
level_opened room outer level t = if nat_lt (length outer) room then Ok (level ∷ outer) else Err (TooLong t.at)

-- a token where an atom may stand
abbrev pub at_atom_by : Kind → Names → ℕ → List Level → Left → Option Expr → Token → Result ExprReader ActFault
at_atom_by kinds.Open names room outer left factor t =
    and_then (level_opened room outer (record { left = left; factor = factor }) t) (λ levels. Ok (record { outer = levels; left = Nothing; place = Wants None }))
at_atom_by kind names room outer left factor t =
    and_then (atom_of names t) (λ atom. Ok (behind_product outer left (product_of factor atom)))

unfoldable pub at_atom : Names → ℕ → List Level → Left → Option Expr → Token → Result ExprReader ActFault
at_atom names room outer left factor t = at_atom_by t.kind names room outer left factor t

-- a closing parenthesis behind a product
unfoldable pub closed : List Level → Left → Expr → ℕ → Result ExprReader ActFault
closed [] left term at = Err (Syntax at)
closed (level ∷ outer) left term at = Ok (behind_product outer level.left (product_of level.factor (sum_of left term)))

-- a token behind a product
abbrev pub after_atom_by : Kind → List Level → Left → Expr → ℕ → Result ExprReader ActFault
after_atom_by kinds.Times outer left term at = Ok (record { outer = outer; left = left; place = Wants (Some term) })
after_atom_by kinds.Plus outer left term at = Ok (record { outer = outer; left = Plus (sum_of left term); place = Wants None })
after_atom_by kinds.Minus outer left term at = Ok (record { outer = outer; left = Minus (sum_of left term); place = Wants None })
after_atom_by kinds.Close outer left term at = closed outer left term at
after_atom_by kind outer left term at = Err (Syntax at)

unfoldable pub after_atom : List Level → Left → Expr → Token → Result ExprReader ActFault
after_atom outer left term t = after_atom_by t.kind outer left term t.at

-- the next token of an expression; so many levels of parentheses may be open
abbrev pub expr_step_at : Place → Names → ℕ → ExprReader → Token → Result ExprReader ActFault
expr_step_at (Wants factor) names room reader t = at_atom names room reader.outer reader.left factor t
expr_step_at (Has term) names room reader t = after_atom reader.outer reader.left term t

unfoldable pub expr_step : Names → ℕ → ExprReader → Token → Result ExprReader ActFault
expr_step names room reader t = expr_step_at reader.place names room reader t

-- the expression that has been read, where it may end at this byte
abbrev pub expr_value_at : List Level → Left → Place → ℕ → Result Expr ActFault
expr_value_at [] left (Has term) at = Ok (sum_of left term)
expr_value_at (level ∷ outer) left (Has term) at = Err (Syntax at)
expr_value_at outer left (Wants factor) at = Err (Syntax at)

unfoldable pub expr_value : ExprReader → ℕ → Result Expr ActFault
expr_value reader at = expr_value_at reader.outer reader.left reader.place at
