-- Whatever spells an expression is read as that expression.
use Rattle.std.proofs.Common.{◌≡◌, ◌+◌, ◌<◌, ℕ, ℤ, List, ◌∷◌, length, Option, Some, None, Result, Ok, refl, ap, ◌∙◌, arith, position, bytes_eq}
use Rattle.std.proofs.lemmas.Bool.{lt-ltb}
use Rattle.pssm_acts.specs.declared.act_fault.ActFault.{ActFault}
use Rattle.pssm_semantics.specs.declared.setting.Names.{Names}
use Rattle.pssm_acts.specs.declared.token.Kind.TheVariants as kinds
use Rattle.pssm_semantics.specs.declared.tree.Expr.{Expr}
use Rattle.pssm_semantics.specs.declared.tree.Expr.TheVariants.{Num, Var, Param}
use Rattle.pssm_acts.specs.declared.expr_reader.Left.{Left}
use Rattle.pssm_acts.specs.declared.expr_reader.Left.TheVariants.{Nothing, Plus, Minus}
use Rattle.pssm_acts.specs.declared.expr_reader.Level.{Level}
use Rattle.pssm_acts.specs.declared.expr_reader.Place.{Place}
use Rattle.pssm_acts.specs.declared.expr_reader.Place.TheVariants.{Wants, Has}
use Rattle.pssm_acts.specs.declared.expr_reader.ExprReader.{ExprReader}
use Rattle.pssm_acts.specs.inner.NumberReading.{number_read}
use Rattle.pssm_acts.specs.Tokens.{Token}
use Rattle.pssm_acts.specs.inner.ExprReading.{product_of, sum_of, atom_of, level_opened, at_atom, closed, after_atom, expr_step}
use Rattle.pssm_acts.specs.Grammar.{Part, Atom, Product, Sum, SpellsExpr, number, variable, parameter, parentheses, atom, times, product, plus, minus}
use Rattle.pssm_acts.proofs.NumberSpelled.{number_spelled}
use Rattle.pssm_acts.proofs.Readers.{Leads, next, one, onward}

abbrev pub expr_steps_in : Names → ℕ → ExprReader → Token → Result ExprReader ActFault
expr_steps_in names room reader t = expr_step names room reader t

abbrev pub reader_at : List Level → Left → Place → ExprReader
reader_at outer left place = record { outer = outer; left = left; place = place }

module _ (names : Names) (room : ℕ) (outer : List Level) (left : Left) where
  pub step_number : (factor : Option Expr) (t : Token) (n : ℤ) → t.kind ≡ kinds.Number → number_read t.at t.word ≡ Ok n
      → expr_step names room (reader_at outer left (Wants factor)) t ≡ Ok (reader_at outer left (Has (product_of factor (Num n))))
  unfolding expr_step at_atom atom_of
  step_number factor t n is read = simp (is, read) refl

  pub step_name : (factor : Option Expr) (t : Token) (x : ℕ) → t.kind ≡ kinds.Name → position (λ n. bytes_eq n t.word) names.vars ≡ Some x
      → expr_step names room (reader_at outer left (Wants factor)) t ≡ Ok (reader_at outer left (Has (product_of factor (Var x))))
  unfolding expr_step at_atom atom_of
  step_name factor t x is found = simp (is, found) refl

  pub step_parameter : (factor : Option Expr) (t : Token) (k : ℕ) → t.kind ≡ kinds.Param k
      → expr_step names room (reader_at outer left (Wants factor)) t ≡ Ok (reader_at outer left (Has (product_of factor (Param k))))
  unfolding expr_step at_atom atom_of
  step_parameter factor t k is = simp is refl

  pub step_open : (factor : Option Expr) (t : Token) → t.kind ≡ kinds.Open → length outer < room
      → expr_step names room (reader_at outer left (Wants factor)) t ≡ Ok (reader_at (record { left = left; factor = factor } ∷ outer) Nothing (Wants None))
  unfolding expr_step at_atom level_opened
  step_open factor t is within = simp (is, lt-ltb (length outer) room within) refl

  pub step_close : (level : Level) (term : Expr) (t : Token) → t.kind ≡ kinds.Close
      → expr_step names room (reader_at (level ∷ outer) left (Has term)) t ≡ Ok (reader_at outer level.left (Has (product_of level.factor (sum_of left term))))
  unfolding expr_step after_atom closed
  step_close level term t is = simp is refl

  pub step_times : (term : Expr) (t : Token) → t.kind ≡ kinds.Times → expr_step names room (reader_at outer left (Has term)) t ≡ Ok (reader_at outer left (Wants (Some term)))
  unfolding expr_step after_atom
  step_times term t is = simp is refl

  pub step_plus : (term : Expr) (t : Token) → t.kind ≡ kinds.Plus → expr_step names room (reader_at outer left (Has term)) t ≡ Ok (reader_at outer (Plus (sum_of left term)) (Wants None))
  unfolding expr_step after_atom
  step_plus term t is = simp is refl

  pub step_minus : (term : Expr) (t : Token) → t.kind ≡ kinds.Minus → expr_step names room (reader_at outer left (Has term)) t ≡ Ok (reader_at outer (Minus (sum_of left term)) (Wants None))
  unfolding expr_step after_atom
  step_minus term t is = simp is refl

-- what the tokens of a part do to a reader
pub record ReadsSum (names : Names) (room : ℕ) (outer : List Level) (ts : List Token) (e : Expr) : Type 0 where
  pub left : Left
  pub term : Expr
  pub run : Leads (expr_steps_in names room) (reader_at outer Nothing (Wants None)) ts (reader_at outer left (Has term))
  pub worth : sum_of left term ≡ e

abbrev pub Reads : Names → ℕ → List Level → Part → List Token → Expr → Type 0
Reads names room outer Atom ts e = (left : Left) (factor : Option Expr) → Leads (expr_steps_in names room) (reader_at outer left (Wants factor)) ts (reader_at outer left (Has (product_of factor e)))
Reads names room outer Product ts e = (left : Left) → Leads (expr_steps_in names room) (reader_at outer left (Wants None)) ts (reader_at outer left (Has e))
Reads names room outer Sum ts e = ReadsSum names room outer ts e

pub reads : {names : Names} {part : Part} {l : ℕ} {ts : List Token} {e : Expr} (room : ℕ) (outer : List Level) → length outer + l ≡ room → SpellsExpr names part l ts e → Reads names room outer part ts e
reads {names} room outer deep (number {l} {t} {n} is spelled) = λ left factor.
    one (step_number names room outer left factor t n is (number_spelled t.at t.word n spelled))
reads {names} room outer deep (variable {l} {t} {x} is found) = λ left factor. one (step_name names room outer left factor t x is found)
reads {names} room outer deep (parameter {l} {t} {k} is) = λ left factor. one (step_parameter names room outer left factor t k is)
reads {names} room outer deep (parentheses {l} {opening} closing {ts} {e} opens inner closes) = λ left factor.
    let level : Level = record { left = left; factor = factor } in
    let within : length (level ∷ outer) + l ≡ room = omega arith in
    let body : ReadsSum names room (level ∷ outer) ts e = reads room (level ∷ outer) within inner in
    next (step_open names room outer left factor opening opens (omega arith))
    (onward body.run
    (one (step_close names room outer body.left level body.term closing closes ∙ ap (λ x. Ok (reader_at outer left (Has (product_of factor x)))) body.worth)))
reads {names} room outer deep (atom a) = λ left. reads room outer deep a left None
reads {names} room outer deep (times {l} t {ts} {us} {a} {b} front is back) = λ left.
    onward (reads room outer deep front left)
    (next (step_times names room outer left a t is) (reads room outer deep back left (Some a)))
reads {names} room outer deep (product p) = record { left = Nothing; term = _; run = reads room outer deep p Nothing; worth = refl }
reads {names} room outer deep (plus {l} t {ts} {us} {a} {b} front is back) =
    let before : ReadsSum names room outer ts a = reads room outer deep front in
    record {
      left = Plus a;
      term = b;
      run = onward before.run
          (next (step_plus names room outer before.left before.term t is ∙ ap (λ x. Ok (reader_at outer (Plus x) (Wants None))) before.worth) (reads room outer deep back (Plus a)));
      worth = refl;
    }
reads {names} room outer deep (minus {l} t {ts} {us} {a} {b} front is back) =
    let before : ReadsSum names room outer ts a = reads room outer deep front in
    record {
      left = Minus a;
      term = b;
      run = onward before.run
          (next (step_minus names room outer before.left before.term t is ∙ ap (λ x. Ok (reader_at outer (Minus x) (Wants None))) before.worth) (reads room outer deep back (Minus a)));
      worth = refl;
    }
