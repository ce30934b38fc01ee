-- What is written of an expression spells it.
use Rattle.std.proofs.Common.{◌≡◌, ◌≤◌, ℕ, suc, zero, Bool, true, false, List, [], ◌∷◌, ◌++◌, length, refl, sym, subst, arith, codes, position, bytes_eq, slice_index_or, Some, max}
use Rattle.std.proofs.Math.Nat.{le-max_left, le-max_right}
use Rattle.pssm_semantics.specs.declared.setting.Names.{Names}
use Rattle.pssm_semantics.specs.declared.tree.Expr.{Expr, end_of-Expr, more_of-Expr}
use Rattle.pssm_semantics.specs.declared.tree.Expr.TheVariants.{Num, Var, Param, Sum', Diff', Prod'}
use Rattle.pssm_acts.specs.ActText.{is_operation, in_parentheses, expr_text}
use Rattle.pssm_acts.specs.inner.Operands.{operand_text}
use Rattle.pssm_semantics.specs.Fits.{ExprFits}
use Rattle.pssm_acts.specs.Grammar.{Part, Atom, Sum, SpellsExpr, number, variable, parameter, parentheses, atom, times, product, plus, minus}
use Rattle.pssm_spelling.specs.Numbers.{SpellsNumber}
use Rattle.pssm_acts.specs.ReadBack.{AreNames, levels_with, expr_levels, IsPlain}
use Rattle.pssm_spelling.specs.Spelling.{continues_name, IsName}
use Rattle.pssm_spelling.specs.SpellingReading.{EndsRun}
use Rattle.pssm_acts.specs.Tokens.{Token}
use Rattle.pssm_acts.specs.declared.token.Kind.{Kind}
use Rattle.pssm_acts.proofs.FrontLaws.{Begins, name_begins, number_begins, written_number, parameter_begins, name_unequal, number_unequal}
use Rattle.pssm_acts.proofs.NameLaws.{name_found}
use Rattle.pssm_acts.proofs.SignLaws.{plus_begins, minus_begins, times_begins, open_begins, close_begins}
use Rattle.pssm_acts.proofs.Written.{BeginsWith, spelled_as, one_token, enclosed, operands}
use Rattle.pssm_semantics.proofs.Views.{Sum-is, Diff-is, Prod-is}

-- The bytes begin with what spells an expression as such a part, and others are left behind it.
abbrev pub BeginsExpr : Names → Part → ℕ → Expr → ℕ → List ℕ → List ℕ → Type 0
BeginsExpr names part l e end bytes rest = BeginsWith (λ ts. SpellsExpr names part l ts e) end true bytes rest

-- as which part an expression is spelled
abbrev pub part_of : Bool → Part
part_of true = Sum
part_of false = Atom

-- the levels within parentheses, where there are some, and what is left behind an expression in them
abbrev pub level_in : Bool → ℕ → ℕ
level_in true (suc l) = l
level_in true zero = zero
level_in false l = l

abbrev pub rest_in : Bool → List ℕ → List ℕ → List ℕ
rest_in true closing rest = closing ++ rest
rest_in false closing rest = rest

pub within_deep : (b : Bool) (n l : ℕ) → levels_with b n ≤ l → n ≤ level_in b l
within_deep true n zero deep = absurd (omega arith)
within_deep true n (suc l) deep = omega arith
within_deep false n l deep = deep

pub within_ends : (b : Bool) (rest : List ℕ) → EndsRun continues_name rest → EndsRun continues_name (rest_in b (codes ")") rest)
within_ends true rest ends = refl
within_ends false rest ends = ends

module _ (names : Names) (end : ℕ) where
  -- An operation as an operand stands in parentheses.
  operand : (b : Bool) (n : ℕ) (e : Expr) (l : ℕ) (text rest : List ℕ) → levels_with b n ≤ l
      → BeginsExpr names (part_of b) (level_in b l) e end (text ++ rest_in b (codes ")") rest) (rest_in b (codes ")") rest) → BeginsExpr names Atom l e end (in_parentheses b text ++ rest) rest
  operand true n e zero text rest deep inner = absurd (omega arith)
  operand true n e (suc l) text rest deep inner =
      enclosed (codes "(") text (codes ")") rest (open_begins end (text ++ (codes ")" ++ rest)) false) inner (close_begins end rest true) refl (λ opening closing ts opens spelled closes. parentheses closing opens spelled closes)
  operand false n e l text rest deep inner = inner

  -- what is written of an expression, wherever it stands
  abbrev Written : Expr → Type 0
  Written e = (l : ℕ) (rest : List ℕ) → expr_levels e ≤ l → EndsRun continues_name rest → BeginsExpr names (part_of (is_operation e)) l e end (expr_text names e ++ rest) rest

  as_operand : (e : Expr) → Written e → (l : ℕ) (rest : List ℕ) → levels_with (is_operation e) (expr_levels e) ≤ l → EndsRun continues_name rest → BeginsExpr names Atom l e end (operand_text names e ++ rest) rest
  as_operand e written l rest deep ends =
      operand (is_operation e) (expr_levels e) e l (expr_text names e) rest deep
      (written (level_in (is_operation e) l) (rest_in (is_operation e) (codes ")") rest) (within_deep (is_operation e) (expr_levels e) l deep) (within_ends (is_operation e) rest ends))

  -- two operands with a sign between them
  operation : (a b e : Expr) (sign : List ℕ) {kind : Kind} {word : List ℕ} → Written a → Written b → (l : ℕ) (rest : List ℕ)
      → max (levels_with (is_operation a) (expr_levels a)) (levels_with (is_operation b) (expr_levels b)) ≤ l → EndsRun continues_name rest
      → ((rest : List ℕ) → EndsRun continues_name (sign ++ rest)) → ((rest : List ℕ) → Begins end true (sign ++ rest) kind word false rest)
      → ((t : Token) (ts us : List Token) → SpellsExpr names Atom l ts a → t.kind ≡ kind → SpellsExpr names Atom l us b → SpellsExpr names Sum l (ts ++ t ∷ us) e)
      → BeginsExpr names Sum l e end ((operand_text names a ++ sign ++ operand_text names b) ++ rest) rest
  operation a b e sign first second l rest deep ends stops begins make =
      let left_most = le-max_left (levels_with (is_operation a) (expr_levels a)) (levels_with (is_operation b) (expr_levels b)) in
      let right_most = le-max_right (levels_with (is_operation a) (expr_levels a)) (levels_with (is_operation b) (expr_levels b)) in
      operands (operand_text names a) sign (operand_text names b) rest
      (as_operand a first l (sign ++ (operand_text names b ++ rest)) (omega (arith, left_most, deep)) (stops (operand_text names b ++ rest)))
      (begins (operand_text names b ++ rest)) (as_operand b second l rest (omega (arith, right_most, deep)) ends) make

module _ (names : Names) (vars : AreNames names.vars) (end : ℕ) where
  -- What is written of an expression spells it, whatever stands behind that does not go on with a name.
  pub expr_begins : (e : Expr) (l : ℕ) (rest : List ℕ) → ExprFits (length names.vars) e → IsPlain names e → expr_levels e ≤ l → EndsRun continues_name rest
      → BeginsExpr names (part_of (is_operation e)) l e end (expr_text names e ++ rest) rest
  expr_begins (Num n) l rest fits plain deep ends =
      one_token (number_begins end n rest plain ends) (number_unequal n rest plain) (λ t is worded. number is (subst (λ w. SpellsNumber w n) (sym worded) (written_number n plain)))
  expr_begins (Var x) l rest fits plain deep ends =
      let name : List ℕ = slice_index_or names.vars x [] in
      let is_name : IsName name = vars.each x [] fits in
      one_token (name_begins end false name rest is_name plain ends) (name_unequal name rest is_name)
      (λ t is worded. variable is (subst (λ w. position (λ n. bytes_eq n w) names.vars ≡ Some x) (sym worded) (name_found names.vars x fits vars.differ)))
  expr_begins (Param k) l rest fits plain deep ends = one_token (parameter_begins end false k rest fits.0 fits.1) refl (λ t is worded. parameter is)
  expr_begins (Sum' p (more_of-Expr a end_of-Expr) q (more_of-Expr b end_of-Expr)) l rest fits plain deep ends =
      operation names end a b (Sum' p (more_of-Expr a end_of-Expr) q (more_of-Expr b end_of-Expr)) (codes " + ") (λ l rest. expr_begins a l rest fits.0 plain.0) (λ l rest. expr_begins b l rest fits.1 plain.1) l rest deep ends
      (λ rest. refl) (λ rest. plus_begins end rest) (λ t ts us left is right. subst (SpellsExpr names Sum l (ts ++ t ∷ us)) (Sum-is a b) (plus t (product (atom left)) is (atom right)))
  expr_begins (Diff' p (more_of-Expr a end_of-Expr) q (more_of-Expr b end_of-Expr)) l rest fits plain deep ends =
      operation names end a b (Diff' p (more_of-Expr a end_of-Expr) q (more_of-Expr b end_of-Expr)) (codes " - ") (λ l rest. expr_begins a l rest fits.0 plain.0) (λ l rest. expr_begins b l rest fits.1 plain.1) l rest deep ends
      (λ rest. refl) (λ rest. minus_begins end rest) (λ t ts us left is right. subst (SpellsExpr names Sum l (ts ++ t ∷ us)) (Diff-is a b) (minus t (product (atom left)) is (atom right)))
  expr_begins (Prod' p (more_of-Expr a end_of-Expr) q (more_of-Expr b end_of-Expr)) l rest fits plain deep ends =
      operation names end a b (Prod' p (more_of-Expr a end_of-Expr) q (more_of-Expr b end_of-Expr)) (codes " * ") (λ l rest. expr_begins a l rest fits.0 plain.0) (λ l rest. expr_begins b l rest fits.1 plain.1) l rest deep ends
      (λ rest. refl) (λ rest. times_begins end rest) (λ t ts us left is right. subst (SpellsExpr names Sum l (ts ++ t ∷ us)) (Prod-is a b) (product (times t (atom left) is right)))

  -- so it does as a whole
  as_sum : (b : Bool) (l : ℕ) (ts : List Token) (e : Expr) → SpellsExpr names (part_of b) l ts e → SpellsExpr names Sum l ts e
  as_sum true l ts e spelled = spelled
  as_sum false l ts e spelled = product (atom spelled)

  pub whole_begins : (e : Expr) (l : ℕ) (rest : List ℕ) → ExprFits (length names.vars) e → IsPlain names e → expr_levels e ≤ l → EndsRun continues_name rest
      → BeginsExpr names Sum l e end (expr_text names e ++ rest) rest
  whole_begins e l rest fits plain deep ends = spelled_as (λ ts spelled. as_sum (is_operation e) l ts e spelled) (expr_begins e l rest fits plain deep ends)
