-- How operations and chains of guards are spelled, by what code sees of a tree, and how much there is to write.
use Rattle.std.proofs.Common.{◌≡◌, ℕ, ◌+◌, ◌++◌, List, refl, ap, ◌∙◌, append_assoc, codes}
use Rattle.pssm_semantics.specs.declared.setting.Names.{Names}
use Rattle.pssm_semantics.specs.declared.tree.Expr.{Expr, end_of-Expr, more_of-Expr}
use Rattle.pssm_semantics.specs.declared.tree.Expr.TheViews as views
use Rattle.pssm_semantics.specs.declared.tree.Expr.TheVariants.{Num, Var, Param, Sum', Diff', Prod'}
use Rattle.pssm_semantics.specs.declared.tree.Cond.{Cond, end_of-Cond, more_of-Cond}
use Rattle.pssm_semantics.specs.declared.tree.Cond.TheViews as tests
use Rattle.pssm_semantics.specs.declared.tree.Cond.TheVariants.{True, False, Compare, Not', And', Or'}
use Rattle.pssm_acts.specs.ActText.{expr_text, cond_text}
use Rattle.pssm_acts.specs.inner.Operands.{operand_text, unit_text}
use Rattle.pssm_semantics.proofs.Views.{Sum-is, Diff-is, Prod-is, Not-is, And-is, Or-is}

-- how many operations an expression has
abbrev pub operations : Expr → ℕ
operations (Num n) = 0
operations (Var x) = 0
operations (Param k) = 0
operations (Sum' p (more_of-Expr a end_of-Expr) q (more_of-Expr b end_of-Expr)) = 1 + operations a + operations b
operations (Diff' p (more_of-Expr a end_of-Expr) q (more_of-Expr b end_of-Expr)) = 1 + operations a + operations b
operations (Prod' p (more_of-Expr a end_of-Expr) q (more_of-Expr b end_of-Expr)) = 1 + operations a + operations b

-- how many operators a guard has
abbrev pub operators : Cond → ℕ
operators True = 0
operators False = 0
operators (Compare rel a b) = 0
operators (Not' p (more_of-Cond a end_of-Cond)) = 1 + operators a
operators (And' p (more_of-Cond a end_of-Cond) q (more_of-Cond b end_of-Cond)) = 1 + operators a + operators b
operators (Or' p (more_of-Cond a end_of-Cond) q (more_of-Cond b end_of-Cond)) = 1 + operators a + operators b

-- The operands with the sign between them are the text, and have fewer operations.
pub Sum-count : (e a b p q : Expr) → e ≡ views.Sum a b → p ≡ a → q ≡ b → operations e ≡ 1 + operations p + operations q
Sum-count e a b p q is left right = rw (is, left, right, Sum-is a b) refl

pub Diff-count : (e a b p q : Expr) → e ≡ views.Diff a b → p ≡ a → q ≡ b → operations e ≡ 1 + operations p + operations q
Diff-count e a b p q is left right = rw (is, left, right, Diff-is a b) refl

pub Prod-count : (e a b p q : Expr) → e ≡ views.Prod a b → p ≡ a → q ≡ b → operations e ≡ 1 + operations p + operations q
Prod-count e a b p q is left right = rw (is, left, right, Prod-is a b) refl

pub Sum-text : (names : Names) (e a b p q : Expr) → e ≡ views.Sum a b → p ≡ a → q ≡ b
    → operand_text names p ++ codes " + " ++ operand_text names q ≡ expr_text names e
Sum-text names e a b p q is left right = rw (is, left, right, Sum-is a b) refl

pub Diff-text : (names : Names) (e a b p q : Expr) → e ≡ views.Diff a b → p ≡ a → q ≡ b
    → operand_text names p ++ codes " - " ++ operand_text names q ≡ expr_text names e
Diff-text names e a b p q is left right = rw (is, left, right, Diff-is a b) refl

pub Prod-text : (names : Names) (e a b p q : Expr) → e ≡ views.Prod a b → p ≡ a → q ≡ b
    → operand_text names p ++ codes " * " ++ operand_text names q ≡ expr_text names e
Prod-text names e a b p q is left right = rw (is, left, right, Prod-is a b) refl

-- The same of guards.
pub Not-count : (c a p : Cond) → c ≡ tests.Not a → p ≡ a → operators c ≡ 1 + operators p
Not-count c a p is inner = rw (is, inner, Not-is a) refl

pub And-count : (c a b p q : Cond) → c ≡ tests.And a b → p ≡ a → q ≡ b → operators c ≡ 1 + operators p + operators q
And-count c a b p q is left right = rw (is, left, right, And-is a b) refl

pub Or-count : (c a b p q : Cond) → c ≡ tests.Or a b → p ≡ a → q ≡ b → operators c ≡ 1 + operators p + operators q
Or-count c a b p q is left right = rw (is, left, right, Or-is a b) refl

Not-text : (names : Names) (c a p : Cond) → c ≡ tests.Not a → p ≡ a → codes "!" ++ unit_text names p ≡ cond_text names c
Not-text names c a p is inner = rw (is, inner, Not-is a) refl

pub And-text : (names : Names) (c a b p q : Cond) → c ≡ tests.And a b → p ≡ a → q ≡ b → unit_text names p ++ codes " && " ++ unit_text names q ≡ cond_text names c
And-text names c a b p q is left right = rw (is, left, right, And-is a b) refl

pub Or-text : (names : Names) (c a b p q : Cond) → c ≡ tests.Or a b → p ≡ a → q ≡ b → unit_text names p ++ codes " || " ++ unit_text names q ≡ cond_text names c
Or-text names c a b p q is left right = rw (is, left, right, Or-is a b) refl

pub Not-written : (names : Names) (old pushed : List ℕ) (c a p : Cond) → pushed ≡ old ++ codes "!" → c ≡ tests.Not a → p ≡ a
    → pushed ++ unit_text names p ≡ old ++ cond_text names c
Not-written names old pushed c a p sign is inner =
    ap (λ xs. xs ++ unit_text names p) sign ∙ append_assoc old (codes "!") (unit_text names p) ∙ ap (λ xs. old ++ xs) (Not-text names c a p is inner)
