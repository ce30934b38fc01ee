-- What guards and expressions are worth, by what code sees of a tree.
use Rattle.std.proofs.Common.{◌≡◌, ℤ, Bool, true, false, not, refl, sym, ◌∙◌, ap, FitsSigned}
use Rattle.std.specs.Int.{int_wrapping_add, int_wrapping_sub, int_wrapping_mul, w64}
use Rattle.std.proofs.lemmas.Int.{wrapping_add_is, wrapping_sub_is, wrapping_mul_is}
use Rattle.pssm_semantics.specs.declared.tree.Expr.{Expr}
use Rattle.pssm_semantics.specs.declared.tree.Expr.TheViews as views
use Rattle.pssm_semantics.specs.declared.tree.Cond.{Cond}
use Rattle.pssm_semantics.specs.declared.tree.Cond.TheViews as tests
use Rattle.pssm_semantics.specs.Values.{Store, Params, value_of, truth_of}
use Rattle.pssm_semantics.proofs.Views.{Sum-is, Diff-is, Prod-is, Not-is, And-is, Or-is}

-- The wrapping operation on the values of the parts gives the value.
pub Sum-gives : (e a b p q : Expr) (store : Store) (params : Params) (x y : ℤ) → e ≡ views.Sum a b → p ≡ a → q ≡ b
    → x ≡ value_of p store params → y ≡ value_of q store params → FitsSigned w64 x → FitsSigned w64 y → int_wrapping_add w64 x y ≡ value_of e store params
Sum-gives e a b p q store params x y is left right one two fits more =
    wrapping_add_is w64 x y fits more ∙ rw (one, two, left, right, is, Sum-is a b) refl

pub Diff-gives : (e a b p q : Expr) (store : Store) (params : Params) (x y : ℤ) → e ≡ views.Diff a b → p ≡ a → q ≡ b
    → x ≡ value_of p store params → y ≡ value_of q store params → FitsSigned w64 x → FitsSigned w64 y → int_wrapping_sub w64 x y ≡ value_of e store params
Diff-gives e a b p q store params x y is left right one two fits more =
    wrapping_sub_is w64 x y fits more ∙ rw (one, two, left, right, is, Diff-is a b) refl

pub Prod-gives : (e a b p q : Expr) (store : Store) (params : Params) (x y : ℤ) → e ≡ views.Prod a b → p ≡ a → q ≡ b
    → x ≡ value_of p store params → y ≡ value_of q store params → FitsSigned w64 x → FitsSigned w64 y → int_wrapping_mul w64 x y ≡ value_of e store params
Prod-gives e a b p q store params x y is left right one two fits more =
    wrapping_mul_is w64 x y fits more ∙ rw (one, two, left, right, is, Prod-is a b) refl

-- So do the tests of the parts, in order.
pub Not-gives : (e a p : Cond) (store : Store) (params : Params) (x : Bool) → e ≡ tests.Not a → p ≡ a → x ≡ truth_of p store params → not x ≡ truth_of e store params
Not-gives e a p store params x is inner one = rw (one, inner, is, Not-is a) refl

pub And-stops : (e a b p : Cond) (store : Store) (params : Params) (x : Bool) → e ≡ tests.And a b → p ≡ a → x ≡ truth_of p store params → x ≡ false → x ≡ truth_of e store params
And-stops e a b p store params x is left one fails =
    let at : truth_of a store params ≡ false = ap (λ c. truth_of c store params) (sym left) ∙ sym one ∙ fails in
    rw (fails, is, And-is a b, at) refl

pub And-goes_on : (e a b p q : Cond) (store : Store) (params : Params) (x y : Bool) → e ≡ tests.And a b → p ≡ a → q ≡ b → x ≡ truth_of p store params → x ≡ true
    → y ≡ truth_of q store params → y ≡ truth_of e store params
And-goes_on e a b p q store params x y is left right one holds two =
    let at : truth_of a store params ≡ true = ap (λ c. truth_of c store params) (sym left) ∙ sym one ∙ holds in
    rw (two, right, is, And-is a b, at) refl

pub Or-stops : (e a b p : Cond) (store : Store) (params : Params) (x : Bool) → e ≡ tests.Or a b → p ≡ a → x ≡ truth_of p store params → x ≡ true → x ≡ truth_of e store params
Or-stops e a b p store params x is left one holds =
    let at : truth_of a store params ≡ true = ap (λ c. truth_of c store params) (sym left) ∙ sym one ∙ holds in
    rw (holds, is, Or-is a b, at) refl

pub Or-goes_on : (e a b p q : Cond) (store : Store) (params : Params) (x y : Bool) → e ≡ tests.Or a b → p ≡ a → q ≡ b → x ≡ truth_of p store params → x ≡ false
    → y ≡ truth_of q store params → y ≡ truth_of e store params
Or-goes_on e a b p q store params x y is left right one fails two =
    let at : truth_of a store params ≡ false = ap (λ c. truth_of c store params) (sym left) ∙ sym one ∙ fails in
    rw (two, right, is, Or-is a b, at) refl
