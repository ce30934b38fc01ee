-- What a tree's constructor, as code and clauses write it, is to a definition that goes by cases: a box holds its one part.
use Rattle.std.proofs.Common.{◌≡◌, ◌↔◌, Bool, true, false, IsTrue, refl, sym, ap, ◌∙◌}
use denote.Hole.Carrier.{hidden}
use Rattle.pssm_semantics.specs.declared.tree.Expr.{Expr, end_of-Expr, more_of-Expr}
use Rattle.pssm_semantics.specs.declared.tree.Expr.TheViews as views
use Rattle.pssm_semantics.specs.declared.tree.Expr.TheVariants.{Sum', Diff', Prod'}
use Rattle.pssm_semantics.specs.declared.tree.Expr.TheBlock.{shape-the_row-Expr-0, hidden-the_row-Expr-0}
use Rattle.pssm_semantics.specs.declared.tree.Cond.{Cond, end_of-Cond, more_of-Cond}
use Rattle.pssm_semantics.specs.declared.tree.Cond.TheViews as tests
use Rattle.pssm_semantics.specs.declared.tree.Cond.TheVariants.{Not', And', Or'}
use Rattle.pssm_semantics.specs.declared.tree.Cond.TheBlock.{shape-the_row-Cond-0, hidden-the_row-Cond-0}

pub Sum-is : (a b : Expr) → views.Sum a b ≡ Sum' tt (more_of-Expr a end_of-Expr) tt (more_of-Expr b end_of-Expr)
unfolding shape-the_row-Expr-0 hidden-the_row-Expr-0 hidden
Sum-is a b = refl

pub Diff-is : (a b : Expr) → views.Diff a b ≡ Diff' tt (more_of-Expr a end_of-Expr) tt (more_of-Expr b end_of-Expr)
unfolding shape-the_row-Expr-0 hidden-the_row-Expr-0 hidden
Diff-is a b = refl

pub Prod-is : (a b : Expr) → views.Prod a b ≡ Prod' tt (more_of-Expr a end_of-Expr) tt (more_of-Expr b end_of-Expr)
unfolding shape-the_row-Expr-0 hidden-the_row-Expr-0 hidden
Prod-is a b = refl

pub Not-is : (a : Cond) → tests.Not a ≡ Not' tt (more_of-Cond a end_of-Cond)
unfolding shape-the_row-Cond-0 hidden-the_row-Cond-0 hidden
Not-is a = refl

pub And-is : (a b : Cond) → tests.And a b ≡ And' tt (more_of-Cond a end_of-Cond) tt (more_of-Cond b end_of-Cond)
unfolding shape-the_row-Cond-0 hidden-the_row-Cond-0 hidden
And-is a b = refl

pub Or-is : (a b : Cond) → tests.Or a b ≡ Or' tt (more_of-Cond a end_of-Cond) tt (more_of-Cond b end_of-Cond)
unfolding shape-the_row-Cond-0 hidden-the_row-Cond-0 hidden
Or-is a b = refl

-- ---- Trees that are made alike are equal where their parts are.

abbrev first_of : Expr → Expr
first_of (Sum' p (more_of-Expr a end_of-Expr) q b) = a
first_of (Diff' p (more_of-Expr a end_of-Expr) q b) = a
first_of (Prod' p (more_of-Expr a end_of-Expr) q b) = a
first_of e = e

abbrev second_of : Expr → Expr
second_of (Sum' p a q (more_of-Expr b end_of-Expr)) = b
second_of (Diff' p a q (more_of-Expr b end_of-Expr)) = b
second_of (Prod' p a q (more_of-Expr b end_of-Expr)) = b
second_of e = e

pub Sum-parts : (a b c d : Expr) → views.Sum a b ≡ views.Sum c d → (a ≡ c) × (b ≡ d)
Sum-parts a b c d e = let same = sym (Sum-is a b) ∙ e ∙ Sum-is c d in (ap first_of same, ap second_of same)

pub Diff-parts : (a b c d : Expr) → views.Diff a b ≡ views.Diff c d → (a ≡ c) × (b ≡ d)
Diff-parts a b c d e = let same = sym (Diff-is a b) ∙ e ∙ Diff-is c d in (ap first_of same, ap second_of same)

pub Prod-parts : (a b c d : Expr) → views.Prod a b ≡ views.Prod c d → (a ≡ c) × (b ≡ d)
Prod-parts a b c d e = let same = sym (Prod-is a b) ∙ e ∙ Prod-is c d in (ap first_of same, ap second_of same)

abbrev inner_of : Cond → Cond
inner_of (Not' p (more_of-Cond a end_of-Cond)) = a
inner_of (And' p (more_of-Cond a end_of-Cond) q b) = a
inner_of (Or' p (more_of-Cond a end_of-Cond) q b) = a
inner_of c = c

abbrev further_of : Cond → Cond
further_of (And' p a q (more_of-Cond b end_of-Cond)) = b
further_of (Or' p a q (more_of-Cond b end_of-Cond)) = b
further_of c = c

pub Not-part : (a b : Cond) → tests.Not a ≡ tests.Not b → a ≡ b
Not-part a b e = ap inner_of (sym (Not-is a) ∙ e ∙ Not-is b)

pub And-parts : (a b c d : Cond) → tests.And a b ≡ tests.And c d → (a ≡ c) × (b ≡ d)
And-parts a b c d e = let same = sym (And-is a b) ∙ e ∙ And-is c d in (ap inner_of same, ap further_of same)

pub Or-parts : (a b c d : Cond) → tests.Or a b ≡ tests.Or c d → (a ≡ c) × (b ≡ d)
Or-parts a b c d e = let same = sym (Or-is a b) ∙ e ∙ Or-is c d in (ap inner_of same, ap further_of same)

-- where the first parts are equal, the second ones decide
pub rest_decides : {X A B : Type 0} (make : A → B → X) → ((a : A) (b : B) (c : A) (d : B) → make a b ≡ make c d → (a ≡ c) × (b ≡ d)) → {x y : X} {a c p q : A} {b d u v : B} {first rest : Bool}
    → x ≡ make a b → y ≡ make c d → p ≡ a → q ≡ c → (IsTrue first ↔ (p ≡ q)) → first ≡ true → u ≡ b → v ≡ d → (IsTrue rest ↔ (u ≡ v)) → IsTrue rest ↔ (x ≡ y)
rest_decides make parts {a = a} {c = c} {b = b} {d = d} left right got other heads holds more less tails =
    let head : a ≡ c = sym got ∙ heads.0 holds ∙ other in (
      λ same. left ∙ ap (λ z. make z b) head ∙ ap (λ z. make c z) (sym more ∙ tails.0 same ∙ less) ∙ sym right,
      λ same. tails.1 (more ∙ (parts a b c d (sym left ∙ same ∙ right)).1 ∙ sym less),
    )

-- where the first parts differ, so do the trees
pub first_differs : {X A B : Type 0} (make : A → B → X) → ((a : A) (b : B) (c : A) (d : B) → make a b ≡ make c d → (a ≡ c) × (b ≡ d)) → {x y : X} {a c p q : A} {b d : B} {first : Bool}
    → x ≡ make a b → y ≡ make c d → p ≡ a → q ≡ c → (IsTrue first ↔ (p ≡ q)) → first ≡ false → IsTrue first ↔ (x ≡ y)
first_differs make parts {a = a} {c = c} {b = b} {d = d} left right got other heads fails =
    (λ same. absurd cc, λ same. heads.1 (got ∙ (parts a b c d (sym left ∙ same ∙ right)).0 ∙ sym other))

-- a tree that is made otherwise is another one
pub made_otherwise : {X : Type 0} {x y made : X} → x ≡ made → (y ≡ made → ⊥) → IsTrue false ↔ (x ≡ y)
made_otherwise is not = (λ same. absurd cc, λ same. absurd (not (sym same ∙ is)))

-- the one part decides
pub part_decides : {X A : Type 0} (make : A → X) → ((a b : A) → make a ≡ make b → a ≡ b) → {x y : X} {a b p q : A} {same : Bool} → x ≡ make a → y ≡ make b → p ≡ a → q ≡ b → (IsTrue same ↔ (p ≡ q)) → IsTrue same ↔ (x ≡ y)
part_decides make part {a = a} {b = b} left right got other decides =
    (λ is. left ∙ ap make (sym got ∙ decides.0 is ∙ other) ∙ sym right, λ is. decides.1 (got ∙ part a b (sym left ∙ is ∙ right) ∙ sym other))
