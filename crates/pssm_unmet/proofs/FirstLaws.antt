-- The first of several faults.
use Rattle.std.proofs.Common.{◌≡◌, ◌<◌, ◌≤◌, ◌⊎◌, ℕ, zero, suc, Bool, true, false, cond, ltb, List, [], ◌∷◌, Option, Some, None, refl, sym, ap, subst, inl, inr, ⊎_elim, arith}
use Rattle.std.specs.Prelude.{fold, Contains}
use Rattle.pssm_unmet.specs.declared.unmet.Unmet.{Unmet}
use Rattle.pssm_unmet.specs.declared.unmet.Unmet.TheVariants as unmet
use Rattle.pssm_unmet.specs.Unmet.{ComesBefore}
use Rattle.pssm_unmet.specs.inner.Found.{order, earlier}

-- ---- the order

pub comes_before : (one other : Unmet) → ComesBefore one other → order one < order other
comes_before (unmet.Unknown a) (unmet.Unknown b) (inl less) = omega (arith, less)
comes_before (unmet.Unknown a) (unmet.Event b) (inl less) = omega (arith, less)
comes_before (unmet.Event a) (unmet.Unknown b) (inl less) = omega (arith, less)
comes_before (unmet.Event a) (unmet.Event b) (inl less) = omega (arith, less)
comes_before (unmet.Unknown a) (unmet.Unknown b) (inr at) = let less = at.1 in absurd (omega (arith, less))
comes_before (unmet.Unknown a) (unmet.Event b) (inr at) = let same = at.0 in omega (arith, same)
comes_before (unmet.Event a) (unmet.Unknown b) (inr at) = let less = at.1 in absurd (omega (arith, less))
comes_before (unmet.Event a) (unmet.Event b) (inr at) = let less = at.1 in absurd (omega (arith, less))

-- ---- the first of some

-- There is one, and it stands at this place or before it.
abbrev pub IsAtMost : Option Unmet → ℕ → Type 0
IsAtMost None k = ⊥
IsAtMost (Some u) k = order u ≤ k

-- It is one of these, and no later than any of them; where there is none, none is one of these.
pub record IsFirstOf (P : Unmet → Type 0) (o : Option Unmet) : Type 0 where
  pub has : (u : Unmet) → o ≡ Some u → P u
  pub least : (u : Unmet) → P u → IsAtMost o (order u)

pub same : (P Q : Unmet → Type 0) (o : Option Unmet) → ((u : Unmet) → P u → Q u) → ((u : Unmet) → Q u → P u) → IsFirstOf P o → IsFirstOf Q o
same P Q o there back first = record { has = λ u is. there u (first.has u is); least = λ u q. first.least u (back u q) }

no_fault : (u : Unmet) → None ≡ Some u → ⊥
no_fault u is = absurd cc

one_fault : (b u : Unmet) → Some b ≡ Some u → order b ≤ order u
one_fault b u is = let own : b ≡ u = cc in let one : order b ≡ order u = ap order own in omega (arith, one)

-- with one fault more
pub one_more : (P : Unmet → Type 0) (so_far o : Option Unmet) → IsFirstOf P so_far → IsFirstOf (λ u. P u ⊎ (o ≡ Some u)) (earlier so_far o)
one_more P None None first = record {
  has = λ u is. absurd (no_fault u is);
  least = λ u some. ⊎_elim (λ p. first.least u p) (λ is. no_fault u is) some;
}
one_more P None (Some b) first = record {
  has = λ u is. inr is;
  least = λ u some. ⊎_elim (λ p. absurd (first.least u p)) (λ is. one_fault b u is) some;
}
one_more P (Some a) None first = record {
  has = λ u is. inl (first.has u is);
  least = λ u some. ⊎_elim (λ p. first.least u p) (λ is. absurd (no_fault u is)) some;
}
one_more P (Some a) (Some b) first = by_test (ltb (order b) (order a)) refl where
  by_test : (t : Bool) → ltb (order b) (order a) ≡ t → IsFirstOf (λ u. P u ⊎ (Some b ≡ Some u)) (cond t (Some b) (Some a))
  by_test true is = record {
    has = λ u own. inr own;
    least = λ u some. let less : order b < order a = grind (arith, is) in
        ⊎_elim (λ p. let most : order a ≤ order u = first.least u p in omega (arith, less, most)) (λ own. one_fault b u own) some;
  }
  by_test false is = record {
    has = λ u own. inl (first.has u own);
    least = λ u some. let less : order a ≤ order b = grind (arith, is) in
        ⊎_elim (λ p. first.least u p) (λ own. let most = one_fault b u own in omega (arith, less, most)) some;
  }

-- ---- of a list

-- It is said of one of these.
abbrev pub Among : {X : Type 0} → (X → Unmet → Type 0) → List X → Unmet → Type 0
Among Q [] u = ⊥
Among Q (x ∷ xs) u = Q x u ⊎ Among Q xs u

pub into_among : {X : Type 0} (Q : X → Unmet → Type 0) (xs : List X) (u : Unmet) (x : X) → Contains xs x → Q x u → Among Q xs u
into_among Q [] u x (k, less, is) q = absurd (omega (arith, less))
into_among Q (y ∷ xs) u x (zero, less, is) q = inl (subst (λ (z : _). Q z u) (sym is) q)
into_among Q (y ∷ xs) u x (suc k, less, is) q = inr (into_among Q xs u x (k, omega (arith, less), is) q)

pub out_of_among : {X : Type 0} (Q : X → Unmet → Type 0) (xs : List X) (u : Unmet) → Among Q xs u → (x : X) × Contains xs x × Q x u
out_of_among Q [] u some = absurd some
out_of_among Q (y ∷ xs) u (inl q) = (y, (0, omega arith, refl), q)
out_of_among Q (y ∷ xs) u (inr some) =
    let more = out_of_among Q xs u some in
    let k = more.1.0 in let less = more.1.1 in
    (more.0, (suc k, omega (arith, less), more.1.2), more.2)

-- With one fault more or less at each step, the first of all comes.
pub folded : {X : Type 0} (step : Option Unmet → X → Option Unmet) (Q : X → Unmet → Type 0)
    → ((P : Unmet → Type 0) (o : Option Unmet) (x : X) → IsFirstOf P o → IsFirstOf (λ u. P u ⊎ Q x u) (step o x))
    → (xs : List X) (P : Unmet → Type 0) (o : Option Unmet) → IsFirstOf P o → IsFirstOf (λ u. P u ⊎ Among Q xs u) (fold step o xs)
folded step Q steps [] P o first = same P (λ u. P u ⊎ ⊥) o (λ u p. inl p) (λ u some. ⊎_elim (λ p. p) (λ none. absurd none) some) first
folded step Q steps (x ∷ xs) P o first =
    same (λ u. (P u ⊎ Q x u) ⊎ Among Q xs u) (λ u. P u ⊎ (Q x u ⊎ Among Q xs u)) (fold step (step o x) xs)
    (λ u some. ⊎_elim (λ one. ⊎_elim (λ p. inl p) (λ q. inr (inl q)) one) (λ more. inr (inr more)) some)
    (λ u some. ⊎_elim (λ p. inl (inl p)) (λ one. ⊎_elim (λ q. inl (inr q)) (λ more. inr more) one) some)
    (folded step Q steps xs (λ u. P u ⊎ Q x u) (step o x) (steps P o x first))
