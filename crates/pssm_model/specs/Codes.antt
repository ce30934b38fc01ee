-- A test that says whether two values are one and the same, for every type that a clause can read: their codes are compared.
use Rattle.std.specs.Prelude.{◌≡◌, ◌==◌, ◌&&◌, ◌↔◌, Bool, true, false, IsTrue, refl}
use Rattle.std.proofs.Common.{ap, sym, ◌∙◌, subst}
use Rattle.std.proofs.lemmas.Bool.Decides.{Decides-eqb}
use Rattle.std.specs.Cmp.{IsEquivalence}
use base.Stored.{Gv, gnil, gnum, gcons, Coded}
use Rattle.pssm_model.specs.Equal.{both_pass}

-- whether two codes are the same (this profile's choice)
abbrev pub code_eq : Gv → Gv → Bool
code_eq gnil gnil = true
code_eq (gnum n) (gnum k) = n == k
code_eq (gcons a b) (gcons c d) = code_eq a c && code_eq b d
code_eq a b = false

pub code_same : (a b : Gv) → code_eq a b ≡ true → a ≡ b
code_same gnil gnil e = refl
code_same (gnum n) (gnum k) e = ap (λ x. gnum x) ((Decides-eqb n k).0 e)
code_same (gcons a b) (gcons c d) e =
    let both = both_pass _ _ e in
    ap (λ x. gcons x b) (code_same a c both.0) ∙ ap (λ x. gcons c x) (code_same b d both.1)
code_same a b e = cc

both_true : (b c : Bool) → b ≡ true → c ≡ true → (b && c) ≡ true
both_true b c p q = rw p q

pub code_itself : (a : Gv) → code_eq a a ≡ true
code_itself gnil = refl
code_itself (gnum n) = (Decides-eqb n n).1 refl
code_itself (gcons a b) = both_true (code_eq a a) (code_eq b b) (code_itself a) (code_itself b)

-- whether two values have the same code, and so are the same (this profile's choice)
unfoldable pub same_by : {A : Type 0} → Coded A → A → A → Bool
same_by c a b = code_eq (c.code a) (c.code b)

pub same_by-only : {A : Type 0} (c : Coded A) (a b : A) → same_by c a b ≡ true → a ≡ b
unfolding same_by
same_by-only c a b e = c.inj a b (code_same (c.code a) (c.code b) e)

pub same_by-itself : {A : Type 0} (c : Coded A) (a : A) → same_by c a a ≡ true
unfolding same_by
same_by-itself c a = code_itself (c.code a)

alike : (b c : Bool) → (b ≡ true → c ≡ true) → (c ≡ true → b ≡ true) → b ≡ c
alike true c p q = sym (p refl)
alike false true p q = q refl
alike false false p q = refl

-- `==` by it is an equivalence
pub same_by-equivalence : {A : Type 0} (c : Coded A) → IsEquivalence (same_by c)
same_by-equivalence {A} c =
    let Back : (a : A) → A → Type 0 = λ a x. same_by c x a ≡ true in
    let back : (a b : A) → same_by c a b ≡ true → same_by c b a ≡ true = λ a b e. subst (Back a) (same_by-only c a b e) (same_by-itself c a) in
    record {
      refl = same_by-itself c;
      symm = λ a b. alike (same_by c a b) (same_by c b a) (back a b) (back b a);
      congr = λ a b d e. ap (λ x. same_by c x d) (same_by-only c a b e);
    }

-- a test that says whether two values are the same is this one
pub same_by_is : {A : Type 0} (c : Coded A) (a b : A) (r : Bool) → (IsTrue r ↔ (a ≡ b)) → r ≡ same_by c a b
same_by_is {A} c a b r says =
    let At : A → Type 0 = λ x. same_by c a x ≡ true in
    alike r (same_by c a b) (λ e. subst At (says.0 e) (same_by-itself c a)) (λ e. says.1 (same_by-only c a b e))
