-- A property that none of the first so many elements of a list has.
use Rattle.std.proofs.Common.{◌≡◌, ◌↔◌, ◌<◌, ◌≤◌, ◌+◌, ℕ, Bool, false, IsTrue, List, length, get_or, take, Contains, sym, subst, ⊎_elim}
use Rattle.std.proofs.lemmas.List.{take_more, take_all}
use Rattle.std.proofs.lemmas.List.Elements.{Contains-push_cases}

-- what a test that failed says
pub refuted : {P : Type 0} (b : Bool) → b ≡ false → (IsTrue b ↔ P) → P → ⊥
refuted b fails decides h = let holds : IsTrue b = decides.1 h in cc (fails, holds)

module _ {A : Type 0} (P : A → Type 0) (xs : List A) (i : ℕ) (none : (x : A) → Contains (take i xs) x → P x → ⊥) where
  -- one item more
  pub none_more : (d : A) → i < length xs → (P (get_or xs i d) → ⊥) → (x : A) → Contains (take (i + 1) xs) x → P x → ⊥
  none_more d lt here x is has =
      ⊎_elim (λ old. none x old has) (λ (e : get_or xs i d ≡ x). here (subst P (sym e) has))
      (Contains-push_cases (take i xs) (get_or xs i d) x (subst (λ ys. Contains ys x) (take_more xs i d lt) is))

  -- and all of them
  pub none_at_all : length xs ≤ i → (x : A) → Contains xs x → P x → ⊥
  none_at_all le x is has = none x (subst (λ ys. Contains ys x) (sym (take_all i xs le)) is) has
