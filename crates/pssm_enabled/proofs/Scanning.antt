-- What holds of the first members of a list, one more at a time.
use Rattle.std.proofs.Common.{◌≡◌, ◌↔◌, Bool, false, IsTrue, ◌<◌, ◌≤◌, ◌+◌, ℕ, List, length, take, get_or, Contains, subst, ⊎_elim, arith, take_all}
use Rattle.std.proofs.lemmas.List.{take_more}
use Rattle.std.proofs.lemmas.List.Elements.{Contains-push_cases}

-- It holds of the first so many.
abbrev pub HoldsOfFirst : {X : Type 0} → (X → Type 0) → List X → ℕ → Type 0
HoldsOfFirst {X} P xs n = (x : X) → Contains (take n xs) x → P x

pub holds_of_none : {X : Type 0} (P : X → Type 0) (xs : List X) → HoldsOfFirst P xs 0
holds_of_none P xs x there = absurd (let lt : there.0 < 0 = there.1 in omega arith)

pub holds_of_more : {X : Type 0} (P : X → Type 0) (xs : List X) (n : ℕ) (d : X) → n < length xs → P (get_or xs n d) → HoldsOfFirst P xs n
    → HoldsOfFirst P xs (n + 1)
holds_of_more P xs n d lt is before x there =
    ⊎_elim
    (λ old. before x old)
    (λ here. subst P here is)
    (Contains-push_cases (take n xs) (get_or xs n d) x (subst (λ ys. Contains ys x) (take_more xs n d lt) there))

pub holds_of_item : {X : Type 0} (P : X → Type 0) (xs : List X) (n : ℕ) (x : X) → n < length xs → x ≡ get_or xs n x → P x → HoldsOfFirst P xs n
    → HoldsOfFirst P xs (n + 1)
holds_of_item P xs n x lt at is before = holds_of_more P xs n x lt (subst P at is) before

pub holds_of_all : {X : Type 0} (P : X → Type 0) (xs : List X) (n : ℕ) → length xs ≤ n → HoldsOfFirst P xs n → (x : X) → Contains xs x → P x
holds_of_all P xs n le before = subst (λ ys. (x : _) → Contains ys x → P x) (take_all n xs le) before

-- what a test that failed says
pub refuted : {P : Type 0} (b : Bool) → b ≡ false → (IsTrue b ↔ P) → P → ⊥
refuted b fails decides h = let holds : IsTrue b = decides.1 h in cc (fails, holds)
