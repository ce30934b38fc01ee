-- The places of a list, and a fact of each of the first.
use Rattle.std.proofs.Common.{◌≡◌, ◌<◌, ◌+◌, ◌↔◌, ℕ, Bool, false, IsTrue, List, length, Some, slice_get, Contains, get_or, replicate, refl, zero, suc, true, false, ◌∙◌, subst, ap, arith, ⊎_elim}
use Rattle.std.proofs.lemmas.Bool.{cases_lt}
use Rattle.std.proofs.lemmas.Option.{slice_get_within, slice_get-get_or, get_or_from_slice_get}

pub at_contains : {X : Type 0} (xs : List X) (k : ℕ) (x : X) → slice_get xs k ≡ Some x → Contains xs x
at_contains xs k x at = (k, slice_get_within xs k x at, get_or_from_slice_get xs k x x at)

pub contains_at : {X : Type 0} (xs : List X) (x : X) → Contains xs x → (k : ℕ) × (slice_get xs k ≡ Some x)
contains_at xs x h = (h.0, slice_get-get_or xs h.0 x h.1 ∙ ap Some h.2)

-- so many of the first have the fact
abbrev pub Below : {X : Type 0} → (X → Type 0) → List X → ℕ → Type 0
Below P xs n = (k : ℕ) (x : _) → k < n → slice_get xs k ≡ Some x → P x

pub below_none : {X : Type 0} (P : X → Type 0) (xs : List X) → Below P xs 0
below_none P xs k x lt at = absurd (omega (arith, lt))

pub below_more : {X : Type 0} (P : X → Type 0) (xs : List X) (n : ℕ) (x : X) → slice_get xs n ≡ Some x → P x → Below P xs n → Below P xs (n + 1)
below_more P xs n x here is before k y lt at =
    ⊎_elim
    (λ less. before k y less at)
    (λ least. (let last : k ≡ n = omega (arith, least, lt) in let same : x ≡ y = cc (last, here, at) in subst P same is))
    (cases_lt k n)

pub below_next : {X : Type 0} (P : X → Type 0) (xs : List X) (n : ℕ) (d : X) → n < length xs → P (get_or xs n d) → Below P xs n → Below P xs (n + 1)
below_next P xs n d lt is before = below_more P xs n (get_or xs n d) (slice_get-get_or xs n d lt) is before

-- what a test that failed says
pub refuted : {P : Type 0} (b : Bool) → b ≡ false → (IsTrue b ↔ P) → P → ⊥
refuted b fails decides h = let holds : IsTrue b = decides.1 h in cc (fails, holds)

pub below_all : {X : Type 0} (P : X → Type 0) (xs : List X) (n : ℕ) → length xs ≡ n → Below P xs n → (x : X) → Contains xs x → P x
below_all P xs n long before x h =
    let at = contains_at xs x h in
    let inside = h.1 in
    before at.0 x (let less : at.0 < length xs = slice_get_within xs at.0 x at.1 in omega (arith, less, long)) at.1

-- all places of a list of one value
pub replicated : {X : Type 0} (n k : ℕ) (x : X) → get_or (replicate n x) k x ≡ x
replicated zero k x = refl
replicated (suc n) zero x = refl
replicated (suc n) (suc k) x = replicated n k x

pub none_is_true : (n k : ℕ) → get_or (replicate n false) k false ≡ true → ⊥
none_is_true n k e = let at = replicated n k false in cc (at, e)
