-- Sums over lists, and over the numbers below one.
use Rattle.std.proofs.Common.{◌≡◌, ◌<◌, ◌≤◌, ◌==◌, ℕ, zero, suc, ◌+◌, cond, List, [], ◌∷◌, ◌++◌, length, map, get_or, refl, sym, ◌∙◌, ap, arith, Some, slice_get, ⊎_elim, sum_by}
use Rattle.std.specs.List.{range_with_len, flat_map}
use Rattle.std.proofs.lemmas.Bool.{cases_eq, eq-eqb, ne_eqb}
use Rattle.std.proofs.lemmas.List.Sums.{sum_by-cons}

-- the sum of what a function gives for each
abbrev pub added : {X : Type 0} → (X → ℕ) → List X → ℕ
added f [] = 0
added f (x ∷ xs) = f x + added f xs

pub added_is : {X : Type 0} (f : X → ℕ) (xs : List X) → added f xs ≡ sum_by f xs
added_is f [] = refl
added_is f (x ∷ xs) = ap (λ n. f x + n) (added_is f xs) ∙ sym (sum_by-cons f x xs)

pub added_append : {X : Type 0} (f : X → ℕ) (xs ys : List X) → added f (xs ++ ys) ≡ added f xs + added f ys
added_append f [] ys = omega arith
added_append f (x ∷ xs) ys = omega (arith, added_append f xs ys)

pub added_flat : {X A : Type 0} (w : A → ℕ) (f : X → List A) (xs : List X) → added w (flat_map f xs) ≡ added (λ x. added w (f x)) xs
added_flat w f [] = refl
added_flat w f (x ∷ xs) = added_append w (f x) (flat_map f xs) ∙ ap (λ n. added w (f x) + n) (added_flat w f xs)

pub added_map : {X A : Type 0} (w : A → ℕ) (f : X → A) (xs : List X) → added w (map f xs) ≡ added (λ x. w (f x)) xs
added_map w f [] = refl
added_map w f (x ∷ xs) = ap (λ n. w (f x) + n) (added_map w f xs)

pub added_le : {X : Type 0} (f g : X → ℕ) (xs : List X) → ((x : X) → f x ≤ g x) → added f xs ≤ added g xs
added_le f g [] le = omega arith
added_le f g (x ∷ xs) le = omega (arith, le x, added_le f g xs le)

pub added_two : {X : Type 0} (f g : X → ℕ) (xs : List X) → added (λ x. f x + g x) xs ≡ added f xs + added g xs
added_two f g [] = omega arith
added_two f g (x ∷ xs) = omega (arith, added_two f g xs)

-- over a list by places, where the first has the place `a`
pub added_range : {X : Type 0} (w : ℕ → ℕ) (g : X → ℕ) (a : ℕ) (xs : List X) → ((i j : ℕ) (x : X) → a + i ≡ j → slice_get xs i ≡ Some x → w j ≡ g x)
    → added w (range_with_len a (length xs)) ≡ added g xs
added_range w g a [] each = refl
added_range w g a (x ∷ xs) each =
    let here : w a ≡ g x = each 0 a x (omega arith) refl in
    let more = added_range w g (a + 1) xs (λ i j y e h. each (suc i) j y (omega arith) h) in
    omega (arith, here, more)

-- ---- over the numbers below one

abbrev pub total : (ℕ → ℕ) → ℕ → ℕ
total f zero = 0
total f (suc n) = total f n + f n

pub total_le : (f g : ℕ → ℕ) (n : ℕ) → ((k : ℕ) → k < n → f k ≤ g k) → total f n ≤ total g n
total_le f g zero le = omega arith
total_le f g (suc n) le = omega (arith, le n (omega arith), total_le f g n (λ k lt. le k (omega arith)))

pub total_none : (f : ℕ → ℕ) (n : ℕ) → ((k : ℕ) → k < n → f k ≡ 0) → total f n ≡ 0
total_none f zero none = refl
total_none f (suc n) none = omega (arith, none n (omega arith), total_none f n (λ k lt. none k (omega arith)))

pub total_two : (f g : ℕ → ℕ) (n : ℕ) → total (λ k. f k + g k) n ≡ total f n + total g n
total_two f g zero = omega arith
total_two f g (suc n) = omega (arith, total_two f g n)

one_at : (j x k : ℕ) → j ≡ k → cond (j == k) x 0 ≡ x
one_at j x k e = ap (λ b. cond b x 0) (eq-eqb j k e)

none_at : (j x k : ℕ) → (j ≡ k → ⊥) → cond (j == k) x 0 ≡ 0
none_at j x k ne = ap (λ b. cond b x 0) (ne_eqb j k ne)

-- one number alone has something
pub total_one : (j x n : ℕ) → total (λ k. cond (j == k) x 0) n ≤ x
total_one j x zero = omega arith
total_one j x (suc n) =
    ⊎_elim
    (λ (here : j ≡ n). omega (arith, one_at j x n here, total_none (λ k. cond (j == k) x 0) n (λ k lt. none_at j x k (λ e. omega arith))))
    (λ (ne : j ≡ n → ⊥). omega (arith, none_at j x n ne, total_one j x n))
    (cases_eq j n)

total_head : (f : ℕ → ℕ) (n : ℕ) → total f (suc n) ≡ f 0 + total (λ k. f (suc k)) n
total_head f zero = omega arith
total_head f (suc n) = omega (arith, total_head f n)

pub added_total : {X : Type 0} (f : X → ℕ) (xs : List X) (d : X) → added f xs ≡ total (λ k. f (get_or xs k d)) (length xs)
added_total f [] d = refl
added_total f (x ∷ xs) d = ap (λ n. f x + n) (added_total f xs d) ∙ sym (total_head (λ k. f (get_or (x ∷ xs) k d)) (length xs))
