-- Where a name stands among others that differ from it.
use Rattle.std.proofs.Common.{◌≡◌, ◌≢◌, ◌<◌, ◌+◌, ℕ, suc, zero, Bool, true, false, not, List, [], ◌∷◌, length, map, Some, refl, ap, ◌∙◌, subst, arith, position, bytes_eq, slice_get, slice_index_or, AllPairs}
use Rattle.std.specs.List.{position_or_len}
use Rattle.std.proofs.lemmas.Bool.{lt-ltb, cond-true, cond-false}
use Rattle.std.proofs.lemmas.List.{get_or-map, length-map}
use Rattle.std.proofs.lemmas.Slice.Eq.{bytes_eq-Decides}
use Rattle.pssm_acts.specs.ReadBack.{AreNames}
use Rattle.pssm_spelling.specs.Spelling.{IsName}

-- the first place at which a test passes
first_at : {X : Type 0} (p : X → Bool) (xs : List X) (k : ℕ) (d : X) → k < length xs → p (slice_index_or xs k d) ≡ true → ((j : ℕ) → j < k → p (slice_index_or xs j d) ≡ false) → position_or_len p xs ≡ k
first_at p [] k d within here before = absurd (omega arith)
first_at p (x ∷ xs) zero d within here before = cond-false (not (p x)) (1 + position_or_len p xs) 0 (ap not here)
first_at p (x ∷ xs) (suc k) d within here before =
    let more : position_or_len p xs ≡ k = first_at p xs k d (omega arith) here (λ j below. before (suc j) (omega arith)) in
    cond-true (not (p x)) (1 + position_or_len p xs) 0 (ap not (before 0 (omega arith))) ∙ omega (arith, more)

not_same : (a b : List ℕ) → a ≢ b → bytes_eq a b ≡ false
not_same a b other = go (bytes_eq a b) refl where
  go : (t : Bool) → bytes_eq a b ≡ t → t ≡ false
  go true e = absurd (other ((bytes_eq-Decides a b).0 e))
  go false e = refl

-- A name is found where it stands, as those before it differ.
found : {X : Type 0} (f : X → List ℕ) (xs : List X) (k : ℕ) (d : X) → k < length xs → ((j : ℕ) → j < k → f (slice_index_or xs j d) ≢ f (slice_index_or xs k d))
    → position (λ x. bytes_eq (f x) (f (slice_index_or xs k d))) xs ≡ Some k
found {X} f xs k d within other =
    let word : List ℕ = f (slice_index_or xs k d) in
    let p : X → Bool = λ x. bytes_eq (f x) word in
    let at : position_or_len p xs ≡ k = first_at p xs k d within ((bytes_eq-Decides word word).1 refl) (λ j below. not_same (f (slice_index_or xs j d)) word (other j below)) in
    rw (at, lt-ltb k (length xs) within) refl

-- so it is among names
pub name_found : (names : List (List ℕ)) (k : ℕ) → k < length names → AllPairs (λ a b. a ≢ b) names → position (λ name. bytes_eq name (slice_index_or names k [])) names ≡ Some k
name_found names k within differ = found (λ name. name) names k [] within (λ j below. differ j k [] below within)

-- and among what has names
pub owner_found : {X : Type 0} (f : X → List ℕ) (xs : List X) (k : ℕ) (d : X) → k < length xs → AllPairs (λ a b. a ≢ b) (map f xs)
    → position (λ x. bytes_eq (f x) (f (slice_index_or xs k d))) xs ≡ Some k
owner_found f xs k d within differ =
    let all : length (map f xs) ≡ length xs = length-map xs f in
    found f xs k d within
    (λ j below. subst (λ n. n ≢ f (slice_index_or xs k d)) (get_or-map f xs j d [] (omega arith)) (subst (λ n. slice_index_or (map f xs) j [] ≢ n) (get_or-map f xs k d [] within) (differ j k [] below (omega arith))))

-- what stands at a place among others
pub named_at : {X : Type 0} (xs : List X) (k : ℕ) (d : X) → k < length xs → slice_get xs k ≡ Some (slice_index_or xs k d)
named_at [] k d within = absurd (omega arith)
named_at (x ∷ xs) zero d within = refl
named_at (x ∷ xs) (suc k) d within = named_at xs k d (omega arith)

-- It has a name.
pub owner_named : {X : Type 0} (f : X → List ℕ) (xs : List X) (k : ℕ) (d : X) → k < length xs → AreNames (map f xs) → IsName (f (slice_index_or xs k d))
owner_named f xs k d within are =
    let all : length (map f xs) ≡ length xs = length-map xs f in
    subst IsName (get_or-map f xs k d [] within) (are.each k [] (omega arith))
