-- A name is read from its first character on.
use Rattle.std.proofs.Common.{◌≡◌, ℕ, ◌+◌, ◌<◌, ◌≤◌, Bool, true, false, cond, leb, ◌&&◌, ◌||◌, List, [], ◌∷◌, length, take, drop, Some, None, refl, sym, ap, ◌∙◌, arith}
use Rattle.std.specs.List.{prefix_len}
use Rattle.std.proofs.lemmas.Bool.{and_from, le-leb, leb-true, cond-true, cond-false}
use Rattle.pssm_spelling.specs.Spelling.{begins_name, continues_name}
use Rattle.pssm_spelling.specs.SpellingReading.{starts_name, name_taken}

-- a front of a text and the rest of it
abbrev pub cut_at : ℕ → List ℕ → List ℕ × List ℕ
cut_at n bytes = (take n bytes, drop n bytes)

-- The run of a name is its first character and the run of the others.
pub first_run : (bytes : List ℕ) (first : ℕ) (others : List ℕ) → bytes ≡ first ∷ others → begins_name first ≡ true → prefix_len continues_name bytes ≡ prefix_len continues_name others + 1
first_run bytes first others parts begins =
    ap (λ (t : List ℕ). prefix_len continues_name t) parts
    ∙ ap (λ (b : Bool). cond (b || (leb 48 first && leb first 57)) (1 + prefix_len continues_name others) 0) begins
    ∙ omega arith

starts_with : (bytes : List ℕ) (first : ℕ) (others : List ℕ) → bytes ≡ first ∷ others → starts_name bytes ≡ begins_name first
starts_with bytes first others parts = ap (λ (t : List ℕ). starts_name t) parts

pub name_is : (bytes : List ℕ) (first : ℕ) (others : List ℕ) (n : ℕ) → bytes ≡ first ∷ others → begins_name first ≡ true → n ≡ prefix_len continues_name others → n < 64 → name_taken bytes ≡ Some (cut_at (n + 1) bytes)
unfolding name_taken
name_is bytes first others n parts begins run few =
    let m = prefix_len continues_name bytes in
    let same : m ≡ n + 1 = first_run bytes first others parts begins ∙ ap (λ (k : ℕ). k + 1) (sym run) in
    let test : (starts_name bytes && leb m 64) ≡ true = and_from (starts_name bytes) (leb m 64) (starts_with bytes first others parts ∙ begins) (le-leb m 64 (omega arith)) in
    cond-true (starts_name bytes && leb m 64) (Some (cut_at m bytes)) None test
    ∙ ap (λ (k : ℕ). Some (cut_at k bytes)) same

no_name : (bytes : List ℕ) → (starts_name bytes && leb (prefix_len continues_name bytes) 64) ≡ false → name_taken bytes ≡ None
unfolding name_taken
no_name bytes test =
    let m = prefix_len continues_name bytes in
    cond-false (starts_name bytes && leb m 64) (Some (cut_at m bytes)) None test

pub name_too_long : (bytes : List ℕ) (first : ℕ) (others : List ℕ) (n : ℕ) → bytes ≡ first ∷ others → begins_name first ≡ true → n ≡ prefix_len continues_name others → 64 ≤ n → name_taken bytes ≡ None
name_too_long bytes first others n parts begins run many = no_name bytes (by_test (leb (prefix_len continues_name bytes) 64) refl) where
  by_test : (t : Bool) → leb (prefix_len continues_name bytes) 64 ≡ t → (starts_name bytes && leb (prefix_len continues_name bytes) 64) ≡ false
  by_test true is =
      let same : prefix_len continues_name bytes ≡ n + 1 = first_run bytes first others parts begins ∙ ap (λ (k : ℕ). k + 1) (sym run) in
      absurd (omega (arith, leb-true (prefix_len continues_name bytes) 64 is))
  by_test false is = rw (starts_with bytes first others parts, begins) is

pub name_not_begun : (bytes : List ℕ) (first : ℕ) (others : List ℕ) → bytes ≡ first ∷ others → begins_name first ≡ false → name_taken bytes ≡ None
name_not_begun bytes first others parts begins = no_name bytes (ap (λ (b : Bool). b && leb (prefix_len continues_name bytes) 64) (starts_with bytes first others parts ∙ begins))

pub nothing_no_name : (bytes : List ℕ) → length bytes ≡ 0 → name_taken bytes ≡ None
nothing_no_name [] none = no_name [] refl
nothing_no_name (c ∷ bytes) none = absurd (omega arith)
