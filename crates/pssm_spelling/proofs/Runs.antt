-- The run of characters of one kind at the front of a text, read one by one.
use Rattle.std.proofs.Common.{◌≡◌, ℕ, ◌+◌, ◌<◌, ◌≤◌, Bool, true, false, List, length, get_or, take, drop, sym, ap, subst, ◌∙◌, arith}
use Rattle.std.specs.List.{prefix_len, list_all}
use Rattle.std.proofs.lemmas.List.{take_more, drop_more, drop_all, take-append-drop, length-take-le}
use Rattle.pssm_spelling.specs.SpellingReading.{EndsRun}
use Rattle.pssm_spelling.proofs.SpellingLaws.{front_again}
use Rattle.pssm_spelling.proofs.FrontLaws.{within_run, one_more}

-- The first so many characters are of the kind.
module _ (p : ℕ → Bool) (xs : List ℕ) (n : ℕ) (run : list_all p (take n xs) ≡ true) where
  -- one more
  pub run_more : n < length xs → p (get_or xs n 0) ≡ true → list_all p (take (n + 1) xs) ≡ true
  run_more more is = subst (λ (t : List ℕ). list_all p t ≡ true) (sym (take_more xs n 0 more)) (one_more p (take n xs) (get_or xs n 0) run is)

  run_is : n ≤ length xs → EndsRun p (drop n xs) → n ≡ prefix_len p xs
  run_is within ends = sym (ap (λ (t : List ℕ). prefix_len p t) (sym (take-append-drop n xs)) ∙ front_again p (take n xs) (drop n xs) run ends ∙ length-take-le n xs within)

  -- another character comes
  pub run_ends : n < length xs → p (get_or xs n 0) ≡ false → n ≡ prefix_len p xs
  run_ends more other = run_is (omega (arith, more)) (subst (λ (t : List ℕ). EndsRun p t) (sym (drop_more xs n 0 more)) other)

  -- no character comes
  pub run_is_all : n ≤ length xs → length xs ≤ n → n ≡ prefix_len p xs
  run_is_all within past = run_is within (subst (λ (t : List ℕ). EndsRun p t) (sym (drop_all n xs past)) tt)

-- So many are not more than the whole run.
pub run_within : (p : ℕ → Bool) (xs : List ℕ) (n : ℕ) → list_all p (take n xs) ≡ true → n ≤ length xs → n ≤ prefix_len p xs
run_within p xs n run within =
    let whole = subst (λ (t : List ℕ). length (take n xs) ≤ prefix_len p t) (take-append-drop n xs) (within_run p (take n xs) (drop n xs) run) in
    let len : length (take n xs) ≡ n = length-take-le n xs within in
    omega (arith, whole, len)
