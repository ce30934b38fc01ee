-- What the readers take from the front of a text is the longest of its kind.
use Rattle.std.proofs.Common.{◌≡◌, ◌↔◌, ◌≤◌, ◌<◌, ◌+◌, ℕ, suc, Bool, true, false, cond, List, [], ◌∷◌, ◌++◌, length, Some, refl, sym, subst, ◌∙◌, append_assoc, arith, length-append}
use Rattle.std.specs.List.{prefix_len, list_all}
use Rattle.std.specs.Fmt.{decimal}
use Rattle.std.proofs.lemmas.Bool.{and_parts, and_from}
use Rattle.std.proofs.lemmas.Fmt.{digits_decimal}
use Rattle.pssm_spelling.specs.Spelling.{begins_name, continues_name, is_name_text}
use Rattle.pssm_spelling.specs.SpellingReading.{is_digit, EndsRun, stripped, name_taken, number_below}
use Rattle.pssm_spelling.specs.Fronts.{IsLongestFront, IsNameAt, IsNumberAt}
use Rattle.pssm_spelling.proofs.SpellingLaws.{stripped_takes, stripped_again, front_again, name_goes_on, name_takes, name_again, digits_model, number_takes, number_again}

-- ---- runs of characters

-- A front of characters of one kind is within the run of them.
pub within_run : (p : ℕ → Bool) (xs rest : List ℕ) → list_all p xs ≡ true → length xs ≤ prefix_len p (xs ++ rest)
within_run p [] rest all = omega arith
within_run p (x ∷ xs) rest all =
    let both = and_parts (p x) (list_all p xs) all in
    let more = within_run p xs rest both.1 in
    subst (λ (b : Bool). suc (length xs) ≤ cond b (1 + prefix_len p (xs ++ rest)) 0) (sym both.0) (omega (arith, more))

-- A run with one character of its kind more.
pub one_more : (p : ℕ → Bool) (xs : List ℕ) (c : ℕ) → list_all p xs ≡ true → p c ≡ true → list_all p (xs ++ c ∷ []) ≡ true
one_more p [] c all here = and_from (p c) true here refl
one_more p (x ∷ xs) c all here =
    let both = and_parts (p x) (list_all p xs) all in
    and_from (p x) (list_all p (xs ++ c ∷ [])) both.0 (one_more p xs c both.1 here)

one_more_of_name : (xs : List ℕ) (c : ℕ) → is_name_text xs ≡ true → continues_name c ≡ true → is_name_text (xs ++ c ∷ []) ≡ true
one_more_of_name [] c is here = absurd cc
one_more_of_name (x ∷ xs) c is here =
    let both = and_parts (begins_name x) (list_all continues_name xs) is in
    and_from (begins_name x) (list_all continues_name (xs ++ c ∷ [])) both.0 (one_more continues_name xs c both.1 here)

-- ---- the longest of a kind

-- Texts of a kind are runs of characters, and go on with each of these characters.
module _ (is_of_kind : List ℕ → Bool) (p : ℕ → Bool) (runs : (xs : List ℕ) → is_of_kind xs ≡ true → list_all p xs ≡ true)
    (more : (xs : List ℕ) (c : ℕ) → is_of_kind xs ≡ true → p c ≡ true → is_of_kind (xs ++ c ∷ []) ≡ true) where
  -- Where the run ends behind the text, none is longer.
  longest_front : (bytes text rest : List ℕ) → bytes ≡ text ++ rest → is_of_kind text ≡ true → EndsRun p rest → IsLongestFront is_of_kind bytes text rest
  longest_front bytes text rest parts is ends = record {
    parts = parts;
    of_kind = is;
    longest = λ other others e is_other.
        let whole : prefix_len p (text ++ rest) ≡ length text = front_again p text rest (runs text is) ends in
        let within : length other ≤ prefix_len p (other ++ others) = within_run p other others (runs other is_other) in
        subst (λ (n : ℕ). length other ≤ n) whole (subst (λ (t : List ℕ). length other ≤ prefix_len p t) (sym e ∙ parts) within);
  }

  -- Where none is longer, the run ends behind the text.
  run_ends : (bytes text rest : List ℕ) → IsLongestFront is_of_kind bytes text rest → EndsRun p rest
  run_ends bytes text [] front = tt
  run_ends bytes text (c ∷ rest) front = by_test (p c) refl where
    by_test : (b : Bool) → p c ≡ b → p c ≡ false
    by_test false here = here
    by_test true here =
        let again : bytes ≡ (text ++ c ∷ []) ++ rest = front.parts ∙ sym (append_assoc text (c ∷ []) rest) in
        let few : length (text ++ c ∷ []) ≤ length text = front.longest (text ++ c ∷ []) rest again (more text c front.of_kind here) in
        absurd (omega (arith, few, length-append text (c ∷ [])))

-- ---- the laws

pub strip_law : (front bytes rest : List ℕ) → (stripped front bytes ≡ Some rest) ↔ (bytes ≡ front ++ rest)
strip_law front bytes rest = (
  λ e. stripped_takes front bytes rest e,
  λ parts. subst (λ (t : List ℕ). stripped front t ≡ Some rest) (sym parts) (stripped_again front rest),
)

pub name_law : (bytes name rest : List ℕ) → (name_taken bytes ≡ Some (name, rest)) ↔ IsNameAt bytes name rest
name_law bytes name rest = (
  λ e.
      let took = name_takes bytes name rest e in
      record { front = longest_front is_name_text continues_name name_goes_on one_more_of_name bytes name rest took.parts took.name.spelled took.ends; short = took.name.short },
  λ at.
      let ends = run_ends is_name_text continues_name name_goes_on one_more_of_name bytes name rest at.front in
      subst (λ (t : List ℕ). name_taken t ≡ Some (name, rest)) (sym at.front.parts) (name_again name rest (record { spelled = at.front.of_kind; short = at.short }) ends),
)

pub number_law : (limit : ℕ) (bytes : List ℕ) (n : ℕ) (rest : List ℕ) → limit ≤ 4294967296 → (number_below limit bytes ≡ Some (n, rest)) ↔ IsNumberAt limit bytes n rest
number_law limit bytes n rest low = (
  λ e.
      let took = number_takes limit bytes n rest low e in
      let small : n < limit = took.small in
      let digits : list_all is_digit (decimal n) ≡ true = digits_decimal digits_model n (omega arith) in
      record { front = longest_front (list_all is_digit) is_digit (λ xs is. is) (one_more is_digit) bytes (decimal n) rest took.parts digits took.ends; small = small },
  λ at.
      let ends = run_ends (list_all is_digit) is_digit (λ xs is. is) (one_more is_digit) bytes (decimal n) rest at.front in
      subst (λ (t : List ℕ). number_below limit t ≡ Some (n, rest)) (sym at.front.parts) (number_again limit n rest low at.small ends),
)
