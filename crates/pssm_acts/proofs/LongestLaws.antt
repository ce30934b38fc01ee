-- The token that is taken is the longest.
use Rattle.std.proofs.Common.{◌≡◌, ◌≢◌, ◌⊎◌, ◌≤◌, ◌+◌, ◌-◌, ℕ, zero, suc, Bool, true, false, leb, eqb, cond, ◌&&◌, ◌||◌, List, [], ◌∷◌, ◌++◌, length, take, Option, Some, None, refl, sym, ap, subst, ◌∙◌, inl, inr, arith, min, nat_lt, slice_index_or, if◌then◌else◌, IsTrue}
use Rattle.std.specs.List.{prefix_len, list_all}
use Rattle.std.proofs.lemmas.Bool.{and_parts, or_cases, leb-true, leb-false, eqb-true, eq-eqb, le-leb, false≢true}
use Rattle.std.proofs.Math.Nat.{min-le_left, min-le_right, le-min}
use Rattle.std.proofs.lemmas.List.{length-take-le}
use Rattle.std.proofs.lemmas.List.Sums.{prefix_len-le-length}
use Rattle.pssm_spelling.specs.Spelling.{begins_name, continues_name, is_name_text, IsName}
use Rattle.pssm_spelling.specs.SpellingReading.{is_digit}
use Rattle.pssm_semantics.specs.declared.tree.Rel.TheVariants.{Eq, Ne, Lt, Le, Gt, Ge}
use Rattle.pssm_acts.specs.declared.token.Kind.{Kind}
use Rattle.pssm_acts.specs.declared.token.Kind.TheVariants as kinds
use Rattle.pssm_acts.specs.Tokens.{word_kind, double_sign, single_sign, longest_sign, sign_front, number_or_sign, negative_len, number_len, front}
use Rattle.pssm_acts.specs.Longest.{IsToken, word_token, natural_token, negative_token, parameter_token, double_token, single_token, HasFront, NoneIsLonger, IsTaken, token, no_token}

-- ---- runs of one kind

-- A front of characters of one kind is within the run of them.
within_run : (p : ℕ → Bool) (xs rest : List ℕ) → list_all p xs ≡ true → length xs ≤ prefix_len p (xs ++ rest)
within_run p [] rest all = omega arith
within_run p (x ∷ xs) rest all =
    let both = and_parts (p x) (list_all p xs) all in
    let more = within_run p xs rest both.1 in
    subst (λ b. suc (length xs) ≤ cond b (1 + prefix_len p (xs ++ rest)) 0) (sym both.0) (omega (arith, more))

within_front : (p : ℕ → Bool) (bytes xs : List ℕ) → list_all p xs ≡ true → HasFront bytes xs → length xs ≤ prefix_len p bytes
within_front p bytes xs all at = subst (λ (t : List ℕ). length xs ≤ prefix_len p t) (sym at.1) (within_run p xs at.0 all)

-- The first characters of a run are of its kind.
front_of_run : (p : ℕ → Bool) (n : ℕ) (xs : List ℕ) → n ≤ prefix_len p xs → list_all p (take n xs) ≡ true
front_of_run p zero xs few = refl
front_of_run p (suc n) [] few = refl
front_of_run p (suc n) (x ∷ xs) few = by_first (p x) refl few (λ less. front_of_run p n xs less) where
  by_first : (b : Bool) → p x ≡ b → suc n ≤ cond b (1 + prefix_len p xs) 0 → (n ≤ prefix_len p xs → list_all p (take n xs) ≡ true) → (p x && list_all p (take n xs)) ≡ true
  by_first true is few more = rw is (more (omega (arith, few)))
  by_first false is few more = absurd (omega (arith, few))

-- ---- the first byte of a token

-- Where a double sign stands, one of the tests on its bytes is met.
by_double : {P : Type 0} {kind : Kind} (b0 b1 b2 b3 b4 b5 b6 : Bool) → (b0 ≡ true → P) → (b1 ≡ true → P) → (b2 ≡ true → P) → (b3 ≡ true → P) → (b4 ≡ true → P) → (b5 ≡ true → P) → (b6 ≡ true → P)
    → (if b0 then Some kinds.And else if b1 then Some kinds.Or else if b2 then Some (kinds.Relation Eq) else if b3 then Some (kinds.Relation Ne) else if b4 then Some (kinds.Relation Le) else if b5 then Some (kinds.Relation Ge) else if b6 then Some kinds.Becomes else None) ≡ Some kind → P
by_double true b1 b2 b3 b4 b5 b6 h0 h1 h2 h3 h4 h5 h6 is = h0 refl
by_double false true b2 b3 b4 b5 b6 h0 h1 h2 h3 h4 h5 h6 is = h1 refl
by_double false false true b3 b4 b5 b6 h0 h1 h2 h3 h4 h5 h6 is = h2 refl
by_double false false false true b4 b5 b6 h0 h1 h2 h3 h4 h5 h6 is = h3 refl
by_double false false false false true b5 b6 h0 h1 h2 h3 h4 h5 h6 is = h4 refl
by_double false false false false false true b6 h0 h1 h2 h3 h4 h5 h6 is = h5 refl
by_double false false false false false false true h0 h1 h2 h3 h4 h5 h6 is = h6 refl
by_double false false false false false false false h0 h1 h2 h3 h4 h5 h6 is = absurd (cc)

-- What holds of no first byte of a double sign does not hold of this one.
module _ (f : ℕ → Bool) (n38 : f 38 ≡ false) (n124 : f 124 ≡ false) (n61 : f 61 ≡ false) (n33 : f 33 ≡ false) (n60 : f 60 ≡ false) (n62 : f 62 ≡ false) (n58 : f 58 ≡ false) where
  of_first : (c n : ℕ) (x : Bool) → (eqb c n && x) ≡ true → f n ≡ false → f c ≡ false
  of_first c n x e is = subst (λ k. f k ≡ false) (sym (eqb-true c n (and_parts (eqb c n) x e).0)) is

  of_double : (c d : ℕ) (kind : Kind) → double_sign c d ≡ Some kind → f c ≡ false
  of_double c d kind is =
      by_double (eqb c 38 && eqb d 38) (eqb c 124 && eqb d 124) (eqb c 61 && eqb d 61) (eqb c 33 && eqb d 61) (eqb c 60 && eqb d 61) (eqb c 62 && eqb d 61) (eqb c 58 && eqb d 61)
      (λ e. of_first c 38 (eqb d 38) e n38) (λ e. of_first c 124 (eqb d 124) e n124) (λ e. of_first c 61 (eqb d 61) e n61) (λ e. of_first c 33 (eqb d 61) e n33)
      (λ e. of_first c 60 (eqb d 61) e n60) (λ e. of_first c 62 (eqb d 61) e n62) (λ e. of_first c 58 (eqb d 61) e n58) is

-- A token that begins with this byte and is longer than so many bytes: what of each sort is to be refuted.
module _ (a : Bool) (c : ℕ) (cs : List ℕ) where
  first_is : (x : ℕ) (xs : List ℕ) → HasFront (c ∷ cs) (x ∷ xs) → c ≡ x
  first_is x xs at = let same : c ∷ cs ≡ x ∷ (xs ++ at.0) = at.1 in cc

  name_first : (w : List ℕ) → IsName w → HasFront (c ∷ cs) w → begins_name c ≡ true
  name_first [] name at = absurd (false≢true name.spelled)
  name_first (x ∷ xs) name at = subst (λ k. begins_name k ≡ true) (sym (first_is x xs at)) (and_parts (begins_name x) (list_all continues_name xs) name.spelled).0

  digit_first : (w : List ℕ) → w ≢ [] → IsTrue (list_all is_digit w) → HasFront (c ∷ cs) w → is_digit c ≡ true
  digit_first [] some all at = absurd (some refl)
  digit_first (x ∷ xs) some all at = subst (λ k. is_digit k ≡ true) (sym (first_is x xs at)) (and_parts (is_digit x) (list_all is_digit xs) all).0

digit_begins_no_name : (c : ℕ) → is_digit c ≡ true → begins_name c ≡ true → ⊥
digit_begins_no_name c digit letter =
    let range = and_parts (leb 48 c) (leb c 57) digit in
    let high : c ≤ 57 = leb-true c 57 range.1 in
    let low : 48 ≤ c = leb-true 48 c range.0 in
    elim (or_cases ((leb 65 c && leb c 90) || (leb 97 c && leb c 122)) (eqb c 95) letter) [
      | inl letters ↦ elim (or_cases (leb 65 c && leb c 90) (leb 97 c && leb c 122) letters) [
        | inl capital ↦ let least : 65 ≤ c = leb-true 65 c (and_parts (leb 65 c) (leb c 90) capital).0 in omega (arith, high, least)
        | inr small ↦ let least : 97 ≤ c = leb-true 97 c (and_parts (leb 97 c) (leb c 122) small).0 in omega (arith, high, least)
      ]
      | inr line ↦ let is : c ≡ 95 = eqb-true c 95 line in omega (arith, high, is)
    ]

-- A number of `-` and digits, where no operand stands before it.
negative_some : (n : ℕ) → 1 ≤ n → negative_len false n ≡ 1 + n
negative_some n some = by_test (eqb n 0) refl where
  by_test : (b : Bool) → eqb n 0 ≡ b → (if b then 0 else 1 + n) ≡ 1 + n
  by_test true e = absurd (omega (arith, some, eqb-true n 0 e))
  by_test false e = refl

-- A byte is a sign, or it is none.
known_or_not : (c : ℕ) → (single_sign c ≡ kinds.Unknown) ⊎ (single_sign c ≢ kinds.Unknown)
known_or_not c = by_tests (eqb c 43) (eqb c 45) (eqb c 42) (eqb c 40) (eqb c 41) (eqb c 91) (eqb c 93) (eqb c 123) (eqb c 125) (eqb c 33) (eqb c 60) (eqb c 62) (eqb c 59) (eqb c 44) (eqb c 46) where
  by_tests : (b0 b1 b2 b3 b4 b5 b6 b7 b8 b9 b10 b11 b12 b13 b14 : Bool)
      → ((if b0 then kinds.Plus else if b1 then kinds.Minus else if b2 then kinds.Times else if b3 then kinds.Open else if b4 then kinds.Close else if b5 then kinds.OpenBracket else if b6 then kinds.CloseBracket else if b7 then kinds.OpenBrace else if b8 then kinds.CloseBrace else if b9 then kinds.Not else if b10 then kinds.Relation Lt else if b11 then kinds.Relation Gt else if b12 then kinds.Semicolon else if b13 then kinds.Comma else if b14 then kinds.Dot else kinds.Unknown) ≡ kinds.Unknown) ⊎ ((if b0 then kinds.Plus else if b1 then kinds.Minus else if b2 then kinds.Times else if b3 then kinds.Open else if b4 then kinds.Close else if b5 then kinds.OpenBracket else if b6 then kinds.CloseBracket else if b7 then kinds.OpenBrace else if b8 then kinds.CloseBrace else if b9 then kinds.Not else if b10 then kinds.Relation Lt else if b11 then kinds.Relation Gt else if b12 then kinds.Semicolon else if b13 then kinds.Comma else if b14 then kinds.Dot else kinds.Unknown) ≢ kinds.Unknown)
  by_tests true b1 b2 b3 b4 b5 b6 b7 b8 b9 b10 b11 b12 b13 b14 = inr (λ e. cc)
  by_tests false true b2 b3 b4 b5 b6 b7 b8 b9 b10 b11 b12 b13 b14 = inr (λ e. cc)
  by_tests false false true b3 b4 b5 b6 b7 b8 b9 b10 b11 b12 b13 b14 = inr (λ e. cc)
  by_tests false false false true b4 b5 b6 b7 b8 b9 b10 b11 b12 b13 b14 = inr (λ e. cc)
  by_tests false false false false true b5 b6 b7 b8 b9 b10 b11 b12 b13 b14 = inr (λ e. cc)
  by_tests false false false false false true b6 b7 b8 b9 b10 b11 b12 b13 b14 = inr (λ e. cc)
  by_tests false false false false false false true b7 b8 b9 b10 b11 b12 b13 b14 = inr (λ e. cc)
  by_tests false false false false false false false true b8 b9 b10 b11 b12 b13 b14 = inr (λ e. cc)
  by_tests false false false false false false false false true b9 b10 b11 b12 b13 b14 = inr (λ e. cc)
  by_tests false false false false false false false false false true b10 b11 b12 b13 b14 = inr (λ e. cc)
  by_tests false false false false false false false false false false true b11 b12 b13 b14 = inr (λ e. cc)
  by_tests false false false false false false false false false false false true b12 b13 b14 = inr (λ e. cc)
  by_tests false false false false false false false false false false false false true b13 b14 = inr (λ e. cc)
  by_tests false false false false false false false false false false false false false true b14 = inr (λ e. cc)
  by_tests false false false false false false false false false false false false false false true = inr (λ e. cc)
  by_tests false false false false false false false false false false false false false false false = inl refl

module _ (a : Bool) (c : ℕ) (cs : List ℕ) where
  -- the byte behind the first, or 0
  abbrev second : ℕ
  second = slice_index_or (c ∷ cs) 1 0

  second_is : (x d : ℕ) → HasFront (c ∷ cs) (x ∷ d ∷ []) → second ≡ d
  second_is x d at = ap (λ (t : List ℕ). slice_index_or t 1 0) at.1

  -- Tokens of each sort are no longer.
  none_longer : (n : ℕ) → ((w : List ℕ) → IsName w → HasFront (c ∷ cs) w → length w ≤ n) → ((w : List ℕ) → w ≢ [] → IsTrue (list_all is_digit w) → HasFront (c ∷ cs) w → length w ≤ n)
      → ((w : List ℕ) → a ≡ false → w ≢ [] → IsTrue (list_all is_digit w) → HasFront (c ∷ cs) (45 ∷ w) → suc (length w) ≤ n)
      → ((k : ℕ) → 1 ≤ k → k ≤ 8 → c ≡ 36 → second ≡ 48 + k → 2 ≤ n) → ((kind : Kind) → double_sign c second ≡ Some kind → 2 ≤ n) → (single_sign c ≢ kinds.Unknown → 1 ≤ n)
      → NoneIsLonger a (c ∷ cs) n
  none_longer n words naturals negatives parameters doubles singles kind w is at = by_sort is at where
    by_sort : {kind : Kind} {w : List ℕ} → IsToken a kind w → HasFront (c ∷ cs) w → length w ≤ n
    by_sort (word_token {bytes} name) at = words bytes name at
    by_sort (natural_token {bytes} some all) at = naturals bytes some all at
    by_sort (negative_token {bytes} none some all) at = negatives bytes none some all at
    by_sort (parameter_token {k} low high) at = parameters k low high (first_is a c cs 36 ((48 + k) ∷ []) at) (second_is 36 (48 + k) at)
    by_sort (double_token {c = x} {d} {kind} is) at =
        doubles kind (subst (λ y. double_sign c y ≡ Some kind) (sym (second_is x d at)) (subst (λ y. double_sign y d ≡ Some kind) (sym (first_is a c cs x (d ∷ []) at)) is))
    by_sort (single_token {c = x} known) at = singles (subst (λ y. single_sign y ≢ kinds.Unknown) (sym (first_is a c cs x [] at)) known)

  apart : (f : ℕ → Bool) (x : ℕ) → c ≡ x → f x ≡ false → f c ≡ true → ⊥
  apart f x is fails holds = false≢true (sym fails ∙ subst (λ k. f k ≡ true) is holds)

  -- ---- a word

  word_taken : begins_name c ≡ true → (n : ℕ) → n ≡ min (prefix_len continues_name (c ∷ cs)) 64 → IsTaken a (c ∷ cs) (word_kind (take n (c ∷ cs))) n
  word_taken letter n is = token (word_token (record { spelled = named n some (front_of_run continues_name n (c ∷ cs) in_run); short = omega (arith, whole, short) })) whole
      (none_longer n
      (λ w name at. subst (λ k. length w ≤ k) (sym is) (le-min (within_front continues_name (c ∷ cs) w (all_continue w name) at) name.short))
      (λ w more all at. absurd (digit_begins_no_name c (digit_first a c cs w more all at) letter))
      (λ w none more all at. absurd (apart begins_name 45 (first_is a c cs 45 w at) refl letter))
      (λ k low high first behind_it. absurd (apart begins_name 36 first refl letter))
      (λ kind double. absurd (false≢true (sym (of_double begins_name refl refl refl refl refl refl refl c second kind double) ∙ letter)))
      (λ known. some))
    where
      in_run : n ≤ prefix_len continues_name (c ∷ cs)
      in_run = omega (arith, is, min-le_left (prefix_len continues_name (c ∷ cs)) 64)

      short : n ≤ 64
      short = omega (arith, is, min-le_right (prefix_len continues_name (c ∷ cs)) 64)

      some : 1 ≤ n
      some = subst (λ k. 1 ≤ k) (sym is) (le-min (within_run continues_name (c ∷ []) cs (rw letter refl)) (omega arith))

      whole : length (take n (c ∷ cs)) ≡ n
      whole = length-take-le n (c ∷ cs) (omega (arith, in_run, prefix_len-le-length continues_name (c ∷ cs)))

      named : (k : ℕ) → 1 ≤ k → list_all continues_name (take k (c ∷ cs)) ≡ true → is_name_text (take k (c ∷ cs)) ≡ true
      named zero few all = absurd (omega (arith, few))
      named (suc k) few all = rw letter (and_parts (continues_name c) (list_all continues_name (take k cs)) all).1

      all_continue : (w : List ℕ) → IsName w → list_all continues_name w ≡ true
      all_continue [] name = refl
      all_continue (x ∷ xs) name = let both = and_parts (begins_name x) (list_all continues_name xs) name.spelled in rw (both.0, both.1) refl

  -- ---- a number

  natural_taken : is_digit c ≡ true → (n : ℕ) → n ≡ prefix_len is_digit (c ∷ cs) → IsTaken a (c ∷ cs) kinds.Number n
  natural_taken digit n is = token (natural_token filled (front_of_run is_digit n (c ∷ cs) (omega (arith, is)))) whole
      (none_longer n
      (λ w name at. absurd (digit_begins_no_name c digit (name_first a c cs w name at)))
      (λ w more all at. subst (λ k. length w ≤ k) (sym is) (within_front is_digit (c ∷ cs) w all at))
      (λ w none more all at. absurd (apart is_digit 45 (first_is a c cs 45 w at) refl digit))
      (λ k low high first behind_it. absurd (apart is_digit 36 first refl digit))
      (λ kind double. absurd (false≢true (sym (of_double is_digit refl refl refl refl refl refl refl c second kind double) ∙ digit)))
      (λ known. some))
    where
      some : 1 ≤ n
      some = subst (λ k. 1 ≤ k) (sym is) (within_run is_digit (c ∷ []) cs (rw digit refl))

      whole : length (take n (c ∷ cs)) ≡ n
      whole = length-take-le n (c ∷ cs) (omega (arith, is, prefix_len-le-length is_digit (c ∷ cs)))

      filled : take n (c ∷ cs) ≢ []
      filled none = let l = ap length none in omega (arith, l, whole, some)

  negative_taken : c ≡ 45 → a ≡ false → (n : ℕ) → n ≡ 1 + prefix_len is_digit cs → 1 ≤ prefix_len is_digit cs → IsTaken a (c ∷ cs) kinds.Number n
  negative_taken first none n is some = token (subst (IsToken a kinds.Number) (sym parts) (negative_token none filled (front_of_run is_digit (prefix_len is_digit cs) cs (omega arith)))) whole
      (none_longer n
      (λ w name at. absurd (apart begins_name 45 first refl (name_first a c cs w name at)))
      (λ w more all at. absurd (apart is_digit 45 first refl (digit_first a c cs w more all at)))
      (λ w free more all at. let within = within_front is_digit cs w all (behind w at) in omega (arith, is, within))
      (λ k low high other behind_it. absurd (omega (arith, first, other)))
      (λ kind double. absurd (false≢true (sym (of_double (λ k. eqb k 45) refl refl refl refl refl refl refl c second kind double) ∙ subst (λ k. eqb k 45 ≡ true) (sym first) refl)))
      (λ known. omega (arith, is)))
    where
      parts : take n (c ∷ cs) ≡ 45 ∷ take (prefix_len is_digit cs) cs
      parts = ap (λ k. take k (c ∷ cs)) (is ∙ (let next : 1 + prefix_len is_digit cs ≡ suc (prefix_len is_digit cs) = omega arith in next)) ∙ ap (λ k. k ∷ take (prefix_len is_digit cs) cs) first

      whole : length (take n (c ∷ cs)) ≡ n
      whole = length-take-le n (c ∷ cs) (omega (arith, is, prefix_len-le-length is_digit cs))

      filled : take (prefix_len is_digit cs) cs ≢ []
      filled empty = let l = ap length empty in let full = length-take-le (prefix_len is_digit cs) cs (prefix_len-le-length is_digit cs) in omega (arith, l, full, some)

      behind : (w : List ℕ) → HasFront (c ∷ cs) (45 ∷ w) → HasFront cs w
      behind w at = (at.0, (let same : c ∷ cs ≡ 45 ∷ (w ++ at.0) = at.1 in cc))

  -- ---- a sign

  module _ (letter : begins_name c ≡ false) (none : number_len a (c ∷ cs) ≡ 0) where
    no_word : (w : List ℕ) → IsName w → HasFront (c ∷ cs) w → ⊥
    no_word w name at = false≢true (sym letter ∙ name_first a c cs w name at)

    no_natural : is_digit c ≡ true → ⊥
    unfolding number_len
    no_natural digit = by_dash (eqb c 45) refl none where
      by_dash : (b : Bool) → eqb c 45 ≡ b → (if b then negative_len a (prefix_len is_digit cs) else prefix_len is_digit (c ∷ cs)) ≡ 0 → ⊥
      by_dash true dash e = apart is_digit 45 (eqb-true c 45 dash) refl digit
      by_dash false other e = let some = within_run is_digit (c ∷ []) cs (rw digit refl) in omega (arith, e, some)

    no_negative : c ≡ 45 → a ≡ false → 1 ≤ prefix_len is_digit cs → ⊥
    unfolding number_len
    no_negative first free some = by_dash (eqb c 45) refl none where
      by_count : (n : ℕ) → 1 ≤ n → negative_len false n ≡ 0 → ⊥
      by_count n some e = omega (arith, sym (negative_some n some) ∙ e)

      by_dash : (b : Bool) → eqb c 45 ≡ b → (if b then negative_len a (prefix_len is_digit cs) else prefix_len is_digit (c ∷ cs)) ≡ 0 → ⊥
      by_dash true dash e = by_count (prefix_len is_digit cs) some (subst (λ b. negative_len b (prefix_len is_digit cs) ≡ 0) free e)
      by_dash false other e = false≢true (sym other ∙ subst (λ k. eqb k 45 ≡ true) (sym first) refl)

    only_signs : (n : ℕ) → ((k : ℕ) → 1 ≤ k → k ≤ 8 → c ≡ 36 → second ≡ 48 + k → 2 ≤ n) → ((kind : Kind) → double_sign c second ≡ Some kind → 2 ≤ n) → (single_sign c ≢ kinds.Unknown → 1 ≤ n) → NoneIsLonger a (c ∷ cs) n
    only_signs n parameters doubles singles = none_longer n
        (λ w name at. absurd (no_word w name at))
        (λ w some all at. absurd (no_natural (digit_first a c cs w some all at)))
        (λ w free some all at. absurd (no_negative (first_is a c cs 45 w at) free (filled w some (within_front is_digit cs w all (behind_dash w at)))))
        parameters doubles singles
      where
        behind_dash : (w : List ℕ) → HasFront (c ∷ cs) (45 ∷ w) → HasFront cs w
        behind_dash w at = (at.0, (let same : c ∷ cs ≡ 45 ∷ (w ++ at.0) = at.1 in cc))

        filled : (w : List ℕ) → w ≢ [] → length w ≤ prefix_len is_digit cs → 1 ≤ prefix_len is_digit cs
        filled [] some within = absurd (some refl)
        filled (x ∷ w) some within = omega (arith, within)

    -- The two bytes at the front are there where the second is none of those that stand for no byte.
    two_bytes : (d : ℕ) → second ≡ d → 1 ≤ d → (take 2 (c ∷ cs) ≡ c ∷ d ∷ []) × (length (take 2 (c ∷ cs)) ≡ 2)
    two_bytes d is some = by_rest cs is where
      by_rest : (xs : List ℕ) → slice_index_or (c ∷ xs) 1 0 ≡ d → (take 2 (c ∷ xs) ≡ c ∷ d ∷ []) × (length (take 2 (c ∷ xs)) ≡ 2)
      by_rest [] is = absurd (omega (arith, is, some))
      by_rest (x ∷ xs) is = (ap (λ y. c ∷ y ∷ []) is, refl)

    parameter_taken : c ≡ 36 → 49 ≤ second → second ≤ 56 → IsTaken a (c ∷ cs) (kinds.Param (second - 48)) 2
    parameter_taken first low high =
        let two = two_bytes second refl (omega (arith, low)) in
        let digit : second ≡ 48 + (second - 48) = omega (arith, low) in
        let bytes : take 2 (c ∷ cs) ≡ 36 ∷ (48 + (second - 48)) ∷ [] = two.0 ∙ ap (λ k. k ∷ second ∷ []) first ∙ ap (λ k. 36 ∷ k ∷ []) digit in
        token (subst (IsToken a (kinds.Param (second - 48))) (sym bytes) (parameter_token (omega (arith, low)) (omega (arith, high)))) two.1
        (only_signs 2 (λ k least most is behind_it. omega arith) (λ kind double. omega arith) (λ known. omega arith))

    -- A double sign's second byte is there.
    some_second : (kind : Kind) → double_sign c second ≡ Some kind → 1 ≤ second
    some_second kind is =
        by_double (eqb c 38 && eqb second 38) (eqb c 124 && eqb second 124) (eqb c 61 && eqb second 61) (eqb c 33 && eqb second 61) (eqb c 60 && eqb second 61) (eqb c 62 && eqb second 61) (eqb c 58 && eqb second 61)
        (λ e. is_some (eqb c 38) 38 e (omega arith)) (λ e. is_some (eqb c 124) 124 e (omega arith)) (λ e. is_some (eqb c 61) 61 e (omega arith)) (λ e. is_some (eqb c 33) 61 e (omega arith))
        (λ e. is_some (eqb c 60) 61 e (omega arith)) (λ e. is_some (eqb c 62) 61 e (omega arith)) (λ e. is_some (eqb c 58) 61 e (omega arith)) is
      where
        is_some : (b : Bool) (n : ℕ) → (b && eqb second n) ≡ true → 1 ≤ n → 1 ≤ second
        is_some b n both some = omega (arith, eqb-true second n (and_parts b (eqb second n) both).1, some)

    double_taken : (kind : Kind) → double_sign c second ≡ Some kind → IsTaken a (c ∷ cs) kind 2
    double_taken kind is =
        let two = two_bytes second refl (some_second kind is) in
        token (subst (IsToken a kind) (sym two.0) (double_token is)) two.1 (only_signs 2 (λ k least most first behind_it. omega arith) (λ other double. omega arith) (λ known. omega arith))

    module _ (no_parameter : c ≡ 36 → 49 ≤ second → second ≤ 56 → ⊥) (no_double : double_sign c second ≡ None) where
      only_single : (n : ℕ) → (single_sign c ≢ kinds.Unknown → 1 ≤ n) → NoneIsLonger a (c ∷ cs) n
      only_single n singles = only_signs n
          (λ k least most first digit. absurd (no_parameter first (omega (arith, least, digit)) (omega (arith, most, digit))))
          (λ kind double. absurd (let none : None ≡ Some kind = sym no_double ∙ double in cc))
          singles

      single_taken : IsTaken a (c ∷ cs) (single_sign c) 1
      single_taken = elim (known_or_not c) [
        | inl unknown ↦ no_token unknown refl (only_single 0 (λ known. absurd (known unknown)))
        | inr known ↦ token (single_token known) refl (only_single 1 (λ k. omega arith))
      ]

    sign_taken : IsTaken a (c ∷ cs) (sign_front c second).0 (sign_front c second).1
    unfolding sign_front
    sign_taken = by_parameter ((eqb c 36 && leb 49 second) && leb second 56) refl where
      not_parameter : ((eqb c 36 && leb 49 second) && leb second 56) ≡ false → c ≡ 36 → 49 ≤ second → second ≤ 56 → ⊥
      not_parameter fails first low high = false≢true (sym fails ∙ rw (eq-eqb c 36 first, le-leb 49 second low, le-leb second 56 high) refl)

      by_double : ((eqb c 36 && leb 49 second) && leb second 56) ≡ false → (o : Option Kind) → double_sign c second ≡ o → IsTaken a (c ∷ cs) (longest_sign o c).0 (longest_sign o c).1
      by_double fails (Some kind) is = double_taken kind is
      by_double fails None is = single_taken (not_parameter fails) is

      by_parameter : (b : Bool) → ((eqb c 36 && leb 49 second) && leb second 56) ≡ b
          → IsTaken a (c ∷ cs) (if b then (kinds.Param (second - 48), 2) else longest_sign (double_sign c second) c).0 (if b then (kinds.Param (second - 48), 2) else longest_sign (double_sign c second) c).1
      by_parameter true holds =
          let parts = and_parts (eqb c 36 && leb 49 second) (leb second 56) holds in
          let first = and_parts (eqb c 36) (leb 49 second) parts.0 in
          parameter_taken (eqb-true c 36 first.0) (leb-true 49 second first.1) (leb-true second 56 parts.1)
      by_parameter false fails = by_double fails (double_sign c second) refl

  -- ---- what is taken

  number_taken : (n : ℕ) → number_len a (c ∷ cs) ≡ suc n → IsTaken a (c ∷ cs) kinds.Number (suc n)
  unfolding number_len
  number_taken n is = by_dash (eqb c 45) refl is where
    by_negative : c ≡ 45 → (b : Bool) → a ≡ b → (digits : ℕ) → prefix_len is_digit cs ≡ digits → negative_len b digits ≡ suc n → IsTaken a (c ∷ cs) kinds.Number (suc n)
    by_negative first true operand digits counted e = let none : 0 ≡ suc n = e in absurd (omega (arith, none))
    by_negative first false operand zero counted e = let none : 0 ≡ suc n = e in absurd (omega (arith, none))
    by_negative first false operand (suc k) counted e = let whole : 1 + suc k ≡ suc n = sym (negative_some (suc k) (omega arith)) ∙ e in negative_taken first operand (suc n) (omega (arith, whole, counted)) (omega (arith, counted))

    by_digit : (b : Bool) → is_digit c ≡ b → cond b (1 + prefix_len is_digit cs) 0 ≡ suc n → prefix_len is_digit (c ∷ cs) ≡ suc n → IsTaken a (c ∷ cs) kinds.Number (suc n)
    by_digit true digit e counted = natural_taken digit (suc n) (sym counted)
    by_digit false digit e counted = let none : 0 ≡ suc n = e in absurd (omega (arith, none))

    by_dash : (b : Bool) → eqb c 45 ≡ b → (if b then negative_len a (prefix_len is_digit cs) else prefix_len is_digit (c ∷ cs)) ≡ suc n → IsTaken a (c ∷ cs) kinds.Number (suc n)
    by_dash true dash e = by_negative (eqb-true c 45 dash) a refl (prefix_len is_digit cs) refl e
    by_dash false other e = by_digit (is_digit c) refl e e

-- What is taken of bytes that are there is the longest token at their front.
pub longest_taken : (a : Bool) (c : ℕ) (cs : List ℕ) → IsTaken a (c ∷ cs) (front a (c ∷ cs)).0 (front a (c ∷ cs)).1
unfolding front
longest_taken a c cs = by_first (begins_name c) refl where
  by_number : begins_name c ≡ false → (n : ℕ) → number_len a (c ∷ cs) ≡ n → (b : Bool) → nat_lt 0 n ≡ b
      → IsTaken a (c ∷ cs) (if b then (kinds.Number, n) else sign_front c (slice_index_or (c ∷ cs) 1 0)).0 (if b then (kinds.Number, n) else sign_front c (slice_index_or (c ∷ cs) 1 0)).1
  by_number letter zero none true less = absurd (false≢true less)
  by_number letter zero none false less = sign_taken a c cs letter none
  by_number letter (suc n) some true less = number_taken a c cs n some
  by_number letter (suc n) some false less = absurd (omega (arith, leb-false 1 (suc n) less))

  by_first : (b : Bool) → begins_name c ≡ b
      → IsTaken a (c ∷ cs) (if b then (word_kind (take (min (prefix_len continues_name (c ∷ cs)) 64) (c ∷ cs)), min (prefix_len continues_name (c ∷ cs)) 64) else number_or_sign (number_len a (c ∷ cs)) (c ∷ cs)).0
      (if b then (word_kind (take (min (prefix_len continues_name (c ∷ cs)) 64) (c ∷ cs)), min (prefix_len continues_name (c ∷ cs)) 64) else number_or_sign (number_len a (c ∷ cs)) (c ∷ cs)).1
  by_first true letter = word_taken a c cs letter (min (prefix_len continues_name (c ∷ cs)) 64) refl
  by_first false letter = by_number letter (number_len a (c ∷ cs)) refl (nat_lt 0 (number_len a (c ∷ cs))) refl
