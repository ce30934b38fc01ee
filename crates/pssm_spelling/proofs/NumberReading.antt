-- The number that the digits at the front spell, where they spell one below the limit.
use Rattle.std.proofs.Common.{◌≡◌, ℕ, ◌<◌, ◌≤◌, Bool, true, false, cond, leb, ltb, ◌&&◌, List, take, drop, Option, Some, None, sym, ap, ◌∙◌}
use Rattle.std.specs.List.{prefix_len}
use Rattle.std.specs.Str.Parse.{digits_value}
use Rattle.std.proofs.lemmas.Bool.{and_from, le-leb, lt-leb, lt-ltb, le-ltb, cond-true, cond-false}
use Rattle.pssm_spelling.specs.SpellingReading.{is_digit, is_plain, number_below}

-- whether the first so many bytes, which are digits, spell such a number
abbrev spell_one : ℕ → List ℕ → ℕ → Bool
spell_one limit bytes n = leb n 10 && is_plain (take n bytes) && ltb (digits_value 10 (take n bytes)) limit

abbrev some_of : ℕ → List ℕ → Option (ℕ × List ℕ)
some_of value rest = Some (value, rest)

-- it, where they do
abbrev spelled_by : List ℕ → ℕ → Option (ℕ × List ℕ)
spelled_by bytes n = some_of (digits_value 10 (take n bytes)) (drop n bytes)

below_is : (limit : ℕ) (bytes : List ℕ) (n : ℕ) → n ≡ prefix_len is_digit bytes → number_below limit bytes ≡ cond (spell_one limit bytes n) (spelled_by bytes n) None
unfolding number_below
below_is limit bytes n run = ap (λ (m : ℕ). cond (spell_one limit bytes m) (spelled_by bytes m) None) (sym run)

module _ (limit : ℕ) (bytes : List ℕ) (n : ℕ) (run : n ≡ prefix_len is_digit bytes) where
  none_below : spell_one limit bytes n ≡ false → None ≡ number_below limit bytes
  none_below test = sym (below_is limit bytes n run ∙ cond-false (spell_one limit bytes n) (spelled_by bytes n) None test)

  -- too many digits
  pub number_many : 10 < n → None ≡ number_below limit bytes
  number_many many = none_below (ap (λ (b : Bool). b && is_plain (take n bytes) && ltb (digits_value 10 (take n bytes)) limit) (lt-leb n 10 many))

  module _ (few : n ≤ 10) (digits : List ℕ) (front : digits ≡ take n bytes) where
    -- no digit, or a zero before others
    pub number_not_plain : is_plain digits ≡ false → None ≡ number_below limit bytes
    number_not_plain plain =
        let here : is_plain (take n bytes) ≡ false = ap is_plain (sym front) ∙ plain in
        none_below (ap (λ (b : Bool). b && is_plain (take n bytes) && ltb (digits_value 10 (take n bytes)) limit) (le-leb n 10 few)
        ∙ ap (λ (b : Bool). true && b && ltb (digits_value 10 (take n bytes)) limit) here)

    module _ (plain : is_plain digits ≡ true) (value : ℕ) (spelled : value ≡ digits_value 10 (take n bytes)) where
      two : (leb n 10 && is_plain (take n bytes)) ≡ true
      two = and_from (leb n 10) (is_plain (take n bytes)) (le-leb n 10 few) (ap is_plain (sym front) ∙ plain)

      -- a number past the limit
      pub number_past : limit ≤ value → None ≡ number_below limit bytes
      number_past past =
          let here : ltb (digits_value 10 (take n bytes)) limit ≡ false = ap (λ (v : ℕ). ltb v limit) (sym spelled) ∙ le-ltb value limit past in
          none_below (ap (λ (b : Bool). b && ltb (digits_value 10 (take n bytes)) limit) two ∙ ap (λ (b : Bool). true && b) here)

      -- the number
      pub number_is : value < limit → (rest : List ℕ) → rest ≡ drop n bytes → some_of value rest ≡ number_below limit bytes
      number_is small rest back =
          let here : ltb (digits_value 10 (take n bytes)) limit ≡ true = ap (λ (v : ℕ). ltb v limit) (sym spelled) ∙ lt-ltb value limit small in
          ap (λ (v : ℕ). some_of v rest) spelled
          ∙ ap (λ (t : List ℕ). some_of (digits_value 10 (take n bytes)) t) back
          ∙ sym (below_is limit bytes n run
          ∙ cond-true (spell_one limit bytes n) (spelled_by bytes n) None (and_from (leb n 10 && is_plain (take n bytes)) (ltb (digits_value 10 (take n bytes)) limit) two here))
