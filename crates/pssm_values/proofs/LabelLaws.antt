-- Labels, character by character.
use Rattle.std.proofs.Common.{◌≡◌, ◌<◌, ◌≤◌, ℕ, suc, Bool, true, false, cond, eqb, ltb, ◌||◌, List, [], ◌∷◌, length, get_or, map, refl, sym, ap, ◌∙◌, arith, inl, inr}
use Rattle.std.specs.Prelude.{encode_utf8_all}
use Rattle.std.proofs.lemmas.Bool.{cond-false, cases_lt, eqb-true, le-ltb}
use Rattle.std.proofs.lemmas.List.{map-append, append-nil}
use Rattle.std.proofs.lemmas.Str.{encode_ascii, inside_one}
use Rattle.pssm_values.specs.Labels.{label_byte}
use lib.Utf8.{encode}

low : (c : ℕ) → c < 128 → label_byte c < 128
low c small = by_test (ltb c 32 || eqb c 127) where
  by_test : (t : Bool) → cond t 32 c < 128
  by_test true = omega arith
  by_test false = small

same : (c : ℕ) → 128 ≤ c → label_byte c ≡ c
same c high = cond-false (ltb c 32 || eqb c 127) 32 c (rw (le-ltb c 32 (omega arith)) (other (eqb c 127) refl)) where
  other : (t : Bool) → eqb c 127 ≡ t → eqb c 127 ≡ false
  other true e = absurd (let is : c ≡ 127 = eqb-true c 127 e in omega arith)
  other false e = e

all_same : (xs : List ℕ) → ((k : ℕ) → k < length xs → 128 ≤ get_or xs k 0) → map label_byte xs ≡ xs
all_same [] high = refl
all_same (x ∷ xs) high =
    let head : label_byte x ≡ x = same x (high 0 (omega arith)) in
    let tail : map label_byte xs ≡ xs = all_same xs (λ k less. high (suc k) (omega arith)) in
    ap (λ (y : ℕ). y ∷ map label_byte xs) head ∙ ap (λ (ys : List ℕ). x ∷ ys) tail

one : (c : ℕ) → map label_byte (encode c) ≡ encode (label_byte c)
one c = elim (cases_lt c 128) [
  | inl small ↦ ap (map label_byte) (encode_ascii c small) ∙ sym (encode_ascii (label_byte c) (low c small))
  | inr high ↦ all_same (encode c) (λ k less. inside k less high) ∙ ap encode (sym (same c high))
] where
  inside : (k : ℕ) → k < length (encode c) → 128 ≤ c → 128 ≤ get_or (encode c) k 0
  inside k less high = elim (cases_lt (get_or (encode c) k 0) 128) [
    | inl small ↦ absurd (let is : c ≡ get_or (encode c) k 0 = inside_one c [] (encode c) k (sym (append-nil (encode c))) less small in omega arith)
    | inr large ↦ large
  ]

pub by_characters : (cs : List ℕ) → map label_byte (encode_utf8_all cs) ≡ encode_utf8_all (map label_byte cs)
by_characters [] = refl
by_characters (c ∷ cs) = map-append label_byte (encode c) (encode_utf8_all cs) ∙ rw (one c, by_characters cs) refl
