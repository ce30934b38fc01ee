-- How the tokens of what is left of a text are found: blanks are passed over, and then a token is taken.
use Rattle.std.proofs.Common.{◌≡◌, ◌≤◌, ◌-◌, ℕ, suc, zero, Bool, true, false, List, [], ◌∷◌, length, take, drop, refl, sym, ◌∙◌, arith, get_or, if◌then◌else◌}
use Rattle.std.proofs.Math.Seq.{take-length}
use Rattle.pssm_acts.specs.declared.token.Kind.{Kind}
use Rattle.pssm_acts.specs.declared.tokens.Tokens.{Tokens}
use Rattle.pssm_acts.specs.inner.TextLeft.{IsShort, left}
use Rattle.pssm_acts.specs.Tokens.{Token, is_blank, front, cut, ends_operand}

-- Bytes that belong to a token are passed over.
cut_used : (end : ℕ) (a : Bool) (n : ℕ) (bytes : List ℕ) → cut end a n bytes ≡ cut end a 0 (drop n bytes)
unfolding cut
cut_used end a zero bytes = refl
cut_used end a (suc n) [] = refl
cut_used end a (suc n) (c ∷ cs) = cut_used end a n cs

-- a token at the front of what is left
abbrev pub piece_at : ℕ → Kind → ℕ → List ℕ → Token
piece_at end kind len bytes = record { at = end - length bytes; kind = kind; word = take len bytes }

pub cut_blank : (end : ℕ) (a : Bool) (c : ℕ) (cs : List ℕ) → is_blank c ≡ true → cut end a 0 (c ∷ cs) ≡ cut end a 0 cs
unfolding cut
cut_blank end a c cs blank = rw blank refl

pub cut_token : (end : ℕ) (a : Bool) (c : ℕ) (cs : List ℕ) (kind : Kind) (n : ℕ) → is_blank c ≡ false → front a (c ∷ cs) ≡ (kind, suc n)
    → cut end a 0 (c ∷ cs) ≡ piece_at end kind (suc n) (c ∷ cs) ∷ cut end (ends_operand kind) 0 (drop n cs)
unfolding cut
cut_token end a c cs kind n solid is = let less : suc n - 1 ≡ n = omega arith in rw (solid, is, less, cut_used end (ends_operand kind) n cs) refl

-- A blank at the front is passed over.
pub blank_passed : (end : ℕ) (a : Bool) (bytes : List ℕ) → 1 ≤ length bytes → is_blank (get_or bytes 0 0) ≡ true → cut end a 0 (drop 1 bytes) ≡ cut end a 0 bytes
blank_passed end a [] some blank = absurd (omega arith)
blank_passed end a (c ∷ cs) some blank = sym (cut_blank end a c cs blank)

-- A token at the front is the first of those that are left.
pub token_first : (end : ℕ) (a : Bool) (bytes : List ℕ) (kind : Kind) (n : ℕ) → is_blank (get_or bytes 0 0) ≡ false → front a bytes ≡ (kind, n) → 1 ≤ n → n ≤ length bytes
    → cut end a 0 bytes ≡ piece_at end kind n bytes ∷ cut end (ends_operand kind) 0 (drop n bytes)
token_first end a [] kind n solid is some within = absurd (omega arith)
token_first end a (c ∷ cs) kind zero solid is some within = absurd (omega arith)
token_first end a (c ∷ cs) kind (suc n) solid is some within = cut_token end a c cs kind n solid is

-- There are no more tokens than bytes.
cut_few : (end : ℕ) (a : Bool) (used : ℕ) (bytes : List ℕ) → length (cut end a used bytes) ≤ length bytes
unfolding cut
cut_few end a used [] = omega arith
cut_few end a (suc used) (c ∷ cs) = let few = cut_few end a used cs in omega (arith, few)
cut_few end a zero (c ∷ cs) = go (λ b n. cut_few end b n cs) (is_blank c) where
  go : ((b : Bool) (n : ℕ) → length (cut end b n cs) ≤ length cs) → (blank : Bool)
      → length (if blank then cut end a 0 cs else piece_at end (front a (c ∷ cs)).0 (front a (c ∷ cs)).1 (c ∷ cs) ∷ cut end (ends_operand (front a (c ∷ cs)).0) ((front a (c ∷ cs)).1 - 1) cs) ≤ suc (length cs)
  go few true = let no_more = few a 0 in omega (arith, no_more)
  go few false = let no_more = few (ends_operand (front a (c ∷ cs)).0) ((front a (c ∷ cs)).1 - 1) in omega (arith, no_more)

pub left_few : (tokens : Tokens) → IsShort tokens → length (left tokens) ≤ 4096
left_few tokens short = let few = cut_few (length tokens.text.now) tokens.after_operand 0 tokens.rest.now in omega (arith, few, short.0, short.1)

pub behind_first : (bytes : List ℕ) → take (length bytes - 1) (drop 1 bytes) ≡ drop 1 bytes
behind_first [] = refl
behind_first (c ∷ cs) = let e : length (c ∷ cs) - 1 ≡ length cs = omega arith in rw e (take-length cs)

-- Nothing is left where no bytes are.
pub none_left : (end : ℕ) (a : Bool) (old bytes : List ℕ) → cut end a 0 bytes ≡ cut end a 0 old → length bytes ≡ 0 → cut end a 0 old ≡ []
unfolding cut
none_left end a old [] same none = sym same
none_left end a old (c ∷ cs) same none = absurd (omega (arith, none))

-- The first token, behind blanks.
pub piece_first : (end : ℕ) (a : Bool) (old bytes word later : List ℕ) (kind : Kind) (n : ℕ) → cut end a 0 bytes ≡ cut end a 0 old → (1 ≤ length bytes → is_blank (get_or bytes 0 0) ≡ false) → front a bytes ≡ (kind, n) → 1 ≤ n → n ≤ length bytes
    → word ≡ take n bytes → later ≡ drop n bytes → cut end a 0 old ≡ record { at = end - length bytes; kind = kind; word = word } ∷ cut end (ends_operand kind) 0 later
piece_first end a old bytes word later kind n same solid is some within front' back =
    rw (front', back) (sym same ∙ token_first end a bytes kind n (solid (omega (arith, some, within))) is some within)
