-- What a token is, and which one is taken: the longest that stands at the front (this profile's choice).
use Rattle.std.specs.Prelude.{◌≡◌, ◌≢◌, ◌≤◌, ℕ, ◌+◌, Bool, false, List, [], ◌∷◌, ◌++◌, length, take, IsTrue, Some}
use Rattle.std.specs.List.{list_all}
use Rattle.pssm_spelling.specs.Spelling.{IsName}
use Rattle.pssm_spelling.specs.SpellingReading.{is_digit}
use Rattle.pssm_acts.specs.declared.token.Kind.{Kind}
use Rattle.pssm_acts.specs.declared.token.Kind.TheVariants as kinds
use Rattle.pssm_acts.specs.Tokens.{word_kind, double_sign, single_sign}

-- A token of this kind has these bytes: a word, a number, a parameter or a sign. A number begins with `-` only where no operand stands before it.
pub data IsToken (after_operand : Bool) : Kind → List ℕ → Type 0 where
  word_token : {bytes : List ℕ} → IsName bytes → IsToken after_operand (word_kind bytes) bytes
  natural_token : {bytes : List ℕ} → bytes ≢ [] → IsTrue (list_all is_digit bytes) → IsToken after_operand kinds.Number bytes
  negative_token : {bytes : List ℕ} → after_operand ≡ false → bytes ≢ [] → IsTrue (list_all is_digit bytes) → IsToken after_operand kinds.Number (45 ∷ bytes)
  parameter_token : {k : ℕ} → 1 ≤ k → k ≤ 8 → IsToken after_operand (kinds.Param k) (36 ∷ (48 + k) ∷ [])
  double_token : {c d : ℕ} {kind : Kind} → double_sign c d ≡ Some kind → IsToken after_operand kind (c ∷ d ∷ [])
  single_token : {c : ℕ} → single_sign c ≢ kinds.Unknown → IsToken after_operand (single_sign c) (c ∷ [])

-- The word stands at the front.
abbrev pub HasFront : List ℕ → List ℕ → Type 0
HasFront bytes word = (rest : List ℕ) × (bytes ≡ word ++ rest)

-- No token stands at the front that is longer than so many bytes.
abbrev pub NoneIsLonger : Bool → List ℕ → ℕ → Type 0
NoneIsLonger after_operand bytes n = (kind : Kind) (word : List ℕ) → IsToken after_operand kind word → HasFront bytes word → length word ≤ n

-- What is taken of the front: the longest token that stands there; or, where none does, one byte of no known kind.
pub data IsTaken (after_operand : Bool) (bytes : List ℕ) (kind : Kind) (n : ℕ) : Type 0 where
  token : IsToken after_operand kind (take n bytes) → length (take n bytes) ≡ n → NoneIsLonger after_operand bytes n → IsTaken after_operand bytes kind n
  no_token : kind ≡ kinds.Unknown → n ≡ 1 → NoneIsLonger after_operand bytes 0 → IsTaken after_operand bytes kind n
