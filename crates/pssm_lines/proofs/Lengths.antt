-- How long texts are at most.
use Rattle.std.proofs.Common.{◌≡◌, ℕ, ◌+◌, ◌<◌, ◌≤◌, true, leb, List, ◌++◌, length, arith}
use Rattle.std.specs.Fmt.{decimal}
use Rattle.std.proofs.lemmas.Bool.{leb-true}
use Rattle.std.proofs.lemmas.List.{length-append}
use Rattle.std.proofs.lemmas.Fmt.{length-decimal-le}
use Rattle.pssm_spelling.specs.Spelling.{IsName}

-- at most so many bytes
pub record IsShort (most : ℕ) (bytes : List ℕ) : Type 0 where
  pub few : length bytes ≤ most

pub short_append : (j k : ℕ) (a b : List ℕ) → IsShort j a → IsShort k b → IsShort (j + k) (a ++ b)
short_append j k a b p q = record { few = omega (arith, length-append a b, p.few, q.few) }

pub short_more : (j k : ℕ) (a : List ℕ) → j ≤ k → IsShort j a → IsShort k a
short_more j k a le p = record { few = omega (arith, p.few) }

pub short_name : (text : List ℕ) → IsName text → IsShort 64 text
short_name text name = record { few = name.short }

pub short_number : (n : ℕ) → n < 4294967296 → IsShort 10 (decimal n)
short_number n small = record { few = length-decimal-le 10 n (omega arith) (omega arith) (omega arith) }

-- a word of the grammar
pub short_within : (most : ℕ) (word : List ℕ) → leb (length word) most ≡ true → IsShort most word
short_within most word few = record { few = leb-true (length word) most few }

pub short_word : (word : List ℕ) → leb (length word) 16 ≡ true → IsShort 16 word
short_word word few = short_within 16 word few
