-- The calls that inputs have answered, and the bytes that they gave.
use Rattle.std.specs.Prelude.{◌≡◌, ℕ, ◌+◌, ◌<◌, List, [], ◌∷◌, ◌++◌, length, ⊤, Option, Some, None}

-- a call that was answered: of which path, from which offset on, and the bytes that it gave, which are none where it met the end
pub record Reading : Type 0 where
  pub path : List ℕ
  pub from : ℕ
  pub bytes : List ℕ

-- the same, from its parts
abbrev pub reading : List ℕ → ℕ → List ℕ → Reading
reading path from bytes = record { path = path; from = from; bytes = bytes }

-- all calls that were answered so far, the first of them first, where they are kept
abbrev pub History : Type 0
History = Option (List Reading)

-- Where a history is kept, calls were added to it that have this property, and nothing else changed in it.
abbrev pub Added : History → History → (List Reading → Type 0) → Type 0
Added None after P = ⊤
Added (Some calls) None P = ⊥
Added (Some calls) (Some all) P = (more : List Reading) × (all ≡ calls ++ more) × P more

-- these calls were added
abbrev pub Adds : History → History → List Reading → Type 0
Adds before after calls = Added before after (λ more. more ≡ calls)

-- some calls were added, or none
abbrev pub Grows : History → History → Type 0
Grows before after = Added before after (λ more. ⊤)

-- The calls read the path piece after piece, from an offset on and not to its end, and these are the bytes that they gave.
abbrev pub ReadsOn : List ℕ → ℕ → List Reading → List ℕ → Type 0
ReadsOn path from [] bytes = bytes ≡ []
ReadsOn path from (call ∷ calls) bytes =
    (piece rest : List ℕ) × (call ≡ reading path from piece) × (0 < length piece) × (bytes ≡ piece ++ rest) × ReadsOn path (from + length piece) calls rest

-- The calls read the path once, from its start to its end, and these are the bytes that they gave.
pub record ReadsAll (path : List ℕ) (calls : List Reading) (bytes : List ℕ) : Type 0 where
  pub pieces : List Reading
  pub calls_are : calls ≡ pieces ++ reading path (length bytes) [] ∷ []
  pub reads : ReadsOn path 0 pieces bytes

-- The calls read the path once, from its start on.
abbrev pub ReadsFront : List ℕ → List Reading → Type 0
ReadsFront path calls = (bytes : List ℕ) × ReadsOn path 0 calls bytes

-- The calls read the path once, from its start to one byte past the limit.
abbrev pub ReadsPast : List ℕ → List Reading → ℕ → Type 0
ReadsPast path calls limit = (bytes : List ℕ) × ReadsOn path 0 calls bytes × (length bytes ≡ limit + 1)
