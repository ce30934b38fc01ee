-- What a path holds, and what is read of it.
use Rattle.std.specs.Prelude.{◌≡◌, ℕ, ◌≤◌, ◌<◌, List, ◌↔◌, length, take, drop, Option, None, IfSome}
use Rattle.pssm_base.specs.History.{History, Added, ReadsAll, ReadsPast}

-- what is told of each path stays as it was
abbrev pub SameContent : (List ℕ → Option (List ℕ)) → (List ℕ → Option (List ℕ)) → Type 0
SameContent before after = (path : List ℕ) → after path ≡ before path

-- n bytes are a front of what stands from an offset on, which is empty exactly at or after the end
pub record IsFront (bytes : List ℕ) (from n : ℕ) (into : List ℕ) : Type 0 where
  pub left : n ≤ length (drop from bytes)
  pub copied : take n into ≡ take n (drop from bytes)
  pub end : (n ≡ 0) ↔ (length bytes ≤ from)

-- what each path holds, where that is told
abbrev pub Contents : Type 0
Contents = List ℕ → Option (List ℕ)

-- ---- what inputs gave over a stretch of calls

-- what each path holds, where that is told, and the calls that were answered before the stretch and up to its end, where they are kept
pub record Given : Type 0 where
  pub contents : Contents
  pub before : History
  pub after : History

-- the same, from its parts
abbrev pub given : Contents → History → History → Given
given contents before after = record { contents = contents; before = before; after = after }

-- what the paths hold, with no calls that are kept
abbrev pub told : Contents → Given
told contents = given contents None None

-- the part up to a moment, which is named by the calls that were answered until then
abbrev pub until : History → Given → Given
until moment given = record given { after = moment }

-- the part from a moment on
abbrev pub onward : History → Given → Given
onward moment given = record given { before = moment }

-- The bytes were read whole from the path: they are all that it holds, where that is told; and, where calls are kept, all that was read of it, once and
-- from its start to its end, and nothing else was read. They are no more than the limit.
pub record ReadsWhole (given : Given) (path : List ℕ) (limit : ℕ) (bytes : List ℕ) : Type 0 where
  pub told : IfSome (given.contents path) (λ held. bytes ≡ held)
  pub read : Added given.before given.after (λ calls. ReadsAll path calls bytes)
  pub at_most : length bytes ≤ limit

-- The path holds more than the limit, where it is told what it holds; and, where calls are kept, as many bytes
-- as the limit and one more were read of it, and nothing else.
pub record HoldsMore (given : Given) (path : List ℕ) (limit : ℕ) : Type 0 where
  pub told : IfSome (given.contents path) (λ held. limit < length held)
  pub read : Added given.before given.after (λ calls. ReadsPast path calls limit)

-- Nothing was read.
abbrev pub ReadsNothing : Given → Type 0
ReadsNothing given = given.after ≡ given.before
