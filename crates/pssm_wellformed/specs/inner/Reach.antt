-- What can be reached over arrows, which are given by the list of each number's ends.
use Rattle.std.specs.Prelude.{◌≡◌, ◌↔◌, ◌⊎◌, ◌<◌, ◌≤◌, ℕ, suc, List, [], ◌∷◌, Bool, true, false, length, slice_index_or, Contains, Vec}
use Rattle.std.specs.declared.alloc.Global.{Global}
use Rattle.pssm_wellformed.specs.inner.Lists.{list_at}

-- The number is one of the first, or an arrow leads to it from one that is reached.
pub data IsReached (onward : List (Vec ℕ Global)) (first : List ℕ) : ℕ → Type 0 where
  at_first : {b : ℕ} → Contains first b → IsReached onward first b
  by_arrow : {a b : ℕ} → IsReached onward first a → Contains (list_at onward a) b → IsReached onward first b

-- Every arrow ends at a number that has a list.
abbrev pub StaysWithin : List (Vec ℕ Global) → Type 0
StaysWithin onward = (a b : ℕ) → Contains (list_at onward a) b → b < length onward

-- how many marks stand
abbrev pub marked : List Bool → ℕ
marked [] = 0
marked (true ∷ marks) = suc (marked marks)
marked (false ∷ marks) = marked marks

-- The numbers found are those that have a mark, each once.
pub record AreMarked (marks : List Bool) (found : List ℕ) : Type 0 where
  pub same : (b : ℕ) → (slice_index_or marks b false ≡ true) ↔ Contains found b
  pub once : length found ≡ marked marks

-- More is found: what stood there stays in its place, and the further numbers come behind.
pub record FindsMore (before after further : List ℕ) : Type 0 where
  pub longer : length before ≤ length after
  pub kept : (k : ℕ) → k < length before → slice_index_or after k 0 ≡ slice_index_or before k 0
  pub found : (b : ℕ) → Contains after b ↔ (Contains before b ⊎ Contains further b)

-- The arrows of the first so many of the found have been walked, and what is found can be reached.
pub record IsWalked (onward : List (Vec ℕ Global)) (first : List ℕ) (place : ℕ) (marks : List Bool) (found : List ℕ) : Type 0 where
  pub width : length marks ≡ length onward
  pub upto : place ≤ length found
  pub are_marked : AreMarked marks found
  pub sound : (b : ℕ) → Contains found b → IsReached onward first b
  pub begun : (b : ℕ) → Contains first b → Contains found b
  pub closed : (k b : ℕ) → k < place → Contains (list_at onward (slice_index_or found k 0)) b → Contains found b
