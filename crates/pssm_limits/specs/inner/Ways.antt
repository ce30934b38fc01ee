-- Ways from a machine along those that it extends, and marks of the machines on them.
use Rattle.std.specs.Prelude.{◌≡◌, ◌⊎◌, ◌<◌, ℕ, Bool, true, false, List, length, Option, Some, IfSome, MatchOption, slice_index_or, if◌then◌else◌}
use Rattle.pssm_totals.specs.Totals.{Reaches, extended}

-- The machine is marked.
abbrev pub IsMarked : List Bool → ℕ → Type 0
IsMarked marks m = slice_index_or marks m false ≡ true

-- The machine is the first one, where there is one, or one that it extends, directly or through others.
abbrev pub ReachesFrom : List (Option ℕ) → Option ℕ → ℕ → Type 0
ReachesFrom extends from m = (first : ℕ) × (from ≡ Some first) × Reaches extends first m

-- marks of exactly the machines that are reached
pub record AreReached (extends : List (Option ℕ)) (from : Option ℕ) (marks : List Bool) : Type 0 where
  pub width : length marks ≡ length extends
  pub marked : (m : ℕ) → IsMarked marks m → ReachesFrom extends from m
  pub all : (m : ℕ) → ReachesFrom extends from m → IsMarked marks m

-- what comes next is not marked; there is none where nothing comes, or what is marked
abbrev pub IsUnmarked : List Bool → Option ℕ → Option ℕ → Type 0
IsUnmarked marks next found =
    MatchOption found ((m : ℕ) → next ≡ Some m → IsMarked marks m) (λ at. (next ≡ Some at) × (at < length marks) × (slice_index_or marks at false ≡ false))

-- a way that was walked up to the machine that comes next
pub record IsWalking (extends : List (Option ℕ)) (from : Option ℕ) (marks : List Bool) (next : Option ℕ) : Type 0 where
  pub width : length marks ≡ length extends
  pub there : IfSome next (λ m. m < length extends)
  pub marked : (m : ℕ) → IsMarked marks m → ReachesFrom extends from m
  pub comes : (m : ℕ) → next ≡ Some m → ReachesFrom extends from m
  pub first : (m : ℕ) → from ≡ Some m → IsMarked marks m ⊎ (next ≡ Some m)
  pub closed : (m base : ℕ) → IsMarked marks m → extended extends m ≡ Some base → IsMarked marks base ⊎ (next ≡ Some base)

-- one where there is no mark
abbrev pub one_if_unmarked : Bool → ℕ
one_if_unmarked mark = if mark then 0 else 1
