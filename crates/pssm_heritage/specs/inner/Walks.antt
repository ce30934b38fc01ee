-- Walking from a machine along those that it extends, each once.
use Rattle.std.specs.Prelude.{◌≡◌, ◌⊎◌, ◌<◌, ◌≤◌, ℕ, Bool, true, false, List, ◌++◌, length, reverse, Contains, Option, Some, None, slice_index_or}
use Rattle.pssm_model.specs.declared.draft_setting.Draft.{Draft}
use Rattle.pssm_model.specs.DraftSettings.{Extends, ExtendsFar, IsOrExtends}
use Rattle.pssm_heritage.specs.Chains.{IsChain}

-- one where a machine was not seen
abbrev pub unseen : Bool → ℕ
unseen true = 0
unseen false = 1

-- what is known on the way, before the next machine is looked at
pub record IsWalking (draft : Draft) (m : ℕ) (path : List ℕ) (at : ℕ) (seen : List Bool) : Type 0 where
  pub below : at < length draft.machines
  pub width : length seen ≡ length draft.machines
  pub reached : IsOrExtends draft m at
  pub marked : (x : ℕ) → slice_index_or seen x false ≡ true → Contains path x
  pub up : (x : ℕ) → Contains path x → IsOrExtends draft m x × ExtendsFar draft x at
  pub closed : (x y : ℕ) → Contains path x → Extends draft x y → Contains path y ⊎ (y ≡ at)
  pub start : Contains path m ⊎ (m ≡ at)
  pub chain : (machines : List ℕ) → IsChain draft at machines → IsChain draft m (machines ++ reverse path)

-- The way ends at a machine that extends none, or comes back to one that it passed.
abbrev pub HasEnded : Draft → ℕ → List ℕ → Option ℕ → Type 0
HasEnded draft m path None = IsChain draft m (reverse path)
HasEnded draft m path (Some back) = IsOrExtends draft m back × ExtendsFar draft back back × (back < length draft.machines)

-- The path has the machine and all that it extends.
pub record HasWalked (draft : Draft) (m : ℕ) (path : List ℕ) (back : Option ℕ) : Type 0 where
  pub has : (x : ℕ) → Contains path x → IsOrExtends draft m x
  pub all : (x : ℕ) → IsOrExtends draft m x → Contains path x
  pub ended : HasEnded draft m path back

-- the least of some numbers
pub record IsLeast (first : ℕ) (others : List ℕ) (least : ℕ) : Type 0 where
  pub is : (least ≡ first) ⊎ Contains others least
  pub below_first : least ≤ first
  pub below : (x : ℕ) → Contains others x → least ≤ x
