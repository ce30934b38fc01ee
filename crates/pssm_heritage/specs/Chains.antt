-- Of which machines a machine is made, and which machines extend themselves.
use Rattle.std.specs.Prelude.{◌≡◌, ◌<◌, ℕ, List, [], ◌∷◌, ◌++◌, Some, None, slice_get}
use Rattle.pssm_model.specs.declared.draft_setting.Draft.{Draft}
use Rattle.pssm_model.specs.declared.draft_setting.DraftParts.{DraftParts}
use Rattle.pssm_model.specs.DraftSettings.{Extends, ExtendsFar, IsOrExtends}

-- the machines from the one that extends none down to this one (UML 2.5.1 14.3.3, extended State machines)
pub data IsChain (draft : Draft) : ℕ → List ℕ → Type 0 where
  base : {m : ℕ} (parts : DraftParts) → slice_get draft.machines m ≡ Some parts → parts.extends ≡ None → IsChain draft m (m ∷ [])
  extended : {m : ℕ} (other : ℕ) {machines : List ℕ} → Extends draft m other → IsChain draft other machines → IsChain draft m (machines ++ m ∷ [])

-- Of the machine and those that it extends, this one is the first by number that extends itself, directly or through others (this profile's choice of the first).
pub record IsFirstCyclic (draft : Draft) (m x : ℕ) : Type 0 where
  pub reached : IsOrExtends draft m x
  pub cyclic : ExtendsFar draft x x
  pub first : (y : ℕ) → IsOrExtends draft m y → ExtendsFar draft y y → y < x → ⊥
