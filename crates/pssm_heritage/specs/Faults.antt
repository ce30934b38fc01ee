-- The fault of a machine that extends itself.
use Rattle.std.specs.Prelude.{◌≡◌, ℕ, Some, slice_get}
use Rattle.pssm_model.specs.declared.draft_setting.Draft.{Draft}
use Rattle.pssm_model.specs.declared.draft_setting.DraftParts.{DraftParts}
use Rattle.pssm_heritage.specs.declared.fault.RedefFault.{RedefFault}
use Rattle.pssm_heritage.specs.declared.fault.RedefFault.TheVariants as faults
use Rattle.pssm_heritage.specs.Chains.{IsFirstCyclic}

-- The fault is that of the first machine that extends itself.
abbrev pub IsCycleFault : Draft → ℕ → RedefFault → Type 0
IsCycleFault draft m (faults.Cycle id) = (x : ℕ) × (parts : DraftParts) × IsFirstCyclic draft m x × (slice_get draft.machines x ≡ Some parts) × (id ≡ parts.id)
IsCycleFault draft m _ = ⊥
