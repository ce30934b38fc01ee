-- The one fault of flattening a machine.
use Rattle.std.specs.Prelude.{◌≡◌, ◌<◌, ◌⊎◌, ℕ, List, Some, slice_get}
use Rattle.pssm_model.specs.declared.draft_setting.ElementRef.{ElementRef}
use Rattle.pssm_model.specs.declared.draft_setting.Draft.{Draft}
use Rattle.pssm_model.specs.declared.draft_setting.DraftParts.{DraftParts}
use Rattle.pssm_model.specs.DraftSettings.{IsOrExtends}
use Rattle.pssm_heritage.specs.declared.kinds.ElementKind.{ElementKind}
use Rattle.pssm_heritage.specs.declared.kinds.ElementKind.TheVariants.{Region, Vertex, Transition}
use Rattle.pssm_heritage.specs.declared.kinds.RedefRule.{RedefRule}
use Rattle.pssm_heritage.specs.declared.kinds.RedefRule.TheVariants as rules
use Rattle.pssm_heritage.specs.declared.fault.RedefFault.{RedefFault}
use Rattle.pssm_heritage.specs.declared.fault.RedefFault.TheVariants as faults
use Rattle.pssm_heritage.specs.Chains.{IsChain, IsFirstCyclic}
use Rattle.pssm_breaches.specs.Forms.{id_of, begins_at}
use Rattle.pssm_breaches.specs.Rules.{Breaks}

-- the order of the kinds
abbrev pub kind_number : ElementKind → ℕ
kind_number Region = 0
kind_number Vertex = 1
kind_number Transition = 2

-- Where an element stands in the order of a file.
pub record Site : Type 0 where
  pub at : ℕ
  pub machine : ℕ
  pub kind : ℕ
  pub element : ℕ

-- the site of an element
abbrev pub site_of : Draft → ElementKind → ElementRef → Site
site_of draft kind e = record { at = begins_at draft kind e; machine = e.machine; kind = kind_number kind; element = e.element }

-- The order of a file: by the byte, then by machine, by kind, and by the place in the list (this profile's choice).
abbrev pub IsEarlier : Site → Site → Type 0
IsEarlier a b =
    (a.at < b.at)
    ⊎ ((a.at ≡ b.at) × ((a.machine < b.machine) ⊎ ((a.machine ≡ b.machine) × ((a.kind < b.kind) ⊎ ((a.kind ≡ b.kind) × (a.element < b.element))))))

-- The first element, of those of the machine and of those that it extends, that breaks a rule, and the rule.
pub record IsFirstBreach (draft : Draft) (m : ℕ) (kind : ElementKind) (e : ElementRef) (rule : RedefRule) : Type 0 where
  pub within : IsOrExtends draft m e.machine
  pub breaks : Breaks draft m kind e rule
  pub first : (k : ElementKind) (d : ElementRef) (other : RedefRule) → IsOrExtends draft m d.machine → Breaks draft m k d other
      → IsEarlier (site_of draft k d) (site_of draft kind e) → ⊥

-- the fault of a rule, with the id of the element that breaks it
abbrev pub fault_with : RedefRule → List ℕ → RedefFault
fault_with rules.NotInherited id = faults.NotInherited id
fault_with rules.Twice id = faults.Twice id
fault_with rules.Leaf id = faults.Leaf id
fault_with rules.ChangedSource id = faults.ChangedSource id
fault_with rules.ChangedTriggers id = faults.ChangedTriggers id

-- The fault: that of a machine that extends itself, and otherwise that of the first element that breaks a rule (this profile's choice of the order).
pub data IsRedefFault (draft : Draft) (m : ℕ) : RedefFault → Type 0 where
  cycle : (x : ℕ) (parts : DraftParts) → IsFirstCyclic draft m x → slice_get draft.machines x ≡ Some parts → IsRedefFault draft m (faults.Cycle parts.id)
  broken : (machines : List ℕ) → IsChain draft m machines → (kind : ElementKind) (e : ElementRef) (rule : RedefRule) → IsFirstBreach draft m kind e rule
      → IsRedefFault draft m (fault_with rule (id_of draft kind e))
