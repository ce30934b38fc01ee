-- The places of a machine in their order, and how far it is checked.
use Rattle.std.specs.Prelude.{◌≡◌, ◌↔◌, ◌⊎◌, ◌<◌, ◌+◌, ℕ, List, length, Contains, AllPairs}
use Rattle.pssm_model.specs.declared.elements.DraftMachine.{DraftMachine}
use Rattle.pssm_model.specs.declared.elements.FaultPlace.{FaultPlace}
use Rattle.pssm_model.specs.declared.elements.FaultPlace.TheVariants.{Top, At}
use Rattle.pssm_model.specs.declared.elements.Element.TheVariants as elements
use Rattle.pssm_model.specs.WellFormed.{Breaks}
use Rattle.pssm_wellformed.specs.declared.fault.Fault.{Fault}
use Rattle.pssm_wellformed.specs.Faults.{IsEarlierFault}

-- The place is there.
abbrev pub IsPlace : DraftMachine → FaultPlace → Type 0
IsPlace m Top = Unit {0}
IsPlace m (At (elements.Region r)) = r.0 < length m.regions
IsPlace m (At (elements.Vertex v)) = v.0 < length m.vertices
IsPlace m (At (elements.Transition t)) = t.0 < length m.transitions

-- how many places come before it
abbrev pub place_number : DraftMachine → FaultPlace → ℕ
place_number m Top = 0
place_number m (At (elements.Region r)) = 1 + r.0
place_number m (At (elements.Vertex v)) = 1 + length m.regions + v.0
place_number m (At (elements.Transition t)) = 1 + length m.regions + length m.vertices + t.0

-- The fault is at one of the first so many places, or at the next by one of the rules below a number.
abbrev pub IsBefore : DraftMachine → ℕ → ℕ → Fault → Type 0
IsBefore m n rule f = (place_number m f.element < n) ⊎ ((place_number m f.element ≡ n) × (f.rule < rule))

-- The faults before are listed, in their order.
pub record IsCheckedBelow (m : DraftMachine) (n rule : ℕ) (faults : List Fault) : Type 0 where
  pub exact : (f : Fault) → Contains faults f ↔ (Breaks m f.element f.rule × IsBefore m n rule f)
  pub ascending : AllPairs IsEarlierFault faults
