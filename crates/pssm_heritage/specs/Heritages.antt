-- What is known of a machine and those that it extends: which they are, and the number of each of their elements.
use Rattle.std.specs.Prelude.{◌≡◌, ℕ, List, Option, Some, option_and_then, slice_get}
use Rattle.pssm_model.specs.declared.draft_setting.ElementRef.{ElementRef}
use Rattle.pssm_model.specs.declared.draft_setting.Draft.{Draft}
use Rattle.pssm_model.specs.DraftSettings.{IsOrExtends}
use Rattle.pssm_heritage.specs.declared.kinds.ElementKind.{ElementKind}
use Rattle.pssm_heritage.specs.declared.kinds.ElementKind.TheVariants.{Region, Vertex, Transition}
use Rattle.pssm_heritage.specs.Chains.{IsChain}
use Rattle.pssm_heritage.specs.Elements.{IsElement}
use Rattle.pssm_heritage.specs.Numbers.{HasNumber, AreFirstForms}

-- the numbers of elements of one kind: by machine those of its list, and by number the first form
pub record Numbering : Type 0 where
  pub rows : List (List ℕ)
  pub firsts : List ElementRef

-- the number of an element, where it has one
abbrev pub number_in : Numbering → ElementRef → Option ℕ
number_in numbering e = option_and_then (λ row. slice_get row e.element) (slice_get numbering.rows e.machine)

-- The elements of the machine and those that it extends have these numbers, and no others have any. The first forms stand in the order of the machines and
-- of their lists.
pub record AreNumbersOf (draft : Draft) (m : ℕ) (machines : List ℕ) (kind : ElementKind) (numbering : Numbering) : Type 0 where
  pub sound : (e : ElementRef) (n : ℕ) → number_in numbering e ≡ Some n
      → IsOrExtends draft m e.machine × IsElement draft kind e × HasNumber draft kind numbering.firsts e n
  pub all : (e : ElementRef) → IsElement draft kind e → IsOrExtends draft m e.machine → (n : ℕ) × (number_in numbering e ≡ Some n)
  pub single : (n : ℕ) (first : ElementRef) → slice_get numbering.firsts n ≡ Some first → number_in numbering first ≡ Some n
  pub order : AreFirstForms draft kind machines numbering.firsts

-- the machines, and the numbers of each kind
pub record Lineage : Type 0 where
  pub machines : List ℕ
  pub regions : Numbering
  pub vertices : Numbering
  pub transitions : Numbering

-- the numbers of a kind
abbrev pub numbering_of : ElementKind → Lineage → Numbering
numbering_of Region lineage = lineage.regions
numbering_of Vertex lineage = lineage.vertices
numbering_of Transition lineage = lineage.transitions

-- This is known of the machine (UML 2.5.1 14.3.3).
pub record IsLineage (draft : Draft) (m : ℕ) (lineage : Lineage) : Type 0 where
  pub chain : IsChain draft m lineage.machines
  pub regions : AreNumbersOf draft m lineage.machines Region lineage.regions
  pub vertices : AreNumbersOf draft m lineage.machines Vertex lineage.vertices
  pub transitions : AreNumbersOf draft m lineage.machines Transition lineage.transitions
