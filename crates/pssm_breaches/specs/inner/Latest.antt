-- An element that is asked of, and the table of last forms.
use Rattle.std.specs.Prelude.{◌≡◌, ℕ, List, Option, Some, option_and_then, slice_get}
use Rattle.pssm_model.specs.declared.draft_setting.ElementRef.{ElementRef}
use Rattle.pssm_model.specs.declared.draft_setting.Draft.{Draft}
use Rattle.pssm_model.specs.DraftSettings.{ExtendsFar}
use Rattle.pssm_heritage.specs.declared.kinds.ElementKind.{ElementKind}
use Rattle.pssm_heritage.specs.Elements.{redefined}
use Rattle.pssm_heritage.specs.Heritages.{Numbering, number_in, Lineage, numbering_of, IsLineage}
use Rattle.pssm_breaches.specs.Latest.{IsWithin, AreLatestBefore}

-- what stands in such a table by the number of an element
abbrev pub latest_in : Numbering → List ElementRef → ElementRef → Option ElementRef
latest_in numbering latest e = option_and_then (λ n. slice_get latest n) (number_in numbering e)

-- An element is asked of that redefines another one in a machine above.
pub record IsAsked (draft : Draft) (m : ℕ) (kind : ElementKind) (lineage : Lineage) (latest : List ElementRef) (e f : ElementRef) : Type 0 where
  pub known : IsLineage draft m lineage
  pub within : IsWithin draft m kind e
  pub named : redefined draft kind e ≡ Some f
  pub above : ExtendsFar draft e.machine f.machine
  pub table : AreLatestBefore draft kind e (numbering_of kind lineage).firsts latest
