-- What an element has become in the flattened machine.
use Rattle.std.specs.Prelude.{◌≡◌, Some}
use Rattle.pssm_model.specs.declared.draft_setting.ElementRef.{ElementRef}
use Rattle.pssm_model.specs.declared.draft_setting.Draft.{Draft}
use Rattle.pssm_model.specs.DraftSettings.{ExtendsFar}
use Rattle.pssm_heritage.specs.declared.kinds.ElementKind.{ElementKind}
use Rattle.pssm_heritage.specs.Elements.{redefined}

-- The element redefines one of a machine that its own machine extends.
pub record NamesAbove (draft : Draft) (kind : ElementKind) (e f : ElementRef) : Type 0 where
  pub named : redefined draft kind e ≡ Some f
  pub above : ExtendsFar draft e.machine f.machine

-- What an element has become: itself, where it is new, and otherwise what the element has become that it redefines (UML 2.5.1 14.3.3).
pub data Became (draft : Draft) (kind : ElementKind) : ElementRef → ElementRef → Type 0 where
  new : {e : ElementRef} → ((f : ElementRef) → NamesAbove draft kind e f → ⊥) → Became draft kind e e
  redefining : {e : ElementRef} (f : ElementRef) {o : ElementRef} → NamesAbove draft kind e f → Became draft kind f o → Became draft kind e o
