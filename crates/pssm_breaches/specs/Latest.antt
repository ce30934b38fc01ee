-- The last forms that come before an element.
use Rattle.std.specs.Prelude.{◌≡◌, ◌⊎◌, ℕ, List, length, Some, slice_get}
use Rattle.pssm_model.specs.declared.draft_setting.ElementRef.{ElementRef}
use Rattle.pssm_model.specs.declared.draft_setting.Draft.{Draft}
use Rattle.pssm_model.specs.DraftSettings.{IsOrExtends}
use Rattle.pssm_heritage.specs.declared.kinds.ElementKind.{ElementKind}
use Rattle.pssm_heritage.specs.Elements.{IsElement}
use Rattle.pssm_heritage.specs.Becoming.{Became}
use Rattle.pssm_breaches.specs.Forms.{ComesBefore}

-- The element is one of the machine, or of one that it extends.
pub record IsWithin (draft : Draft) (m : ℕ) (kind : ElementKind) (e : ElementRef) : Type 0 where
  pub element : IsElement draft kind e
  pub up : IsOrExtends draft m e.machine

-- Of the elements that come before e, and the first form, this is the last one that became the first form.
pub record IsLatestBefore (draft : Draft) (kind : ElementKind) (e first last : ElementRef) : Type 0 where
  pub became : Became draft kind last first
  pub before : ComesBefore draft last e ⊎ (last ≡ first)
  pub no_later : (other : ElementRef) → ComesBefore draft other e → Became draft kind other first → ComesBefore draft last other → ⊥

-- By number, the last forms that come before e.
pub record AreLatestBefore (draft : Draft) (kind : ElementKind) (e : ElementRef) (firsts latest : List ElementRef) : Type 0 where
  pub width : length latest ≡ length firsts
  pub each : (n : ℕ) (first last : ElementRef) → slice_get firsts n ≡ Some first → slice_get latest n ≡ Some last → IsLatestBefore draft kind e first last
