-- The rule that an element breaks first, where it breaks one.
use Rattle.std.specs.Prelude.{ℕ, Option, Some, None}
use Rattle.pssm_model.specs.declared.draft_setting.ElementRef.{ElementRef}
use Rattle.pssm_model.specs.declared.draft_setting.Draft.{Draft}
use Rattle.pssm_heritage.specs.declared.kinds.ElementKind.{ElementKind}
use Rattle.pssm_heritage.specs.declared.kinds.RedefRule.{RedefRule}
use Rattle.pssm_breaches.specs.Rules.{Breaks}

-- The element breaks this rule first, or none.
abbrev pub IsBroken : Draft → ℕ → ElementKind → ElementRef → Option RedefRule → Type 0
IsBroken draft m kind e (Some rule) = Breaks draft m kind e rule
IsBroken draft m kind e None = (rule : RedefRule) → Breaks draft m kind e rule → ⊥
