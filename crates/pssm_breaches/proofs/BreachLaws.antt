-- An element that breaks no rule.
use Rattle.std.proofs.Common.{◌≡◌, ◌↔◌, ℕ, Bool, false, IsTrue, Some, None, subst}
use Rattle.pssm_model.specs.declared.draft_setting.ElementRef.{ElementRef}
use Rattle.pssm_model.specs.declared.draft_setting.Draft.{Draft}
use Rattle.pssm_heritage.specs.declared.kinds.ElementKind.{ElementKind}
use Rattle.pssm_heritage.specs.declared.kinds.RedefRule.{RedefRule}
use Rattle.pssm_heritage.specs.Elements.{redefined}
use Rattle.pssm_breaches.specs.Rules.{IsInherited, IsRepeated, RedefinesLeaf, KeepsSource, KeepsTriggers, Breaks}
use Rattle.pssm_breaches.specs.Rules.Breaks.{not_inherited, twice, leaf, changed_source, changed_triggers}

pub refused : {P : Type 0} (b : Bool) → IsTrue b ↔ P → b ≡ false → P → ⊥
refused b iff is p = let t = iff.1 p in cc

module _ (draft : Draft) (m : ℕ) (kind : ElementKind) (e : ElementRef) where
  pub breaks_none : {f : ElementRef} {rule : RedefRule} → redefined draft kind e ≡ Some f → IsInherited draft kind e f → (IsRepeated draft kind e → ⊥) → (RedefinesLeaf draft kind e → ⊥)
      → KeepsSource draft m kind e → KeepsTriggers draft kind e → Breaks draft m kind e rule → ⊥
  breaks_none {f = f} named inherits once free source triggers (not_inherited g again other) = let same : f ≡ g = cc in other (subst (IsInherited draft kind e) same inherits)
  breaks_none named inherits once free source triggers (twice g named' inherits' repeated) = once repeated
  breaks_none named inherits once free source triggers (leaf g named' inherits' once' is) = free is
  breaks_none named inherits once free source triggers (changed_source g named' inherits' once' free' changed) = changed source
  breaks_none named inherits once free source triggers (changed_triggers g named' inherits' once' free' source' changed) = changed triggers

  pub names_none : {rule : RedefRule} → redefined draft kind e ≡ None → Breaks draft m kind e rule → ⊥
  names_none none (not_inherited g named other) = cc
  names_none none (twice g named inherits repeated) = cc
  names_none none (leaf g named inherits once is) = cc
  names_none none (changed_source g named inherits once free changed) = cc
  names_none none (changed_triggers g named inherits once free source changed) = cc
