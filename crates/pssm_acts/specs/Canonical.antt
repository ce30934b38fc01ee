-- Texts in canonical spelling: each is the one spelling of something that can be read back (this profile's choice).
use Rattle.std.specs.Prelude.{◌≡◌, ℕ, List}
use Rattle.pssm_semantics.specs.declared.setting.Names.{Names}
use Rattle.pssm_semantics.specs.declared.tree.Act.{Act}
use Rattle.pssm_semantics.specs.declared.tree.Cond.{Cond}
use Rattle.pssm_acts.specs.ActText.{cond_text, act_text}
use Rattle.pssm_acts.specs.ReadBack.{GuardCanBeReadBack, CanBeReadBack}

-- The text is the spelling of a guard.
pub record IsCanonicalCond (names : Names) (text : List ℕ) : Type 0 where
  pub cond : Cond
  pub can : GuardCanBeReadBack names cond
  pub same : cond_text names cond ≡ text

-- The text is the spelling of a behaviour, with some marks.
pub record IsCanonicalAct (names : Names) (text : List ℕ) : Type 0 where
  pub marks : List (List ℕ)
  pub act : Act
  pub can : CanBeReadBack names marks act
  pub same : act_text names marks act ≡ text
