-- When the flat text of a setting is read as it again, and what that means. It is where the spellings of its behaviours and guards keep within the limits
-- of the action language: the one spelling of a behaviour can be longer than the text of a model file from which it was read, and nest deeper.
use Rattle.std.specs.Prelude.{◌≡◌, ◌≤◌, ◌⊎◌, ℕ, List, [], length}
use Rattle.std.specs.List.{AllByRecursion}
use Rattle.pssm_semantics.specs.declared.tree.Act.{Act}
use Rattle.pssm_semantics.specs.declared.tree.Cond.{Cond}
use Rattle.pssm_semantics.specs.declared.setting.Class.{Class}
use Rattle.pssm_semantics.specs.declared.setting.Names.{Names}
use Rattle.pssm_semantics.specs.declared.setting.Setting.{Setting}
use Rattle.pssm_acts.specs.ActText.{act_text, cond_text}
use Rattle.pssm_acts.specs.ReadBack.{cond_levels, stmts_levels}
use Rattle.pssm_flat.specs.declared.fault.FlatFault.{FlatFault}
use Rattle.pssm_flat.specs.Flat.{IsFlat}
use Rattle.pssm_flat.specs.Text.{names_of, flat_text}
use Rattle.pssm_flat.specs.Faults.{IsFlatFault}
use Rattle.pssm_load.specs.declared.fault.LoadFault.{LoadFault}
use Rattle.pssm_load.specs.Loads.{BeginsFlat, ReadsSetting, IsLoadFault}

-- The behaviour is spelled by at most 4,096 bytes, with at most 16 levels of blocks, brackets and parentheses open at once (this profile's choice).
pub record ActIsShort (names : Names) (marks : List (List ℕ)) (act : Act) : Type 0 where
  pub short : length (act_text names marks act) ≤ 4096
  pub shallow : stmts_levels act.stmts ≤ 16

-- So is the guard (this profile's choice).
pub record GuardIsShort (names : Names) (guard : Cond) : Type 0 where
  pub short : length (cond_text names guard) ≤ 4096
  pub shallow : cond_levels guard ≤ 16

-- So are all of the class.
pub record ClassIsShort (names : Names) (class : Class) : Type 0 where
  pub acts : AllByRecursion (ActIsShort names class.program.marks) class.program.acts
  pub guards : AllByRecursion (GuardIsShort names) class.program.guards

-- So are all of the setting.
abbrev pub SpellsShort : Setting → Type 0
SpellsShort s = AllByRecursion (λ (x : Class). ClassIsShort (names_of s x) x) s.classes

-- What is asked of a setting that these bytes have: nothing where they are of the flat form, and otherwise that all of it is short.
abbrev pub FlatOrShort : List ℕ → Setting → Type 0
FlatOrShort bytes setting = BeginsFlat bytes ⊎ SpellsShort setting

-- The flat form has this setting for the text and no other, and finds no fault in it.
pub record IsFlatTextOf (text : List ℕ) (setting : Setting) : Type 0 where
  pub flat : IsFlat setting
  pub is : text ≡ flat_text setting
  pub alone : (other : Setting) → IsFlat other → text ≡ flat_text other → other ≡ setting
  pub faultless : (fault : FlatFault) → IsFlatFault text fault → ⊥

-- As the bytes of a model the text has this setting and no other, whose machines break no rule, and it has no fault.
pub record IsLoadedAs (text : List ℕ) (setting : Setting) : Type 0 where
  pub reads : ReadsSetting text setting []
  pub alone : (other : Setting) → ReadsSetting text other [] → other ≡ setting
  pub faultless : (fault : LoadFault) → IsLoadFault text fault → ⊥
