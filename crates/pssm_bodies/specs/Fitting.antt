-- The names with which the bodies of a class are read, and those of its setting.
use Rattle.std.specs.Prelude.{◌≡◌, ◌≤◌, length, map}
use Rattle.pssm_semantics.specs.declared.setting.VarDecl.{VarDecl}
use Rattle.pssm_semantics.specs.declared.setting.ObjectDecl.{ObjectDecl}
use Rattle.pssm_semantics.specs.declared.setting.Names.{Names}
use Rattle.pssm_semantics.specs.declared.setting.Class.{Class}
use Rattle.pssm_semantics.specs.declared.setting.Setting.{Setting}

-- The names are those of the variables of the class, and of the objects and signals of the setting; there are few of each (this profile's choice).
pub record AreNamesFor (setting : Setting) (class : Class) (names : Names) : Type 0 where
  pub vars : names.vars ≡ map (λ (v : VarDecl). v.name) class.vars
  pub objects : names.objects ≡ map (λ (o : ObjectDecl). o.name) setting.objects
  pub signals : names.signals ≡ setting.signals
  pub few_vars : length class.vars ≤ 64
  pub few_objects : length setting.objects ≤ 64
  pub few_signals : length setting.signals ≤ 256
