-- Classes by themselves, apart from a setting.
use Rattle.std.specs.Prelude.{◌≤◌}
use Rattle.pssm_model.specs.WellFormed.{KeepsModelRules}
use Rattle.pssm_semantics.specs.declared.setting.Class.{Class}
use Rattle.pssm_semantics.specs.Proper.{ProgramFits}

-- a class by itself: of sends it is asked only that they have at most eight arguments (this profile's choice)
abbrev pub IsProperClass : Class → Type 0
IsProperClass class = ProgramFits class (λ to signal n. n ≤ 8)

-- a proper class whose machine breaks no rule of models (this profile's choice)
pub record IsWellFormedClass (class : Class) : Type 0 where
  pub proper : IsProperClass class
  pub rules : KeepsModelRules class.machine
