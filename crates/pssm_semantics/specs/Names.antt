-- The names of a setting: that they differ, and that they are spelled as names.
use Rattle.std.specs.Prelude.{◌≢◌, ◌≤◌, ℕ, List, length, map, AllPairs}
use Rattle.std.specs.List.{AllByRecursion}
use Rattle.pssm_semantics.specs.declared.setting.Setting.{Setting}
use Rattle.pssm_spelling.specs.Spelling.{IsName}

-- The names differ, and there are not more of them than numbers of this many values.
abbrev pub AreApart : ℕ → List (List ℕ) → Type 0
AreApart count names = AllPairs (λ a b. a ≢ b) names × (length names ≤ count)

-- The names of objects differ, those of signals do, and those of the marks of a class do (UML 2.5.1 7.4.3, namespaces).
pub record NamesDiffer (setting : Setting) : Type 0 where
  pub objects : AreApart 256 (map (λ d. d.name) setting.objects)
  pub signals : AreApart 65536 (map (λ d. d.name) setting.signals)
  pub marks : AllByRecursion (λ c. AreApart 65536 c.program.marks) setting.classes

-- The names of objects, signals and marks are names (this profile's choice).
pub record HasSpelledNames (setting : Setting) : Type 0 where
  pub objects : AllByRecursion (λ d. IsName d.name) setting.objects
  pub signals : AllByRecursion (λ d. IsName d.name) setting.signals
  pub marks : AllByRecursion (λ c. AllByRecursion IsName c.program.marks) setting.classes
