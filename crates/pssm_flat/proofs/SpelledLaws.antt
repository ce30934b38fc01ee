-- The names of a setting that is read are names.
use Rattle.std.proofs.Common.{ℕ, List, [], ◌∷◌}
use Rattle.std.specs.Prelude.{map}
use Rattle.std.specs.List.{AllByRecursion}
use Rattle.pssm_semantics.specs.declared.setting.SignalDecl.{SignalDecl}
use Rattle.pssm_semantics.specs.declared.setting.ObjectDecl.{ObjectDecl}
use Rattle.pssm_semantics.specs.declared.setting.Class.{Class}
use Rattle.pssm_semantics.specs.declared.setting.Setting.{Setting}
use Rattle.pssm_semantics.specs.Names.{HasSpelledNames}
use Rattle.pssm_spelling.specs.Spelling.{IsName}
use Rattle.pssm_acts.proofs.Each.{all_with}
use Rattle.pssm_flat.specs.Text.{names_of}
use Rattle.pssm_flat.specs.Flat.{AreNames, IsWrittenClass, IsFlat}
use Rattle.pssm_flat.proofs.NameLaws.{names_are}
use Rattle.pssm_flat.proofs.ProperLaws.{numbered_fits}

each_named : {X : Type 0} (named : X → List ℕ) (xs : List X) → AllByRecursion IsName (map named xs) → AllByRecursion (λ (x : X). IsName (named x)) xs
each_named named [] all = tt
each_named named (x ∷ xs) all = (all.0, each_named named xs all.1)

all_named : {X : Type 0} (named : X → List ℕ) (xs : List X) → AreNames (map named xs) → AllByRecursion (λ (x : X). IsName (named x)) xs
all_named named xs are = each_named named xs (names_are (map named xs) are)

marks_named : (s : Setting) → IsFlat s → AllByRecursion (λ (c : Class). AllByRecursion IsName c.program.marks) s.classes
marks_named s flat =
    all_with (λ (c : Class). IsWrittenClass (names_of s c) c) (λ (c : Class). AllByRecursion IsName c.program.marks) s.classes
    (λ c is. (numbered_fits (names_of s c) c is.numbered).marks.names) flat.written.classes

-- What has a flat text has names that are spelled.
pub flat_spelled : (s : Setting) → IsFlat s → HasSpelledNames s
flat_spelled s flat = record {
  objects = all_named (λ (d : ObjectDecl). d.name) s.objects flat.written.object_names;
  signals = all_named (λ (d : SignalDecl). d.name) s.signals flat.written.signal_names;
  marks = marks_named s flat;
}
