-- The names of a proper setting differ.
use Rattle.std.proofs.Common.{arith}
use Rattle.std.proofs.lemmas.List.{length-map}
use Rattle.std.proofs.lemmas.List.Elements.{All-weaker, recursion_from_All}
use Rattle.pssm_semantics.specs.declared.setting.Class.{Class}
use Rattle.pssm_semantics.specs.declared.setting.Setting.{Setting}
use Rattle.pssm_semantics.specs.declared.setting.SignalDecl.{SignalDecl}
use Rattle.pssm_semantics.specs.declared.setting.ObjectDecl.{ObjectDecl}
use Rattle.pssm_semantics.specs.Names.{AreApart, NamesDiffer}
use Rattle.pssm_semantics.specs.Proper.{ClassFits, IsProper}

marks_apart : (class : Class) (setting : Setting) → ClassFits setting class → AreApart 65536 class.program.marks
marks_apart class setting fits = (fits.program.names.2.1, let few = fits.program.limits.2 in omega (arith, few))

-- the names of a proper setting differ
pub proper_names_differ : (setting : Setting) → IsProper setting → NamesDiffer setting
proper_names_differ setting proper = record {
  objects = (
    proper.names.2.1,
    omega (arith, proper.limits.1, length-map setting.objects (λ (d : ObjectDecl). d.name)),
  );
  signals = (
    proper.names.0.1,
    omega (arith, proper.limits.2, length-map setting.signals (λ (d : SignalDecl). d.name)),
  );
  marks =
      recursion_from_All (λ (c : Class). AreApart 65536 c.program.marks) setting.classes
      (All-weaker (ClassFits setting) (λ (c : Class). AreApart 65536 c.program.marks) (λ c fits. marks_apart c setting fits) setting.classes proper.classes);
}
