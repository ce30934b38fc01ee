-- Each class of a well-formed setting is well formed.
use Rattle.std.proofs.Common.{◌≡◌, ◌≤◌, ℕ, List, All, length, Option, Some, None, slice_get, subst, arith}
use Rattle.std.specs.Option.{option_and_then}
use Rattle.std.proofs.lemmas.List.Elements.{All-weaker}
use Rattle.std.proofs.lemmas.Option.{slice_get_within, get_or_from_slice_get}
use Rattle.pssm_model.specs.declared.ids.SignalId.{SignalId}
use Rattle.pssm_model.specs.WellFormed.{KeepsModelRules}
use Rattle.pssm_model.proofs.ElementLaws.{mapped_some}
use Rattle.pssm_semantics.specs.declared.entry.ObjectId.{ObjectId}
use Rattle.pssm_semantics.specs.declared.tree.Act.{Act}
use Rattle.pssm_semantics.specs.declared.setting.Class.{Class}
use Rattle.pssm_semantics.specs.declared.setting.ObjectDecl.{ObjectDecl}
use Rattle.pssm_semantics.specs.declared.setting.SignalDecl.{SignalDecl}
use Rattle.pssm_semantics.specs.declared.setting.Setting.{Setting}
use Rattle.pssm_semantics.specs.Settings.{class_of, HasCount}
use Rattle.pssm_semantics.specs.Fits.{Vocabulary, ActFits}
use Rattle.pssm_semantics.specs.Proper.{CanSend, ClassFits, IsProper, IsWellFormed}
use Rattle.pssm_semantics.specs.Classes.{IsProperClass, IsWellFormedClass}
use Rattle.pssm_semantics.specs.Arguments.{ActArgsFit}
use Rattle.pssm_semantics.proofs.ArgumentLaws.{ActFits-args, ActFits-wider}

-- what holds of each element of a list holds of the one at a place
pub all_there : {X : Type 0} (P : X → Type 0) (xs : List X) (k : ℕ) (x : X) → All P xs → slice_get xs k ≡ Some x → P x
all_there P xs k x all there = subst P (get_or_from_slice_get xs k x x there) (all k x (slice_get_within xs k x there))

-- a signal of a proper setting has at most eight parameters
few_parameters : (setting : Setting) → IsProper setting → (signal : SignalId) (n : ℕ) → HasCount setting signal n → n ≤ 8
few_parameters setting proper signal n has =
    let found = mapped_some (λ (d : SignalDecl). d.count) (slice_get setting.signals signal.0) n has in
    let few = all_there (λ (d : SignalDecl). d.count ≤ 8) setting.signals signal.0 found.0 proper.counts found.1 in
    omega (arith, few, found.2)

module _ (setting : Setting) (proper : IsProper setting) (class : Class) (fits : ClassFits setting class) where
  -- a class that fits in a proper setting is proper by itself
  proper_class : IsProperClass class
  proper_class =
      let program = fits.program in
      record {
        machine = program.machine;
        vertices = program.vertices;
        transitions = program.transitions;
        acts = All-weaker
            (ActFits (record { vars = length class.vars; marks = length class.program.marks; Sends = CanSend setting }))
            (ActFits (record { vars = length class.vars; marks = length class.program.marks; Sends = λ to signal n. n ≤ 8 }))
            (ActFits-wider (record { vars = length class.vars; marks = length class.program.marks; Sends = CanSend setting }) (λ to signal n. n ≤ 8)
            (λ to signal n send. few_parameters setting proper signal n send.1))
            class.program.acts program.acts;
        guards = program.guards;
        first_act = program.first_act;
        names = program.names;
        limits = program.limits;
      }

-- the class of an object is one of the setting
pub class_there : (setting : Setting) (o : ObjectId) (class : Class) → class_of setting o ≡ Some class → (k : ℕ) × (slice_get setting.classes k ≡ Some class)
class_there setting o class is = by (slice_get setting.objects o.0) is
  where
    by : (found : Option ObjectDecl) → option_and_then (λ (d : ObjectDecl). slice_get setting.classes d.class) found ≡ Some class
        → (k : ℕ) × (slice_get setting.classes k ≡ Some class)
    by None e = absurd (cc)
    by (Some d) e = (d.class, e)

-- The class of each object of a well-formed setting is well formed, and fits in the setting.
pub class_of_object : (setting : Setting) → IsWellFormed setting → (o : ObjectId) (class : Class) → class_of setting o ≡ Some class
    → IsWellFormedClass class × ClassFits setting class
class_of_object setting b o class is =
    let at = class_there setting o class is in
    let fits = all_there (ClassFits setting) setting.classes at.0 class b.proper.classes at.1 in
    let rules = all_there (λ (c : Class). KeepsModelRules c.machine) setting.classes at.0 class b.rules at.1 in
    (record { proper = proper_class setting b.proper class fits; rules = rules }, fits)

-- So its behaviours may be run.
pub acts_run : (class : Class) → IsWellFormedClass class → (k : ℕ) (act : Act) → slice_get class.program.acts k ≡ Some act → ActArgsFit act
acts_run class b k act there =
    let vocabulary : Vocabulary = record { vars = length class.vars; marks = length class.program.marks; Sends = λ to signal n. n ≤ 8 } in
    ActFits-args vocabulary (λ to signal n few. few) act
    (all_there (ActFits vocabulary) class.program.acts k act b.proper.acts there)
