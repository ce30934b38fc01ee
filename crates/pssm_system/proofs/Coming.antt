-- How far each object has come in an admissible journal, whoever keeps it.
use Rattle.std.proofs.Common.{◌≡◌, ◌<◌, ◌∙◌, ◌++◌, List, [], ◌∷◌, length, IsSome, Some, refl, sym, ap, subst, ⊎_elim}
use Rattle.pssm_model.proofs.ElementLaws.{some_at}
use Rattle.pssm_semantics.specs.declared.entry.ObjectId.{ObjectId}
use Rattle.pssm_semantics.specs.declared.entry.Entry.{Entry}
use Rattle.pssm_semantics.specs.declared.entry.Entry.TheVariants.{Post, Start, Take, Done, Exit, Effect, Enter, Opened, Pick, DoStep}
use Rattle.pssm_semantics.specs.declared.entry.Rule.TheVariants.{A6}
use Rattle.pssm_semantics.specs.declared.setting.Class.{Class}
use Rattle.pssm_semantics.specs.declared.setting.ObjectDecl.{ObjectDecl}
use Rattle.pssm_semantics.specs.declared.setting.Setting.{Setting}
use Rattle.pssm_semantics.specs.Settings.{class_of}
use Rattle.pssm_semantics.specs.Journal.{object_of}
use Rattle.pssm_semantics.specs.Pool.{told_by}
use Rattle.pssm_semantics.specs.Proper.{IsWellFormed}
use Rattle.pssm_semantics.specs.Rules.{KeepsPool, Holds, taken_by}
use Rattle.pssm_semantics.specs.Admissible.{IsAdmissibleIn}
use Rattle.pssm_semantics.proofs.Appended.{from_the_end}
use Rattle.pssm_semantics_laws.proofs.Admissible.{IsAdmissible-front, IsAdmissible-last}
use Rattle.pssm_semantics_laws.proofs.SettingClasses.{all_there, class_of_object}
use Rattle.pssm_object.specs.Coming.{HasCome, KnowsSignal}
use Rattle.pssm_object.proofs.Advancing.{known_object}
use Rattle.pssm_object.proofs.Coming.{come_none, come_other, come_more}
use Rattle.pssm_system.proofs.Following.{own_of, pool_kept}
use Rattle.pssm_system.proofs.Takes.{pool_of-waits}

-- each object of a well-formed setting has a class
pub class_exists : (setting : Setting) → IsWellFormed setting → (o : ObjectId) → o.0 < length setting.objects → (class : Class) × (class_of setting o ≡ Some class)
class_exists setting b o lt =
    let object = some_at setting.objects o.0 lt in
    let in_range = all_there (λ (d : ObjectDecl). d.class < length setting.classes) setting.objects o.0 object.0 b.proper.objects object.1 in
    let class = some_at setting.classes object.0.class in_range in
    (class.0, rw object.1 class.1)

-- a signal that waits is known, so that of a take is
knows_signal : (class : Class) (J : List Entry) (e : Entry) → KeepsPool class J e → KnowsSignal (taken_by (told_by J) e) e
knows_signal class J (Take o number firing) (held, rest, x, waits, deferred, first) =
    subst (λ signal. IsSome signal) (sym (pool_of-waits J o held rest number x waits).told) refl
knows_signal class J (Post o g args) h = tt
knows_signal class J (Start o) h = tt
knows_signal class J (Done o v firing) h = tt
knows_signal class J (Exit o v outs) h = tt
knows_signal class J (Effect o t outs) h = tt
knows_signal class J (Enter o v outs) h = tt
knows_signal class J (Opened o r mode how) h = tt
knows_signal class J (Pick o v route) h = tt
knows_signal class J (DoStep o v k outs) h = tt

module _ {setting : Setting} (b : IsWellFormed setting) (o : ObjectId) (class : Class) (is : class_of setting o ≡ Some class) where
  -- one more entry that keeps every rule brings the object on, or leaves it
  one_more : (J : List Entry) (e : Entry) → HasCome class.machine J o → ((rule : _) → Holds setting rule J e) → HasCome class.machine (J ++ e ∷ []) o
  one_more J e come may =
      ⊎_elim
      (λ own.
      let here : class_of setting (object_of e) ≡ Some class = ap (λ q. class_of setting q) own ∙ is in
      come_more class (class_of_object setting b o class is).0 J o (taken_by (told_by J) e) e come
      (record {
        own = own;
        knows = knows_signal class J e (pool_kept setting J e class here (may A6));
        keeps = λ rule. own_of setting J e class here rule (may rule);
      }))
      (λ other. come_other class.machine J o e (λ own. absurd (other own)) come)
      (known_object (object_of e) o)

  -- In every admissible journal each object of the setting has come so far as it shows.
  pub has_come : (J : List Entry) → IsAdmissibleIn setting J → HasCome class.machine J o
  has_come =
      from_the_end (λ js. IsAdmissibleIn setting js → HasCome class.machine js o) (λ all. come_none class.machine o)
      (λ js e before all.
      one_more js e (before (IsAdmissible-front (Holds setting) js (e ∷ []) all)) (IsAdmissible-last (Holds setting) js e all))
