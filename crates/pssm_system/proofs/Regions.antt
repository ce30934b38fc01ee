-- The laws of all admissible journals of a well-formed setting: what is active in each region; and the entries that runs have.
use Rattle.std.proofs.Common.{refl, ◌≡◌, ◌<◌, ℕ, zero, suc, List, Option, Some, None, IsSomeAnd, sym, subst, arith}
use Rattle.pssm_plan.specs.Steadiness.{IsConsistent}
use Rattle.pssm_semantics.specs.declared.entry.ObjectId.{ObjectId}
use Rattle.pssm_semantics.specs.declared.entry.Entry.{Entry}
use Rattle.pssm_semantics.specs.declared.entry.Entry.TheVariants.{Post, Start, Take, Done, Exit, Effect, Enter, Opened, Pick, DoStep}
use Rattle.pssm_semantics.specs.declared.entry.Rule.TheVariants.{A1}
use Rattle.pssm_semantics.specs.declared.stimulus.Stimulus.{Stimulus}
use Rattle.pssm_semantics.specs.declared.setting.Class.{Class}
use Rattle.pssm_semantics.specs.declared.setting.Setting.{Setting}
use Rattle.pssm_semantics.specs.Settings.{class_of}
use Rattle.pssm_semantics.specs.Journal.{object_of, configuration_after}
use Rattle.pssm_semantics.specs.Pool.{told_by}
use Rattle.pssm_semantics.specs.Rules.{Holds}
use Rattle.pssm_semantics.specs.Admissible.{MayFollow, IsAdmissibleIn}
use Rattle.pssm_semantics.specs.Laws.{IsFront, KeepsRegions}
use Rattle.pssm_semantics.specs.Proper.{IsWellFormed}
use Rattle.pssm_semantics_laws.proofs.Admissible.{IsAdmissible-front}
use Rattle.pssm_semantics_laws.proofs.SettingClasses.{class_of_object}
use Rattle.pssm_pool.specs.declared.pools.Waiting.{Waiting}
use Rattle.pssm_object.specs.Following.{IsTold, NamesSignal, stimulus_of, stimulus_for}
use Rattle.pssm_object.proofs.Coming.{come_consistent}
use Rattle.pssm_object.proofs.Regions.{one_becomes}
use Rattle.pssm_object.proofs.Forms.{has_form}
use Rattle.pssm_system.specs.declared.situation.Situation.{Situation}
use Rattle.pssm_semantics.specs.Forms.{CountsFromOne, IsRunEntry}
use Rattle.pssm_system.specs.inner.Pooling.{signal_taken}
use Rattle.pssm_system.specs.inner.Keeping.{StandsSo}
use Rattle.pssm_system.proofs.Following.{names_of}
use Rattle.pssm_system.proofs.Judged.{shown}
use Rattle.pssm_system.proofs.Coming.{has_come}
use Rattle.pssm_system.proofs.Stepped.{part_here, signal_here}

module _ {setting : Setting} (b : IsWellFormed setting) {J : List Entry} (admissible : IsAdmissibleIn setting J) where
  -- what is active for an object after every entry lies as it must
  consistent : (front : List Entry) → IsFront front J → (o : ObjectId) (class : Class) → class_of setting o ≡ Some class
      → IsConsistent class.machine (configuration_after class.machine front o)
  consistent front (rest, is_front) o class is =
      let so_far = IsAdmissible-front (Holds setting) front rest (subst (IsAdmissibleIn setting) is_front admissible) in
      come_consistent (class_of_object setting b o class is).0 (has_come b o class is front so_far)

  pub keeps_regions : KeepsRegions setting J
  keeps_regions = record {
    one_each = λ front o class r v w begins is first second active also.
        let c = consistent front begins o class is in
        c.one_each r v w (first, c.states v active) (second, c.states w also) active also;
    owners = λ front o class r v begins is lies active.
        let c = consistent front begins o class is in c.owners r v (lies, c.states v active) active;
    one_completes = λ before after e o class v w splits is first second.
        one_becomes class.machine before e o v w first second;
  }

-- a signal that is told has a number from 1
from_one : (J : List Entry) (number : ℕ) (x : Stimulus) → told_by J number ≡ Some x → 0 < number
from_one J zero x told = let clash : None ≡ Some x = told in absurd (cc)
from_one J (suc n) x told = omega arith

told_from_one : (J : List Entry) (o : ObjectId) (number : ℕ) (signal : Option Waiting) → IsSomeAnd signal (λ w. number ≡ w.number)
    → told_by J number ≡ stimulus_for o signal → 0 < number
told_from_one J o number None named told = absurd named
told_from_one J o number (Some w) named told = from_one J number (stimulus_of o w) told

counts : (J : List Entry) (o : ObjectId) (signal : Option Waiting) (e : Entry) → NamesSignal signal e → IsTold J (stimulus_for o signal) e → CountsFromOne e
counts J o signal (Take q number firing) named told = told_from_one J o number signal named told
counts J o signal (Post q g args) named told = tt
counts J o signal (Start q) named told = tt
counts J o signal (Done q v firing) named told = tt
counts J o signal (Exit q v outs) named told = tt
counts J o signal (Effect q t outs) named told = tt
counts J o signal (Enter q v outs) named told = tt
counts J o signal (Opened q r mode how) named told = tt
counts J o signal (Pick q v route) named told = tt
counts J o signal (DoStep q v k outs) named told = tt

-- An entry that may follow is one of those that runs have.
pub is_run_entry : {setting : Setting} (b : IsWellFormed setting) {J : List Entry} {s : Situation} → StandsSo setting J s → (e : Entry) → MayFollow setting J e → IsRunEntry e
is_run_entry {setting = setting} b {J = J} {s = s} stands e may =
    let part = part_here b stands e may in
    let has = signal_here b stands e may in
    record {
      form = has_form (may A1).0 part.well_formed part.object.stands (signal_taken s.pools.waiting e) e (sym part.object.own) has.names
          (λ rule. shown part (signal_taken s.pools.waiting e) e refl (names_of setting J e (may A1).0 (may A1).1 (may A1)) has.pool has.signal_is rule (may rule));
      numbered = counts J (object_of e) (signal_taken s.pools.waiting e) e has.names has.told;
    }
