-- What the object says of an entry is what the setting says of it.
use Rattle.std.proofs.Common.{◌≡◌, ◌<◌, ◌≤◌, ℕ, List, Option, Some, None, All, unwrap_or, slice_get, refl, sym, ap, subst, ◌∙◌, ⊎_elim, arith}
use Rattle.std.proofs.lemmas.Bool.{cases_lt}
use Rattle.pssm_model.specs.declared.steps.Firing.{Firing}
use Rattle.pssm_semantics.specs.declared.entry.ObjectId.{ObjectId}
use Rattle.pssm_semantics.specs.declared.entry.Entry.{Entry}
use Rattle.pssm_semantics.specs.declared.entry.Entry.TheVariants.{Post, Start, Take, Done, Exit, Effect, Enter, Opened, Pick, DoStep}
use Rattle.pssm_semantics.specs.declared.entry.Rule.{Rule}
use Rattle.pssm_semantics.specs.declared.entry.Rule.TheVariants.{A1, A2, A3, A4, A5, A6, A7, A8, A9, A10, A11, A12}
use Rattle.pssm_semantics.specs.declared.stimulus.Stimulus.{Stimulus}
use Rattle.pssm_semantics.specs.declared.setting.Class.{Class}
use Rattle.pssm_semantics.specs.declared.setting.Setting.{Setting}
use Rattle.pssm_semantics.specs.Settings.{class_of}
use Rattle.pssm_semantics.specs.Journal.{IsPost, object_of}
use Rattle.pssm_semantics.specs.Pool.{KnownSignals, outs_of, told_by}
use Rattle.pssm_semantics.specs.Known.{IsOutOf, NamesKnown}
use Rattle.pssm_semantics.specs.Rules.{KeepsPool, KeepsOwn, Holds, taken_by}
use Rattle.pssm_semantics.specs.Verdict.{number_of}
use Rattle.pssm_semantics.specs.Proper.{ClassFits}
use Rattle.pssm_semantics.specs.Classes.{IsWellFormedClass}
use Rattle.pssm_semantics.specs.Proper.{IsWellFormed}
use Rattle.pssm_semantics_laws.proofs.SettingClasses.{class_of_object}
use Rattle.pssm_pool.specs.declared.pools.Waiting.{Waiting}
use Rattle.pssm_object.specs.Standing.{Standing}
use Rattle.pssm_object.specs.Following.{NamesPlaces, NamesSignal, IsTold, KeepsRule, stimulus_for}
use Rattle.pssm_system.specs.inner.Pooling.{signal_taken}
use Rattle.pssm_system.specs.inner.Deferring.{ComesWith}
use Rattle.pssm_system.specs.declared.situation.Situation.{Situation}
use Rattle.pssm_system.specs.inner.Keeping.{IsObject, AreObjects, ArePools}
use Rattle.pssm_system.specs.inner.Judging.{Says, IsVerdict}
use Rattle.pssm_system.proofs.Following.{IsNoTake, own_of, shared, holds}

-- an entry is a take or none
pub data TakeOrNot (e : Entry) : Type 0 where
  is_take : (o : ObjectId) (number : ℕ) (firing : Firing) → e ≡ Take o number firing → TakeOrNot e
  no_take : IsNoTake e → TakeOrNot e

pub take_or_not : (e : Entry) → TakeOrNot e
take_or_not (Take o number firing) = is_take o number firing refl
take_or_not (Post o g args) = no_take tt
take_or_not (Start o) = no_take tt
take_or_not (Done o v firing) = no_take tt
take_or_not (Exit o v outs) = no_take tt
take_or_not (Effect o v outs) = no_take tt
take_or_not (Enter o v outs) = no_take tt
take_or_not (Opened o r mode how) = no_take tt
take_or_not (Pick o v route) = no_take tt
take_or_not (DoStep o v k outs) = no_take tt

-- an entry other than a take keeps the pools, and has no signal
pub no_pool : (class : Class) (J : List Entry) (e : Entry) → IsNoTake e → KeepsPool class J e
no_pool class J (Take o number firing) free = absurd free
no_pool class J (Post o g args) free = tt
no_pool class J (Start o) free = tt
no_pool class J (Done o v firing) free = tt
no_pool class J (Exit o v outs) free = tt
no_pool class J (Effect o v outs) free = tt
no_pool class J (Enter o v outs) free = tt
no_pool class J (Opened o r mode how) free = tt
no_pool class J (Pick o v route) free = tt
no_pool class J (DoStep o v k outs) free = tt

pub no_signal : (pools : List (List Waiting)) (e : Entry) → IsNoTake e → signal_taken pools e ≡ None
no_signal pools (Take o number firing) free = absurd free
no_signal pools (Post o g args) free = refl
no_signal pools (Start o) free = refl
no_signal pools (Done o v firing) free = refl
no_signal pools (Exit o v outs) free = refl
no_signal pools (Effect o v outs) free = refl
no_signal pools (Enter o v outs) free = refl
no_signal pools (Opened o r mode how) free = refl
no_signal pools (Pick o v route) free = refl
no_signal pools (DoStep o v k outs) free = refl

pub comes_none : (setting : Setting) (s : Situation) (e : Entry) (signal : Option Waiting) → IsNoTake e → ComesWith setting s e signal → signal ≡ None
comes_none setting s (Take o number firing) signal free comes = absurd free
comes_none setting s (Post o g args) signal free comes = comes
comes_none setting s (Start o) signal free comes = comes
comes_none setting s (Done o v firing) signal free comes = comes
comes_none setting s (Exit o v outs) signal free comes = comes
comes_none setting s (Effect o v outs) signal free comes = comes
comes_none setting s (Enter o v outs) signal free comes = comes
comes_none setting s (Opened o r mode how) signal free comes = comes
comes_none setting s (Pick o v route) signal free comes = comes
comes_none setting s (DoStep o v k outs) signal free comes = comes

pub taken_none : (told : KnownSignals) (e : Entry) → IsNoTake e → taken_by told e ≡ None
taken_none told (Take o number firing) free = absurd free
taken_none told (Post o g args) free = refl
taken_none told (Start o) free = refl
taken_none told (Done o v firing) free = refl
taken_none told (Exit o v outs) free = refl
taken_none told (Effect o v outs) free = refl
taken_none told (Enter o v outs) free = refl
taken_none told (Opened o r mode how) free = refl
taken_none told (Pick o v route) free = refl
taken_none told (DoStep o v k outs) free = refl

-- it names no signal
pub names_none : (signal : Option Waiting) (e : Entry) → IsNoTake e → NamesSignal signal e
names_none signal (Take o number firing) free = absurd free
names_none signal (Post o g args) free = tt
names_none signal (Start o) free = tt
names_none signal (Done o v firing) free = tt
names_none signal (Exit o v outs) free = tt
names_none signal (Effect o v outs) free = tt
names_none signal (Enter o v outs) free = tt
names_none signal (Opened o r mode how) free = tt
names_none signal (Pick o v route) free = tt
names_none signal (DoStep o v k outs) free = tt

pub told_none : (J : List Entry) (signal : Option Stimulus) (e : Entry) → IsNoTake e → IsTold J signal e
told_none J signal (Take o number firing) free = absurd free
told_none J signal (Post o g args) free = tt
told_none J signal (Start o) free = tt
told_none J signal (Done o v firing) free = tt
told_none J signal (Exit o v outs) free = tt
told_none J signal (Effect o v outs) free = tt
told_none J signal (Enter o v outs) free = tt
told_none J signal (Opened o r mode how) free = tt
told_none J signal (Pick o v route) free = tt
told_none J signal (DoStep o v k outs) free = tt

-- what an entry names is known where its places and its outputs are
pub known_by : (setting : Setting) (class : Class) (e : Entry) → (IsPost e → ⊥) → NamesPlaces class.machine e → All (IsOutOf setting class) (outs_of e)
    → NamesKnown setting class e
known_by setting class (Post o g args) no_post places outs = absurd (no_post tt)
known_by setting class (Start o) no_post places outs = tt
known_by setting class (Take o number firing) no_post places outs = places
known_by setting class (Done o v firing) no_post places outs = places
known_by setting class (Exit o v outs) no_post places known = (places, known)
known_by setting class (Effect o v outs) no_post places known = (places, known)
known_by setting class (Enter o v outs) no_post places known = (places, known)
known_by setting class (Opened o r mode how) no_post places outs = places
known_by setting class (Pick o v route) no_post places outs = places
known_by setting class (DoStep o v k outs) no_post places known = (places, known)

-- and where it is known, its places are of the machine
pub places_of : (setting : Setting) (class : Class) (e : Entry) → NamesKnown setting class e → NamesPlaces class.machine e
places_of setting class (Post o g args) known = tt
places_of setting class (Start o) known = tt
places_of setting class (Take o number firing) known = known
places_of setting class (Done o v firing) known = known
places_of setting class (Exit o v outs) known = known.0
places_of setting class (Effect o v outs) known = known.0
places_of setting class (Enter o v outs) known = known.0
places_of setting class (Opened o r mode how) known = known
places_of setting class (Pick o v route) known = known
places_of setting class (DoStep o v k outs) known = known.0

-- an object of a well-formed setting, with what is kept of a journal
pub record IsPart (setting : Setting) (J : List Entry) (pools : List (List Waiting)) (o : ObjectId) (class : Class) (x : Standing) : Type 0 where
  pub well_formed : IsWellFormedClass class
  pub fits : ClassFits setting class
  pub class_is : class_of setting o ≡ Some class
  pub object : IsObject class J o x
  pub pools_are : ArePools setting J pools

pub is_part : {setting : Setting} (b : IsWellFormed setting) {J : List Entry} {objects : List Standing} {pools : List (List Waiting)} → AreObjects setting J objects
    → ArePools setting J pools → (o : ObjectId) (class : Class) (x : Standing) → class_of setting o ≡ Some class → slice_get objects o.0 ≡ Some x
    → IsPart setting J pools o class x
is_part {setting = setting} b ao pools o class x is at = record {
  well_formed = (class_of_object setting b o class is).0;
  fits = (class_of_object setting b o class is).1;
  class_is = is;
  object = ao.each o class x is at;
  pools_are = pools;
}

module _ {setting : Setting} {J : List Entry} {pools : List (List Waiting)} {o : ObjectId} {class : Class} {x : Standing} (p : IsPart setting J pools o class x) where
  -- the rules as the object shows them
  stimulus_is : (signal : Option Waiting) → stimulus_for x.own signal ≡ stimulus_for o signal
  stimulus_is signal = ap (λ q. stimulus_for q signal) p.object.own

  module _ (signal : Option Waiting) (e : Entry) (own : object_of e ≡ o) (known : NamesKnown setting class e) (pool : KeepsPool class J e)
      (signal_is : taken_by (told_by J) e ≡ stimulus_for o signal) where
    is_here : class_of setting (object_of e) ≡ Some class
    is_here = ap (λ q. class_of setting q) own ∙ p.class_is

    same_signal : taken_by (told_by J) e ≡ stimulus_for x.own signal
    same_signal = signal_is ∙ sym (stimulus_is signal)

    pub shown : (rule : Rule) → Holds setting rule J e → KeepsRule class x signal rule J e
    shown rule h = subst (λ s. KeepsOwn class (told_by J) s rule J e) same_signal (own_of setting J e class is_here rule h)

    pub asked : (rule : Rule) → KeepsRule class x signal rule J e → Holds setting rule J e
    asked rule h = holds setting J e class is_here known pool rule (subst (λ s. KeepsOwn class (told_by J) s rule J e) (sym same_signal) h)

    -- what the object says is what the setting says
    pub same_verdict : (answer : Option Rule) → Says class x signal e answer → IsVerdict setting J e answer
    same_verdict None says = λ rule. asked rule (says J p.object.stands rule)
    same_verdict (Some rule) says =
        let first = says J p.object.stands in
        record { broken = λ h. first.broken (shown rule h); earlier = λ other lt. asked other (first.earlier other lt) }

  -- A take of another signal than the first that is not deferred breaks A6, if it breaks no rule before it.
  module _ (number : ℕ) (firing : Firing) (known : NamesKnown setting class (Take o number firing))
      (other : KeepsPool class J (Take o number firing) → ⊥) where
    abbrev the_take : Entry
    the_take = Take o number firing

    before : (rule : Rule) → number_of rule < 6 → KeepsRule class x None rule J the_take → Holds setting rule J the_take
    before A1 lt h = (class, p.class_is, known)
    before A2 lt h = shared setting J the_take class p.class_is A2 h
    before A3 lt h = shared setting J the_take class p.class_is A3 h
    before A4 lt h = shared setting J the_take class p.class_is A4 h
    before A5 lt h = shared setting J the_take class p.class_is A5 h
    before A6 lt h = absurd (omega arith)
    before A7 lt h = absurd (omega arith)
    before A8 lt h = absurd (omega arith)
    before A9 lt h = absurd (omega arith)
    before A10 lt h = absurd (omega arith)
    before A11 lt h = absurd (omega arith)
    before A12 lt h = absurd (omega arith)

    back : (rule : Rule) → number_of rule < 6 → Holds setting rule J the_take → KeepsRule class x None rule J the_take
    back A1 lt h = tt
    back A2 lt h = h class p.class_is
    back A3 lt h = h class p.class_is
    back A4 lt h = h class p.class_is
    back A5 lt h = h class p.class_is
    back A6 lt h = absurd (omega arith)
    back A7 lt h = absurd (omega arith)
    back A8 lt h = absurd (omega arith)
    back A9 lt h = absurd (omega arith)
    back A10 lt h = absurd (omega arith)
    back A11 lt h = absurd (omega arith)
    back A12 lt h = absurd (omega arith)

    -- without its signal a take is asked nothing else
    not_asked : (rule : Rule) → 6 ≤ number_of rule → KeepsRule class x None rule J the_take
    not_asked A1 le = absurd (omega arith)
    not_asked A2 le = absurd (omega arith)
    not_asked A3 le = absurd (omega arith)
    not_asked A4 le = absurd (omega arith)
    not_asked A5 le = absurd (omega arith)
    not_asked A6 le = tt
    not_asked A7 le = λ y none. let clash : None ≡ Some y = none in absurd (cc)
    not_asked A8 le = tt
    not_asked A9 le = tt
    not_asked A10 le = tt
    not_asked A11 le = tt
    not_asked A12 le = refl

    pub verdict_alone : (answer : Option Rule) → Says class x None the_take answer → IsVerdict setting J the_take (Some (unwrap_or answer A6))
    verdict_alone None says = record {
      broken = λ h. other (h class p.class_is);
      earlier = λ rule lt. before rule lt (says J p.object.stands rule);
    }
    verdict_alone (Some rule) says =
        let first = says J p.object.stands in
        ⊎_elim
        (λ (below : number_of rule < 6). record {
          broken = λ h. first.broken (back rule below h);
          earlier = λ earlier lt. before earlier (omega arith) (first.earlier earlier lt);
        })
        (λ (past : 6 ≤ number_of rule). absurd (first.broken (not_asked rule past)))
        (cases_lt (number_of rule) 6)

-- an entry that is not any take is none
pub not_take : (e : Entry) → ((o : ObjectId) (number : ℕ) (firing : Firing) → e ≡ Take o number firing → ⊥) → IsNoTake e
not_take (Take o number firing) not = not o number firing refl
not_take (Post o g args) not = tt
not_take (Start o) not = tt
not_take (Done o v firing) not = tt
not_take (Exit o v outs) not = tt
not_take (Effect o v outs) not = tt
not_take (Enter o v outs) not = tt
not_take (Opened o r mode how) not = tt
not_take (Pick o v route) not = tt
not_take (DoStep o v k outs) not = tt
