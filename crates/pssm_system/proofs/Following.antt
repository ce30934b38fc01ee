-- Between what one object shows of a further entry and what the setting asks of it.
use Rattle.std.proofs.Common.{◌≡◌, ◌<◌, List, length, Option, Some, None, slice_get, refl, sym, subst, ◌∙◌}
use Rattle.std.specs.Option.{option_and_then}
use Rattle.std.proofs.lemmas.Option.{slice_get_within}
use Rattle.pssm_semantics.specs.declared.entry.ObjectId.{ObjectId}
use Rattle.pssm_semantics.specs.declared.entry.Entry.{Entry}
use Rattle.pssm_semantics.specs.declared.entry.Entry.TheVariants.{Post, Start, Take, Done, Exit, Effect, Enter, Opened, Pick, DoStep}
use Rattle.pssm_semantics.specs.declared.entry.Rule.{Rule}
use Rattle.pssm_semantics.specs.declared.entry.Rule.TheVariants.{A1, A2, A3, A4, A5, A6, A7, A8, A9, A10, A11, A12}
use Rattle.pssm_semantics.specs.declared.stimulus.Stimulus.{Stimulus}
use Rattle.pssm_semantics.specs.declared.setting.Class.{Class}
use Rattle.pssm_semantics.specs.declared.setting.ObjectDecl.{ObjectDecl}
use Rattle.pssm_semantics.specs.declared.setting.Setting.{Setting}
use Rattle.pssm_semantics.specs.Settings.{class_of}
use Rattle.pssm_semantics.specs.Journal.{object_of}
use Rattle.pssm_semantics.specs.Pool.{KnownSignals, told_by}
use Rattle.pssm_semantics.specs.Known.{NamesKnown}
use Rattle.pssm_semantics.specs.Rules.{KeepsPool, KeepsFiring, KeepsOwn, KeepsShared, Holds, taken_by}

-- an object that has a class is one of the setting
pub object_there : (setting : Setting) (o : ObjectId) (class : Class) → class_of setting o ≡ Some class → o.0 < length setting.objects
object_there setting o class is = by (slice_get setting.objects o.0) refl is
  where
    by : (found : Option ObjectDecl) → slice_get setting.objects o.0 ≡ found
        → option_and_then (λ (d : ObjectDecl). slice_get setting.classes d.class) found ≡ Some class → o.0 < length setting.objects
    by None e none = let clash : None ≡ Some class = none in absurd (cc)
    by (Some d) e there = slice_get_within setting.objects o.0 d e

-- it has one class
pub one_class : (setting : Setting) (o : ObjectId) (c k : Class) → class_of setting o ≡ Some c → class_of setting o ≡ Some k → c ≡ k
one_class setting o c k is also = let same : Some c ≡ Some k = sym is ∙ also in cc

-- the entry is no take
abbrev pub IsNoTake : Entry → Type 0
IsNoTake (Take o number firing) = ⊥
IsNoTake _ = Unit {0}

-- An entry other than a take is not asked about the signal that is handed in.
module _ (class : Class) (told : KnownSignals) (s t : Option Stimulus) (J : List Entry) where
  firing_alike : (e : Entry) → IsNoTake e → KeepsFiring class told s J e → KeepsFiring class told t J e
  firing_alike (Take o number firing) free h = absurd free
  firing_alike (Post o g args) free h = h
  firing_alike (Start o) free h = h
  firing_alike (Done o v firing) free h = h
  firing_alike (Exit o v outs) free h = h
  firing_alike (Effect o v outs) free h = h
  firing_alike (Enter o v outs) free h = h
  firing_alike (Opened o r mode how) free h = h
  firing_alike (Pick o v route) free h = h
  firing_alike (DoStep o v k outs) free h = h

  pub own_alike : (rule : Rule) (e : Entry) → IsNoTake e → KeepsOwn class told s rule J e → KeepsOwn class told t rule J e
  own_alike A1 e free h = h
  own_alike A2 e free h = h
  own_alike A3 e free h = h
  own_alike A4 e free h = h
  own_alike A5 e free h = h
  own_alike A6 e free h = h
  own_alike A7 e free h = firing_alike e free h
  own_alike A8 e free h = h
  own_alike A9 e free h = h
  own_alike A10 e free h = h
  own_alike A11 e free h = h
  own_alike A12 e free h = h

-- What the setting asks of an entry of an object of the class, rule by rule.
module _ (setting : Setting) (J : List Entry) (e : Entry) (class : Class) (is : class_of setting (object_of e) ≡ Some class) where
  abbrev pub Own : Rule → Type 0
  Own rule = KeepsOwn class (told_by J) (taken_by (told_by J) e) rule J e

  pub own_of : (rule : Rule) → Holds setting rule J e → Own rule
  own_of A1 h = tt
  own_of A2 h = h class is
  own_of A3 h = h class is
  own_of A4 h = h class is
  own_of A5 h = h class is
  own_of A6 h = tt
  own_of A7 h = h class is
  own_of A8 h = h class is
  own_of A9 h = h class is
  own_of A10 h = h class is
  own_of A11 h = h class is
  own_of A12 h = h class is

  pub pool_kept : Holds setting A6 J e → KeepsPool class J e
  pool_kept h = h class is

  pub names_of : Holds setting A1 J e → NamesKnown setting class e
  names_of (c, at, known) = subst (λ k. NamesKnown setting k e) (one_class setting (object_of e) c class at is) known

  pub shared : (rule : Rule) → KeepsShared class rule J e → (c : Class) → class_of setting (object_of e) ≡ Some c → KeepsShared c rule J e
  shared rule h c at = subst (λ k. KeepsShared k rule J e) (one_class setting (object_of e) class c is at) h

  pub holds : NamesKnown setting class e → KeepsPool class J e → (rule : Rule) → Own rule → Holds setting rule J e
  holds known pool A1 h = (class, is, known)
  holds known pool A2 h = shared A2 h
  holds known pool A3 h = shared A3 h
  holds known pool A4 h = shared A4 h
  holds known pool A5 h = shared A5 h
  holds known pool A6 h = shared A6 pool
  holds known pool A7 h = shared A7 h
  holds known pool A8 h = shared A8 h
  holds known pool A9 h = shared A9 h
  holds known pool A10 h = shared A10 h
  holds known pool A11 h = shared A11 h
  holds known pool A12 h = shared A12 h
