-- The verdict on one more entry.
use Rattle.std.specs.Prelude.{◌≡◌, List, Option, Some, None, slice_get}
use Rattle.pssm_semantics.specs.declared.entry.Entry.{Entry}
use Rattle.pssm_semantics.specs.declared.entry.Rule.{Rule}
use Rattle.pssm_semantics.specs.declared.setting.Class.{Class}
use Rattle.pssm_semantics.specs.declared.setting.Setting.{Setting}
use Rattle.pssm_semantics.specs.Settings.{class_of}
use Rattle.pssm_semantics.specs.Journal.{object_of}
use Rattle.pssm_semantics.specs.Known.{NamesKnown}
use Rattle.pssm_semantics.specs.Rules.{Holds}
use Rattle.pssm_semantics.specs.Verdict.{IsFirstBroken}
use Rattle.pssm_semantics.specs.Admissible.{MayFollow}
use Rattle.pssm_pool.specs.declared.pools.Waiting.{Waiting}
use Rattle.pssm_object.specs.Standing.{Standing, StandsAfter}
use Rattle.pssm_object.specs.Following.{KeepsRule, KeepsRules}
use Rattle.pssm_system.specs.declared.situation.Situation.{Situation}
use Rattle.pssm_system.specs.inner.Keeping.{StandsSo}

-- The entry is one of an object of the setting, and what it names is known.
abbrev pub IsKnown : Setting → Entry → Type 0
IsKnown setting e = (class : Class) × (class_of setting (object_of e) ≡ Some class) × NamesKnown setting class e

-- what an object of the class says of an entry that comes with this signal: the first rule that it breaks, or none
abbrev pub Says : Class → Standing → Option Waiting → Entry → Option Rule → Type 0
Says class x signal e None = (J : List Entry) → StandsAfter class J x → KeepsRules class x signal J e
Says class x signal e (Some rule) =
    (J : List Entry) → StandsAfter class J x → IsFirstBroken (KeepsRule class x signal) J e rule

-- what the object of an entry says of it, where it comes with this signal
abbrev pub ItsObjectSays : Setting → Situation → Option Waiting → Entry → Option Rule → Type 0
ItsObjectSays setting s signal e answer =
    (class : Class) (x : Standing) → class_of setting (object_of e) ≡ Some class → slice_get s.objects.items (object_of e).0 ≡ Some x
    → Says class x signal e answer

-- what is said of an entry after a journal: the first rule that it breaks, or none
abbrev pub IsVerdict : Setting → List Entry → Entry → Option Rule → Type 0
IsVerdict setting J e None = MayFollow setting J e
IsVerdict setting J e (Some rule) = IsFirstBroken (Holds setting) J e rule

-- what is said of it after each journal of which this is kept
abbrev pub Judges : Setting → Situation → Entry → Option Rule → Type 0
Judges setting s e answer = (J : List Entry) → StandsSo setting J s → IsVerdict setting J e answer
