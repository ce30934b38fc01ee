-- What may come next, for one object and for several.
use Rattle.std.specs.Prelude.{◌≤◌, ◌<◌, ℕ, List, Option, Some, None}
use Rattle.pssm_semantics.specs.declared.entry.Entry.{Entry}
use Rattle.pssm_semantics.specs.declared.setting.Class.{Class}
use Rattle.pssm_semantics.specs.declared.setting.Setting.{Setting}
use Rattle.pssm_semantics.specs.Journal.{IsPost, object_of}
use Rattle.pssm_semantics.specs.Admissible.{MayFollow}
use Rattle.pssm_pool.specs.declared.pools.Waiting.{Waiting}
use Rattle.pssm_object.specs.Standing.{Standing, StandsAfter}
use Rattle.pssm_object.specs.Following.{NamesPlaces, KeepsRules, IsCandidate, IsMove}
use Rattle.pssm_system.specs.declared.situation.Situation.{Situation}
use Rattle.pssm_system.specs.declared.choosing.Wanted.{Wanted}
use Rattle.pssm_system.specs.declared.choosing.Wanted.TheVariants.{AnyEntry, Move}
use Rattle.pssm_system.specs.inner.Keeping.{StandsSo}

-- The entry is one of those that are looked for.
abbrev pub IsWanted : Wanted → Entry → Type 0
IsWanted AnyEntry e = IsPost e → ⊥
IsWanted Move e = IsMove e

-- such an entry of the object, which may come next under this signal
pub record IsNext (class : Class) (x : Standing) (signal : Option Waiting) (wanted : Wanted) (e : Entry) : Type 0 where
  pub wanted_is : IsWanted wanted e
  pub candidate : IsCandidate x.own signal e
  pub places : NamesPlaces class.machine e
  pub keeps : (J : List Entry) → StandsAfter class J x → KeepsRules class x signal J e

-- There is none.
abbrev pub HasNoNext : Class → Standing → Option Waiting → Wanted → Type 0
HasNoNext class x signal wanted =
    (J : List Entry) (e : Entry) → StandsAfter class J x → IsWanted wanted e → IsCandidate x.own signal e
    → KeepsRules class x signal J e → ⊥

-- It may be done next, whatever signal waits.
abbrev pub IsNextAlways : Class → Standing → Entry → Type 0
IsNextAlways class x e = (signal : Option Waiting) → IsNext class x signal AnyEntry e

-- what was found for the object: one of them, or nothing where there is none
abbrev pub Finds : Class → Standing → Option Waiting → Wanted → Option Entry → Type 0
Finds class x signal wanted None = HasNoNext class x signal wanted
Finds class x signal wanted (Some e) = IsNext class x signal wanted e

-- an entry that is looked for, and that may follow in the setting
pub record MayComeNext (setting : Setting) (s : Situation) (wanted : Wanted) (e : Entry) : Type 0 where
  pub wanted_is : IsWanted wanted e
  pub follows : (J : List Entry) → StandsSo setting J s → MayFollow setting J e

-- None of the objects from one on and before another has one.
abbrev pub NoneMayCome : Setting → Situation → Wanted → ℕ → ℕ → Type 0
NoneMayCome setting s wanted from to =
    (J : List Entry) (e : Entry) → StandsSo setting J s → from ≤ (object_of e).0 → (object_of e).0 < to → IsWanted wanted e
    → MayFollow setting J e → ⊥

-- what was found for these objects: one of them, or nothing where there is none
abbrev pub FindsAmong : Setting → Situation → Wanted → ℕ → ℕ → Option Entry → Type 0
FindsAmong setting s wanted from to None = NoneMayCome setting s wanted from to
FindsAmong setting s wanted from to (Some e) = MayComeNext setting s wanted e
