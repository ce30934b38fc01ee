-- The entry that a line writes: its names are looked up in the setting, and its numbers are the entry's.
use Rattle.std.specs.Prelude.{◌≡◌, ℕ, List, [], ◌∷◌, Option, Some, None, nat_lt, if◌then◌else◌, option_map, position}
use Rattle.std.specs.Str.{bytes_eq}
use Rattle.pssm_model.specs.declared.ids.SignalId.{SignalId}
use Rattle.pssm_model.specs.declared.ids.MarkId.{MarkId}
use Rattle.pssm_semantics.specs.declared.entry.ObjectId.{ObjectId}
use Rattle.pssm_semantics.specs.declared.entry.Out.{Out}
use Rattle.pssm_semantics.specs.declared.entry.Out.TheVariants as outs
use Rattle.pssm_semantics.specs.declared.entry.Entry.{Entry}
use Rattle.pssm_semantics.specs.declared.entry.Entry.TheVariants as entries
use Rattle.pssm_semantics.specs.declared.entry.Rule.TheVariants.{A1}
use Rattle.pssm_semantics.specs.declared.line.Line.{Line}
use Rattle.pssm_semantics.specs.declared.line.Line.TheVariants.{Post, Start, Take, Done, Exit, Effect, Enter, Opened, Pick, DoStep}
use Rattle.pssm_semantics.specs.declared.line.LineOut.{LineOut}
use Rattle.pssm_semantics.specs.declared.line.LineOut.TheVariants.{Mark, Send}
use Rattle.pssm_semantics.specs.declared.setting.Class.{Class}
use Rattle.pssm_semantics.specs.declared.setting.Setting.{Setting}
use Rattle.pssm_semantics.specs.Settings.{class_of}
use Rattle.pssm_semantics.specs.Rules.{Holds}

-- goes on with the value, where there is one
infixl 10 ◌>>=◌
abbrev pub ◌>>=◌ : {A B : Type 0} → Option A → (A → Option B) → Option B
None >>= f = None
(Some x) >>= f = f x

-- a place, where it is below the limit of its type
abbrev pub numbered : ℕ → Option ℕ → Option ℕ
numbered limit place = place >>= λ i. if nat_lt i limit then Some i else None

-- the object of a name, the first if there are several
unfoldable pub object_named : Setting → List ℕ → Option ObjectId
object_named setting name = option_map (λ i. let o : ObjectId = record { 0 = i } in o) (numbered 256 (position (λ d. bytes_eq d.name name) setting.objects))

-- the signal of a name, the first if there are several
unfoldable pub signal_named : Setting → List ℕ → Option SignalId
signal_named setting name = option_map (λ i. let s : SignalId = record { 0 = i } in s) (numbered 65536 (position (λ d. bytes_eq d.name name) setting.signals))

-- the mark of a name in a class, the first if there are several
unfoldable pub mark_named : Class → List ℕ → Option MarkId
mark_named class name = option_map (λ i. let k : MarkId = record { 0 = i } in k) (numbered 65536 (position (λ mark. bytes_eq mark name) class.program.marks))

-- the mark of a name in the class of an object
unfoldable pub own_mark_named : Setting → ObjectId → List ℕ → Option MarkId
own_mark_named setting o name = do
  class ← class_of setting o
  mark_named class name

-- an output of an object
unfoldable pub out_named : Setting → ObjectId → LineOut → Option Out
out_named setting o (Mark name args) = do
  mark ← own_mark_named setting o name
  Some (outs.Mark mark args)
out_named setting o (Send object signal args) = do
  target ← object_named setting object
  s ← signal_named setting signal
  Some (outs.Send target s args)

unfoldable pub outs_named : Setting → ObjectId → List LineOut → Option (List Out)
outs_named setting o [] = Some []
outs_named setting o (x ∷ xs) = do
  first ← out_named setting o x
  others ← outs_named setting o xs
  Some (first ∷ others)

-- the name of the line's object
abbrev pub object_name : Line → List ℕ
object_name (Post object signal args) = object
object_name (Start object) = object
object_name (Take object number firing) = object
object_name (Done object state firing) = object
object_name (Exit object state outs) = object
object_name (Effect object transition outs) = object
object_name (Enter object state outs) = object
object_name (Opened object region mode how) = object
object_name (Pick object choice route) = object
object_name (DoStep object state step outs) = object

-- the line's entry, where this is its object
unfoldable pub entry_at : Setting → ObjectId → Line → Option Entry
entry_at setting o (Post object signal args) = do
  s ← signal_named setting signal
  Some (entries.Post o s args)
entry_at setting o (Start object) = Some (entries.Start o)
entry_at setting o (Take object number firing) = Some (entries.Take o number firing)
entry_at setting o (Done object state firing) = Some (entries.Done o state firing)
entry_at setting o (Exit object state outs) = do
  xs ← outs_named setting o outs
  Some (entries.Exit o state xs)
entry_at setting o (Effect object transition outs) = do
  xs ← outs_named setting o outs
  Some (entries.Effect o transition xs)
entry_at setting o (Enter object state outs) = do
  xs ← outs_named setting o outs
  Some (entries.Enter o state xs)
entry_at setting o (Opened object region mode how) = Some (entries.Opened o region mode how)
entry_at setting o (Pick object choice route) = Some (entries.Pick o choice route)
entry_at setting o (DoStep object state step outs) = do
  xs ← outs_named setting o outs
  Some (entries.DoStep o state step xs)

-- the line's entry, where its names are the setting's
unfoldable pub entry_named : Setting → Line → Option Entry
entry_named setting line = do
  o ← object_named setting (object_name line)
  entry_at setting o line

-- The line writes the entry.
abbrev pub IsEntryOf : Setting → Line → Entry → Type 0
IsEntryOf setting line e = entry_named setting line ≡ Some e

-- The entry keeps the first rule: what it names is the setting's. The journal before it has no part in this.
abbrev pub KeepsNames : Setting → Entry → Type 0
KeepsNames setting e = (J : List Entry) → Holds setting A1 J e

-- The line writes no entry that keeps the first rule.
abbrev pub BreaksNames : Setting → Line → Type 0
BreaksNames setting line = (e : Entry) → IsEntryOf setting line e → KeepsNames setting e → ⊥

-- The lines write these entries, one each.
abbrev pub AreEntries : Setting → List Line → List Entry → Type 0
AreEntries setting [] [] = Unit {0}
AreEntries setting (l ∷ lines) (e ∷ J) = IsEntryOf setting l e × AreEntries setting lines J
AreEntries setting _ _ = ⊥
