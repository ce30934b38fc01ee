-- How an object's step goes on to its end, and what its entries look like.
use Rattle.std.specs.Prelude.{◌≡◌, ◌≤◌, ℕ, List, [], ◌∷◌, ◌++◌, length, None}
use Rattle.pssm_semantics.specs.declared.entry.ObjectId.{ObjectId}
use Rattle.pssm_semantics.specs.declared.entry.Entry.{Entry}
use Rattle.pssm_semantics.specs.declared.entry.Entry.TheVariants.{Exit, Effect, Enter, Opened, Pick}
use Rattle.pssm_semantics.specs.declared.entry.Rule.{Rule}
use Rattle.pssm_semantics.specs.declared.setting.Class.{Class}
use Rattle.pssm_semantics.specs.Journal.{object_of}
use Rattle.pssm_semantics.specs.Pool.{told_by}
use Rattle.pssm_semantics.specs.Rules.{KeepsOwn}
use Rattle.pssm_semantics.specs.Completion.{IsStepFinished}
use Rattle.pssm_object.specs.Following.{NamesPlaces}

-- an exit, an effect, an entry, an opening or a pick (UML 2.5.1 14.2.3.9, transition execution sequence)
abbrev pub IsWork : Entry → Type 0
IsWork (Exit o state outs) = Unit {0}
IsWork (Effect o transition outs) = Unit {0}
IsWork (Enter o state outs) = Unit {0}
IsWork (Opened o region mode how) = Unit {0}
IsWork (Pick o choice route) = Unit {0}
IsWork _ = ⊥

-- an entry of the object that runs an item of its step, names places of the machine and keeps every rule as far as the object
-- shows it (UML 2.5.1 14.2.3.9, run to completion)
pub record GoesOn (class : Class) (J : List Entry) (o : ObjectId) (e : Entry) : Type 0 where
  pub own : object_of e ≡ o
  pub works : IsWork e
  pub places : NamesPlaces class.machine e
  pub keeps : (rule : Rule) → KeepsOwn class (told_by J) None rule J e

-- Each of the entries does so after those before it (UML 2.5.1 14.2.3.9, run to completion).
abbrev pub GoOn : Class → List Entry → ObjectId → List Entry → Type 0
GoOn class J o [] = Unit {0}
GoOn class J o (e ∷ rest) = GoesOn class J o e × GoOn class (J ++ e ∷ []) o rest

-- The object's step can be finished by a few further entries of the object: everything that it calls has then run, or the object
-- has ended (UML 2.5.1 14.2.3.9, run to completion; the bound is this profile's choice).
pub record Finishes (class : Class) (J : List Entry) (o : ObjectId) (most : ℕ) : Type 0 where
  pub more : List Entry
  pub few : length more ≤ most
  pub goes_on : GoOn class J o more
  pub finished : IsStepFinished class.machine (J ++ more) o
