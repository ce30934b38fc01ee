-- The statements about all admissible journals.
use Rattle.std.specs.Prelude.{◌≡◌, ◌≢◌, ◌⊎◌, ◌≤◌, ◌<◌, ◌++◌, ℕ, List, length, Some, slice_get, sum_by, Contains, AllPairs}
use Rattle.std.specs.Option.{option_map_or}
use Rattle.pssm_model.specs.Order.{entries_at_most}
use Rattle.pssm_model.specs.declared.ids.VertexId.{VertexId}
use Rattle.pssm_model.specs.declared.ids.RegionId.{RegionId}
use Rattle.pssm_model.specs.declared.steps.Firing.{Firing}
use Rattle.pssm_model.specs.declared.elements.Owner.TheVariants.{Top, Region, State}
use Rattle.pssm_model.specs.Forest.{owner_of}
use Rattle.pssm_semantics.specs.declared.entry.ObjectId.{ObjectId}
use Rattle.pssm_semantics.specs.declared.entry.Entry.{Entry}
use Rattle.pssm_semantics.specs.declared.entry.Entry.TheVariants.{Take, Done}
use Rattle.pssm_semantics.specs.declared.stimulus.Stimulus.{Stimulus}
use Rattle.pssm_semantics.specs.declared.setting.Class.{Class}
use Rattle.pssm_semantics.specs.declared.setting.Setting.{Setting}
use Rattle.pssm_semantics.specs.Settings.{class_of}
use Rattle.pssm_semantics.specs.Journal.{Splits, IsActive}
use Rattle.pssm_semantics.specs.Pool.{told_by}
use Rattle.pssm_semantics.specs.Completion.{BecomesComplete}
use Rattle.pssm_semantics.specs.Completion.{IsStepFinished}
use Rattle.pssm_semantics.specs.Proper.{IsWellFormed}
use Rattle.pssm_semantics.specs.Admissible.{IsAdmissibleIn, IsCompleteRun}

-- The journal can be continued to a complete run by at most so many entries (UML 2.5.1 14.2.3.9, run to completion).
pub record CompletesWithin (setting : Setting) (J : List Entry) (most : ℕ) : Type 0 where
  pub more : List Entry
  pub few : length more ≤ most
  pub run : IsCompleteRun setting (J ++ more)

-- an object whose last step is not finished (UML 2.5.1 14.2.3.9, run to completion)
abbrev pub HasOpenStep : Setting → List Entry → ObjectId → Type 0
HasOpenStep setting J o = (class : Class) × (class_of setting o ≡ Some class) × (IsStepFinished class.machine J o → ⊥)

-- the objects with an open step, each once (UML 2.5.1 14.2.3.9, run to completion)
pub record AreOpen (setting : Setting) (J : List Entry) (unfinished : List ObjectId) : Type 0 where
  pub each : (o : ObjectId) → HasOpenStep setting J o → Contains unfinished o
  pub only : (o : ObjectId) → Contains unfinished o → HasOpenStep setting J o
  pub once : AllPairs (λ a b. a ≢ b) unfinished

-- the sum of what the open steps of these objects can need (this profile's choice)
abbrev pub needs_at_most : Setting → List ObjectId → ℕ
needs_at_most setting objects = sum_by (λ o. option_map_or (λ c. entries_at_most c.machine) (class_of setting o) 0) objects

-- The journal can be continued to a complete run by no more entries than its open steps need at most; where no step is open it is complete
-- (UML 2.5.1 14.2.3.9, run to completion; the bound is this profile's choice).
abbrev pub CompletesInTime : Setting → List Entry → Type 0
CompletesInTime setting J =
    (unfinished : List ObjectId) × AreOpen setting J unfinished × CompletesWithin setting J (needs_at_most setting unfinished)

-- The entry begins a step of the object other than its first (UML 2.5.1 14.2.3.9, run to completion).
abbrev pub BeginsStep : Entry → ObjectId → Type 0
BeginsStep (Take object number firing) o = object ≡ o
BeginsStep (Done object state firing) o = object ≡ o
BeginsStep _ o = ⊥

-- Such an entry comes after the object's earlier steps are finished (UML 2.5.1 14.2.3.9, run to completion).
abbrev pub StepsFollow : Setting → List Entry → Type 0
StepsFollow setting J =
    (before after : List Entry) (e : Entry) (o : ObjectId) (class : Class) → Splits J before e after → BeginsStep e o → class_of setting o ≡ Some class
    → IsStepFinished class.machine before o

-- Each signal that is taken was posted or sent earlier, to this object (UML 2.5.1 14.2.3.9, event pool).
abbrev pub TakesAreTold : List Entry → Type 0
TakesAreTold J =
    (before after : List Entry) (o : ObjectId) (number : ℕ) (firing : Firing) → Splits J before (Take o number firing) after
    → (x : Stimulus) × (told_by before number ≡ Some x) × (x.object ≡ o)

-- No number is taken twice (UML 2.5.1 14.2.3.9, event pool).
abbrev pub TakesDiffer : List Entry → Type 0
TakesDiffer J =
    (i j : ℕ) (o q : ObjectId) (n k : ℕ) (f g : Firing) → i < j → slice_get J i ≡ Some (Take o n f) → slice_get J j ≡ Some (Take q k g) → n ≢ k

-- The journal begins with these entries: all of them, none, or those up to some entry (this profile's choice).
abbrev pub IsFront : List Entry → List Entry → Type 0
IsFront front J = (rest : List Entry) × (J ≡ front ++ rest)

-- After every entry each region has at most one active direct vertex (UML 2.5.1 14.2.3.4, State configurations).
abbrev pub RegionsHoldOne : Setting → List Entry → Type 0
RegionsHoldOne setting J =
    (front : List Entry) (o : ObjectId) (class : Class) (r : RegionId) (s q : VertexId) → IsFront front J → class_of setting o ≡ Some class
    → owner_of class.machine (State s) ≡ Some (Region r) → owner_of class.machine (State q) ≡ Some (Region r)
    → IsActive front o s → IsActive front o q → s ≡ q

-- After every entry the owner of an active vertex's region is the machine or an active State (UML 2.5.1 14.2.3.4, State configurations).
abbrev pub OwnersAreActive : Setting → List Entry → Type 0
OwnersAreActive setting J =
    (front : List Entry) (o : ObjectId) (class : Class) (r : RegionId) (s : VertexId) → IsFront front J → class_of setting o ≡ Some class
    → owner_of class.machine (State s) ≡ Some (Region r) → IsActive front o s
    → (owner_of class.machine (Region r) ≡ Some Top) ⊎ ((q : VertexId) × (owner_of class.machine (Region r) ≡ Some (State q)) × IsActive front o q)

-- No entry makes two States of an object complete, so the completion queue has one order (UML 2.5.1 14.2.3.8, completion events).
abbrev pub OneBecomesComplete : Setting → List Entry → Type 0
OneBecomesComplete setting J =
    (before after : List Entry) (e : Entry) (o : ObjectId) (class : Class) (s q : VertexId) → Splits J before e after → class_of setting o ≡ Some class
    → BecomesComplete class.machine before e o s → BecomesComplete class.machine before e o q → s ≡ q

-- what holds in every admissible journal of any setting (UML 2.5.1 14.2.3.9, run to completion and event pool)
pub record KeepsTakes (setting : Setting) (J : List Entry) : Type 0 where
  pub steps_follow : StepsFollow setting J
  pub takes_are_told : TakesAreTold J
  pub takes_differ : TakesDiffer J

-- what holds besides where the setting is well formed (UML 2.5.1 14.2.3.4 and 14.2.3.8, State configurations and completion events)
pub record KeepsRegions (setting : Setting) (J : List Entry) : Type 0 where
  pub one_each : RegionsHoldOne setting J
  pub owners : OwnersAreActive setting J
  pub one_completes : OneBecomesComplete setting J

-- Every admissible journal of a well-formed setting can be completed, by no more entries than its open steps need at most
-- (UML 2.5.1 14.2.3.9, run to completion; the bound is this profile's choice).
abbrev pub CompletionLaw : Setting → Type 0
CompletionLaw setting =
    (J : List Entry) → IsWellFormed setting → IsAdmissibleIn setting J → CompletesInTime setting J

-- the laws of all admissible journals (UML 2.5.1 14.2.3.4, 14.2.3.8 and 14.2.3.9)
abbrev pub LawsOfJournals : Setting → Type 0
LawsOfJournals setting =
    (J : List Entry) → IsAdmissibleIn setting J → KeepsTakes setting J × (IsWellFormed setting → KeepsRegions setting J)
