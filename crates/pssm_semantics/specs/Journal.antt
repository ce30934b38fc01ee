-- What a journal says of one object, read off the whole list of entries.
use Rattle.std.specs.Prelude.{◌≡◌, ◌⊎◌, ◌++◌, ◌==◌, ℕ, List, ◌∷◌, Bool, false, true, Some}
use Rattle.std.specs.List.{AllByRecursion}
use Rattle.pssm_model.specs.declared.ids.VertexId.{VertexId}
use Rattle.pssm_model.specs.declared.ids.RegionId.{RegionId}
use Rattle.pssm_model.specs.declared.elements.DraftMachine.{DraftMachine}
use Rattle.pssm_model.specs.declared.elements.Owner.TheVariants.{Region, State}
use Rattle.pssm_model.specs.declared.steps.How.TheVariants.{Nothing}
use Rattle.pssm_model.specs.Forest.{owner_of}
use Rattle.pssm_model.specs.Configuration.{Configuration, IsDirect}
use Rattle.pssm_semantics.specs.declared.entry.ObjectId.{ObjectId}
use Rattle.pssm_semantics.specs.declared.entry.Entry.{Entry}
use Rattle.pssm_semantics.specs.declared.entry.Entry.TheVariants.{Post, Start, Take, Done, Exit, Effect, Enter, Opened, Pick, DoStep}

-- the object whose entry it is (this profile's choice of entries)
abbrev pub object_of : Entry → ObjectId
object_of (Post o signal args) = o
object_of (Start o) = o
object_of (Take o number firing) = o
object_of (Done o state firing) = o
object_of (Exit o state outs) = o
object_of (Effect o transition outs) = o
object_of (Enter o state outs) = o
object_of (Opened o region mode how) = o
object_of (Pick o choice route) = o
object_of (DoStep o state step outs) = o

-- a signal that comes from outside (this profile's choice of entries)
abbrev pub IsPost : Entry → Type 0
IsPost (Post object signal args) = Unit {0}
IsPost _ = ⊥

-- the start of the object (PSSM 1.0 8.5, the initial run-to-completion step)
abbrev pub IsStart : Entry → ObjectId → Type 0
IsStart (Start object) o = object ≡ o
IsStart _ o = ⊥

-- whether the entry begins a step of the object: its start, or the dispatch of a signal or completion (UML 2.5.1 14.2.3.9, run to completion)
abbrev pub is_head_of : ObjectId → Entry → Bool
is_head_of o (Start object) = object.0 == o.0
is_head_of o (Take object number firing) = object.0 == o.0
is_head_of o (Done object state firing) = object.0 == o.0
is_head_of o _ = false

-- The entry begins a step of the object (UML 2.5.1 14.2.3.9, run to completion).
abbrev pub Heads : Entry → ObjectId → Type 0
Heads e o = is_head_of o e ≡ true

-- The entry enters the State or final state (UML 2.5.1 14.2.3.4, entering a State).
abbrev pub EntersAt : Entry → ObjectId → VertexId → Type 0
EntersAt (Enter object state outs) o s = (object ≡ o) × (state ≡ s)
EntersAt _ o s = ⊥

-- The entry exits the State or final state (UML 2.5.1 14.2.3.4, exiting a State).
abbrev pub ExitsAt : Entry → ObjectId → VertexId → Type 0
ExitsAt (Exit object state outs) o s = (object ≡ o) × (state ≡ s)
ExitsAt _ o s = ⊥

-- The journal is these entries, then this one, then those (this profile's choice).
abbrev pub Splits : List Entry → List Entry → Entry → List Entry → Type 0
Splits J before e after = J ≡ before ++ e ∷ after

-- The journal has an entry of the State by the object and no exit of it after (UML 2.5.1 14.2.3.4, State configurations).
abbrev pub IsActive : List Entry → ObjectId → VertexId → Type 0
IsActive J o s =
    (before after : List Entry) × (e : Entry) × Splits J before e after × EntersAt e o s × AllByRecursion (λ f. ExitsAt f o s → ⊥) after

-- the memory of the region: its direct State or final state that was exited last (UML 2.5.1 14.2.3.4, State history)
abbrev pub IsMemory : DraftMachine → List Entry → ObjectId → RegionId → VertexId → Type 0
IsMemory m J o r s =
    (before after : List Entry) × (e : Entry) × Splits J before e after × ExitsAt e o s × IsDirect m s r
    × AllByRecursion (λ f. (q : VertexId) → IsDirect m q r → ExitsAt f o q → ⊥) after

-- The entry opens the region and leaves it empty (this profile's choice).
abbrev pub OpensByNone : Entry → ObjectId → RegionId → Type 0
OpensByNone (Opened object region mode Nothing) o r = (object ≡ o) × (region ≡ r)
OpensByNone _ o r = ⊥

-- The entry opens the region (UML 2.5.1 14.2.3.2 and 14.2.3.4, default activation and State history).
abbrev pub OpensAt : Entry → ObjectId → RegionId → Type 0
OpensAt (Opened object region mode how) o r = (object ≡ o) × (region ≡ r)
OpensAt _ o r = ⊥

-- The entry opens the region, enters or exits a direct vertex of it, or enters the State that owns it (this profile's choice).
abbrev pub TouchesRegion : DraftMachine → Entry → ObjectId → RegionId → Type 0
TouchesRegion m e o r =
    OpensAt e o r
    ⊎ ((s : VertexId) × IsDirect m s r × (EntersAt e o s ⊎ ExitsAt e o s))
    ⊎ ((s : VertexId) × (owner_of m (Region r) ≡ Some (State s)) × EntersAt e o s)

-- The latest entry that touches the region opens it and leaves it empty (this profile's choice).
abbrev pub IsLeftEmpty : DraftMachine → List Entry → ObjectId → RegionId → Type 0
IsLeftEmpty m J o r =
    (before after : List Entry) × (e : Entry) × Splits J before e after × OpensByNone e o r × AllByRecursion (λ f. TouchesRegion m f o r → ⊥) after

-- The entry does this step of the State's do-activity (UML 2.5.1 14.2.3.4, doActivity; the steps are this profile's choice).
abbrev pub DoesAt : Entry → ObjectId → VertexId → ℕ → Type 0
DoesAt (DoStep object state step outs) o s k = (object ≡ o) × (state ≡ s) × (step ≡ k)
DoesAt _ o s k = ⊥

-- The do step stands in the journal after the State's last entry (UML 2.5.1 14.2.3.4, doActivity).
abbrev pub HasDoneStep : List Entry → ObjectId → VertexId → ℕ → Type 0
HasDoneStep J o s k =
    (before after : List Entry) × (e : Entry) × Splits J before e after × DoesAt e o s k × AllByRecursion (λ f. EntersAt f o s → ⊥) after

-- the configuration of the object after these entries (UML 2.5.1 14.2.3.4, State configurations)
abbrev pub configuration_after : DraftMachine → List Entry → ObjectId → Configuration
configuration_after m J o = record {
  Active = IsActive J o;
  Remembers = IsMemory m J o;
  HasDoneStep = HasDoneStep J o;
  LeftEmpty = IsLeftEmpty m J o;
}
