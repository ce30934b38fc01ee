-- The completion queue of an object as a list: the States whose completion waits, in the order in which they became complete.
use Rattle.std.specs.Prelude.{◌<◌, ◌≤◌, ℕ, List, AllPairs, Contains}
use Rattle.pssm_model.specs.declared.ids.VertexId.{VertexId}
use Rattle.pssm_model.specs.declared.elements.DraftMachine.{DraftMachine}
use Rattle.pssm_semantics.specs.declared.entry.ObjectId.{ObjectId}
use Rattle.pssm_semantics.specs.declared.entry.Entry.{Entry}
use Rattle.pssm_semantics.specs.Completion.{IsQueuedAt}

-- The completion of the State waits since this position: it is the least at which it waits
-- (UML 2.5.1 14.2.3.8, completion events).
abbrev pub WaitsSince : DraftMachine → List Entry → ObjectId → VertexId → ℕ → Type 0
WaitsSince m J o s i = IsQueuedAt m J o s i × ((j : ℕ) → IsQueuedAt m J o s j → i ≤ j)

-- The completion of the first State waits since before that of the other does
-- (UML 2.5.1 14.2.3.8, completion events; the order is this profile's choice).
abbrev pub WaitsBefore : DraftMachine → List Entry → ObjectId → VertexId → VertexId → Type 0
WaitsBefore m J o s q = (i : ℕ) × WaitsSince m J o s i × ((j : ℕ) → IsQueuedAt m J o q j → i < j)

-- The list is the completion queue of the object: the States whose completion waits, in the order in which they became
-- complete (UML 2.5.1 14.2.3.8, completion events; the order is this profile's choice).
pub record IsQueueOf (m : DraftMachine) (J : List Entry) (o : ObjectId) (queue : List VertexId) : Type 0 where
  pub waiting : (s : VertexId) → Contains queue s → (i : ℕ) × WaitsSince m J o s i
  pub listed : (s : VertexId) (i : ℕ) → IsQueuedAt m J o s i → Contains queue s
  pub order : AllPairs (WaitsBefore m J o) queue

-- a completion queue as it is kept: its States in their order, and how many of them there is room for
-- (UML 2.5.1 14.2.3.8, completion events; the room is this profile's choice)
pub record CompletionQueue : Type 0 where
  pub states : List VertexId
  pub room : ℕ
