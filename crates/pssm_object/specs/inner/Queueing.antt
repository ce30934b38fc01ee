-- What an entry does to the completion queue, by the configurations before and after it.
use Rattle.std.specs.Prelude.{Bool, false, IsTrue, slice_index_or, ◌≡◌, ◌≢◌, ◌⊎◌, ◌↔◌, ◌==◌, ◌++◌, ◌<◌, ◌≤◌, List, [], ◌∷◌, length, not, filter, Option, Some, None, All, AllPairs, Contains}
use Rattle.std.specs.Option.{option_map}
use Rattle.pssm_model.specs.declared.ids.VertexId.{VertexId}
use Rattle.pssm_model.specs.declared.elements.DraftMachine.{DraftMachine}
use Rattle.pssm_model.specs.declared.elements.VertexKind.{VertexKind}
use Rattle.pssm_model.specs.declared.elements.VertexKind.TheVariants as kinds
use Rattle.pssm_model.specs.declared.elements.Owner.{Owner}
use Rattle.pssm_model.specs.declared.elements.Owner.TheVariants.{Region, State}
use Rattle.pssm_model.specs.declared.steps.How.{How}
use Rattle.pssm_model.specs.declared.steps.How.TheVariants.{Nothing}
use Rattle.pssm_model.specs.declared.steps.Item.{Item}
use Rattle.pssm_model.specs.declared.steps.Item.TheVariants as items
use Rattle.pssm_model.specs.Forest.{vertex_at, owner_of}
use Rattle.pssm_model.specs.Configuration.{Configuration, IsComplete}
use Rattle.pssm_semantics.specs.Completion.{HasCompletionTransition}
use Rattle.pssm_object.specs.Queue.{CompletionQueue}

-- The queue fits the machine: what is in it are vertices of the machine, each once, and there is room for all of these.
pub record QueueFits (m : DraftMachine) (queue : CompletionQueue) : Type 0 where
  pub within : All (λ s. s.0 < length m.vertices) queue.states
  pub once : AllPairs (λ s q. s ≢ q) queue.states
  pub room : length m.vertices ≤ queue.room

-- The marks are those of the States in the list, each of which is there once.
pub record AreMarked (states : List VertexId) (marks : List Bool) : Type 0 where
  pub marked : (s : VertexId) → IsTrue (slice_index_or marks s.0 false) ↔ Contains states s
  pub once : AllPairs (λ s q. s ≢ q) states

-- the State that is the owner
abbrev pub state_of : Option Owner → Option VertexId
state_of (Some (State s)) = Some s
state_of _ = None

-- the State that owns the region that is the owner
abbrev pub owner_above : DraftMachine → Option Owner → Option VertexId
owner_above m (Some (Region r)) = state_of (owner_of m (Region r))
owner_above m _ = None

-- the State that may become complete where a vertex of this kind is entered: by a final state the one that owns its region,
-- and otherwise the vertex itself
abbrev pub completing_by_kind : DraftMachine → VertexId → Option VertexKind → Option VertexId
completing_by_kind m s (Some kinds.Final) = owner_above m (owner_of m (State s))
completing_by_kind m s _ = Some s

-- the one State that an item may make complete
abbrev pub completing : DraftMachine → Item → How → Option VertexId
completing m (items.Enter s) how = completing_by_kind m s (option_map (λ x. x.kind) (vertex_at m s))
completing m (items.Opened r mode) Nothing = state_of (owner_of m (Region r))
completing m _ how = None

-- the State that an item takes out of the queue: one that is exited, or entered anew
abbrev pub leaving : Item → Option VertexId
leaving (items.Exit s) = Some s
leaving (items.Enter s) = Some s
leaving _ = None

-- the list without the State
abbrev pub without : Option VertexId → List VertexId → List VertexId
without None queue = queue
without (Some s) queue = filter (λ v. not (v.0 == s.0)) queue

-- The State was not complete before, or it is the one that is taken out: if it is complete after that it becomes so.
abbrev pub CanComplete : DraftMachine → Configuration → Option VertexId → VertexId → Type 0
CanComplete m was leaves s = (IsComplete m was s → ⊥) ⊎ (leaves ≡ Some s)

-- The one State that may become complete, if it does so where it is complete after.
abbrev pub IsDue : DraftMachine → Configuration → Option VertexId → Option VertexId → Option VertexId → Type 0
IsDue m was leaves completes due =
    (s : VertexId) → (due ≡ Some s) ↔ ((completes ≡ Some s) × CanComplete m was leaves s)

-- The State comes to wait: it becomes complete, and a transition without triggers leaves it.
pub record ComesToWait (m : DraftMachine) (was now : Configuration) (leaves completes : Option VertexId) (s : VertexId)
    : Type 0 where
  pub may : completes ≡ Some s
  pub becomes : CanComplete m was leaves s
  pub complete : IsComplete m now s
  pub transition : HasCompletionTransition m s

-- The one State is taken out, and the other is put at the end where it comes to wait and is not in the list.
abbrev pub QueueGoesOn : DraftMachine → Configuration → Configuration → Option VertexId → Option VertexId
    → List VertexId → List VertexId → Type 0
QueueGoesOn m was now leaves completes old new =
    ((s : VertexId) × ComesToWait m was now leaves completes s × (Contains (without leaves old) s → ⊥)
    × (new ≡ without leaves old ++ s ∷ []))
    ⊎ (((s : VertexId) → ComesToWait m was now leaves completes s → Contains (without leaves old) s)
    × (new ≡ without leaves old))

-- The State is put at the end if it is complete there, a transition without triggers leaves it, and it is not in the list.
abbrev pub Joins : DraftMachine → Configuration → VertexId → List VertexId → List VertexId → Type 0
Joins m now s old new =
    ((IsComplete m now s × HasCompletionTransition m s × (Contains old s → ⊥)) × (new ≡ old ++ s ∷ []))
    ⊎ ((IsComplete m now s → HasCompletionTransition m s → Contains old s) × (new ≡ old))

-- The vertex that the item enters and the region that it opens are there.
abbrev pub ItemIsThere : DraftMachine → Item → Type 0
ItemIsThere m (items.Enter s) = s.0 < length m.vertices
ItemIsThere m (items.Opened r mode) = r.0 < length m.regions
ItemIsThere m _ = Unit {0}
