-- Which transitions an event starts, and the starts of a route.
use Rattle.std.specs.Prelude.{◌≡◌, ◌≢◌, ◌⊎◌, ◌↔◌, List, [], ◌∷◌, Contains}
use Rattle.pssm_model.specs.declared.ids.VertexId.{VertexId}
use Rattle.pssm_model.specs.declared.ids.TransId.{TransId}
use Rattle.pssm_model.specs.declared.elements.DraftMachine.{DraftMachine}
use Rattle.pssm_model.specs.declared.elements.VertexKind.TheVariants as kinds
use Rattle.pssm_model.specs.declared.steps.Event.{Event}
use Rattle.pssm_model.specs.declared.steps.Event.TheVariants.{Signal, Completion}
use Rattle.pssm_model.specs.Forest.{HasKind}
use Rattle.pssm_model.specs.Configuration.{Configuration, IsComplete}
use Rattle.pssm_model.specs.Legs.{Leaves, Enters}
use Rattle.pssm_model.specs.Routes.{Lists, HasNoTrigger, IsAscending}

-- The signal triggers the transition, or it is the completion of the transition's source, which has no trigger
-- (UML 2.5.1 14.2.3.8, triggers and completion transitions).
abbrev pub IsCausedBy : DraftMachine → Event → TransId → VertexId → Type 0
IsCausedBy m (Signal signal) t s = Lists m t signal
IsCausedBy m (Completion q) t s = (q ≡ s) × HasNoTrigger m t

-- One of the transitions leaves the vertex (UML 2.5.1 14.2.3.8, transitions).
abbrev pub IsLeftBy : DraftMachine → List TransId → VertexId → Type 0
IsLeftBy m starts s = (t : TransId) × Contains starts t × Leaves m t s

-- The signal triggers the one transition, or it is the completion of one of the sources of transitions without triggers whose other sources are
-- complete (UML 2.5.1 14.2.3.9, enabled transitions; 14.2.3.8, completion transitions).
abbrev pub AreCausedBy : DraftMachine → Configuration → Event → List TransId → Type 0
AreCausedBy m now (Signal signal) starts = (t : TransId) × (starts ≡ t ∷ []) × Lists m t signal
AreCausedBy m now (Completion s) starts =
    IsLeftBy m starts s
    × ((t : TransId) → Contains starts t → HasNoTrigger m t)
    × ((q : VertexId) → IsLeftBy m starts q → q ≢ s → IsComplete m now q)

-- The event starts the transitions together: they leave active States and are caused by it (UML 2.5.1 14.2.3.9, enabled transitions).
pub record AreStarted (m : DraftMachine) (now : Configuration) (event : Event) (starts : List TransId) : Type 0 where
  pub states : (s : VertexId) → IsLeftBy m starts s → HasKind m s kinds.State
  pub active : (s : VertexId) → IsLeftBy m starts s → now.Active s
  pub caused : AreCausedBy m now event starts

-- the starts of a route among which is the transition: it alone, where it ends on no join, and else all transitions into its join
-- (UML 2.5.1 14.2.3.7, join; their order is this profile's own choice)
abbrev pub AreStartsWith : DraftMachine → TransId → List TransId → Type 0
AreStartsWith m t starts =
    ((starts ≡ t ∷ []) × ((v : VertexId) → Enters m t v → HasKind m v kinds.Join → ⊥))
    ⊎ ((v : VertexId) × Enters m t v × HasKind m v kinds.Join × ((u : TransId) → Contains starts u ↔ Enters m u v) × IsAscending starts)
