-- Which transition a late route starts with, as a word settles it.
use Rattle.std.specs.Prelude.{◌≡◌, ◌↔◌, ◌%◌, ℕ, List, Some, length, slice_get, Contains}
use Rattle.pssm_model.specs.declared.ids.VertexId.{VertexId}
use Rattle.pssm_model.specs.declared.ids.TransId.{TransId}
use Rattle.pssm_model.specs.declared.elements.DraftMachine.{DraftMachine}
use Rattle.pssm_model.specs.Legs.{Leaves}
use Rattle.pssm_model.specs.Routes.{Truth, IsTrueAt, IsAscending}

-- the transitions out of the vertex that are true, in ascending number
-- (UML 2.5.1 14.2.3.7, initial, history and choice; the order is this profile's choice)
pub record AreTrueFrom (m : DraftMachine) (truth : Truth) (origin : VertexId) (ts : List TransId) : Type 0 where
  pub members : (t : TransId) → Contains ts t ↔ (Leaves m t origin × IsTrueAt m truth t)
  pub ascending : IsAscending ts

-- the one of them whose place is what remains of the word (UML 2.5.1 14.2.3.7, choice; by which one is settled is this profile's choice)
abbrev pub IsSettledStart : DraftMachine → Truth → VertexId → ℕ → TransId → Type 0
IsSettledStart m truth origin word t =
    (ts : List TransId) × AreTrueFrom m truth origin ts × (slice_get ts (word % length ts) ≡ Some t)
