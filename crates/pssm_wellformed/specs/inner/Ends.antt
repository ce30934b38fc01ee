-- The ends of transitions, and parts of a machine by number.
use Rattle.std.specs.Prelude.{◌≡◌, ℕ, Some}
use Rattle.pssm_model.specs.declared.ids.VertexId.{VertexId}
use Rattle.pssm_model.specs.declared.ids.RegionId.{RegionId}
use Rattle.pssm_model.specs.declared.ids.TransId.{TransId}
use Rattle.pssm_model.specs.declared.elements.DraftMachine.{DraftMachine}
use Rattle.pssm_model.specs.declared.elements.Owner.TheVariants.{Region, State}
use Rattle.pssm_model.specs.Forest.{owner_of}
use Rattle.pssm_model.specs.Legs.{Leaves, Enters}
use Rattle.pssm_wellformed.specs.declared.ends.End.{End}
use Rattle.pssm_wellformed.specs.declared.ends.End.TheVariants.{Source, Target}

-- the vertex, region or transition of a number
abbrev pub vertex_number : ℕ → VertexId
vertex_number n = record { 0 = n }

abbrev pub region_number : ℕ → RegionId
region_number n = record { 0 = n }

abbrev pub transition_number : ℕ → TransId
transition_number n = record { 0 = n }

-- The vertex stands at this end of the transition.
abbrev pub HasEnd : DraftMachine → End → TransId → VertexId → Type 0
HasEnd m Source t v = Leaves m t v
HasEnd m Target t v = Enters m t v

-- by number, the regions of a State
abbrev pub HasRegion : DraftMachine → ℕ → ℕ → Type 0
HasRegion m s r = owner_of m (Region (region_number r)) ≡ Some (State (vertex_number s))
