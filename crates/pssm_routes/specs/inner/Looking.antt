-- What a look over a few junctions and exit points keeps, and what it tells.
use Rattle.std.specs.Prelude.{◌≡◌, ◌<◌, ◌≤◌, ℕ, List, ◌++◌, length, take, Option, Some, slice_get, Contains}
use Rattle.pssm_model.specs.declared.ids.VertexId.{VertexId}
use Rattle.pssm_model.specs.declared.ids.RegionId.{RegionId}
use Rattle.pssm_model.specs.declared.ids.TransId.{TransId}
use Rattle.pssm_model.specs.declared.elements.DraftMachine.{DraftMachine}
use Rattle.pssm_model.specs.Legs.{Leaves, Enters}
use Rattle.pssm_model.specs.Routes.{Truth}
use Rattle.pssm_routes.specs.declared.looking.Reached.{Reached}
use Rattle.pssm_routes.specs.declared.looking.Sight.{Sight}
use Rattle.pssm_routes.specs.declared.looking.Sight.TheVariants.{Out, On, Lost}
use Rattle.pssm_enabled.specs.Ways.{IsPassedOver, IsOpen, LeadsOut}

-- the vertices to which the look has come, in that order
abbrev pub come_to : Reached → List VertexId
come_to reached = take reached.count reached.found

-- There is room for what was reached, and it is of the machine.
pub record AreThere (m : DraftMachine) (reached : Reached) : Type 0 where
  pub room : reached.count ≤ 64
  pub there : (v : VertexId) → Contains (come_to reached) v → v.0 < length m.vertices

-- The look has come to the vertex as well.
pub record HasCome (old new : Reached) (v : VertexId) : Type 0 where
  pub more : List VertexId
  pub kept : come_to new ≡ come_to old ++ more
  pub here : Contains (come_to new) v
  pub only : (w : VertexId) → Contains more w → w ≡ v

-- Where the transition is open, it ends on a junction or exit point to which the look has come.
abbrev pub IsLookedAt : DraftMachine → Truth → Option RegionId → Reached → TransId → Type 0
IsLookedAt m truth within reached u = (w : VertexId) → IsOpen m truth within u → Enters m u w → IsPassedOver m w × Contains (come_to reached) w

-- The look has come on over the transition, if it is open.
pub record HasLooked (m : DraftMachine) (truth : Truth) (within : Option RegionId) (t : TransId) (old new : Reached) : Type 0 where
  pub more : List VertexId
  pub kept : come_to new ≡ come_to old ++ more
  pub at : IsLookedAt m truth within new t
  pub only : (w : VertexId) → Contains more w → IsOpen m truth within t × Enters m t w × IsPassedOver m w

-- what a look at one transition tells
abbrev pub IsSight : DraftMachine → Truth → Option RegionId → TransId → Reached → Reached → Sight → Type 0
IsSight m truth within t old new Out = LeadsOut m truth within t
IsSight m truth within t old new On = HasLooked m truth within t old new
IsSight m truth within t old new Lost = Unit {0}

-- A way that leads out from one of the vertices leads out from the start; the start was looked at, and all transitions out of the vertices before
-- the place.
pub record IsLooking (m : DraftMachine) (truth : Truth) (within : Option RegionId) (start : TransId) (reached : Reached) (place : ℕ) : Type 0 where
  pub back : (v : VertexId) (u : TransId) → Contains (come_to reached) v → Leaves m u v → LeadsOut m truth within u → LeadsOut m truth within start
  pub begun : IsLookedAt m truth within reached start
  pub gone : (k : ℕ) (v : VertexId) (u : TransId) → k < place → slice_get (come_to reached) k ≡ Some v → Leaves m u v → IsLookedAt m truth within reached u

-- what a look on from one vertex tells, where it began with the start
abbrev pub LooksOn : DraftMachine → Truth → Option RegionId → TransId → Reached → ℕ → Sight → Type 0
LooksOn m truth within start new place Out = LeadsOut m truth within start
LooksOn m truth within start new place On = IsLooking m truth within start new place
LooksOn m truth within start new place Lost = Unit {0}

-- While the look goes on from the vertex with this place, it has looked at the transitions before the index.
pub record IsLookingOn (m : DraftMachine) (truth : Truth) (within : Option RegionId) (start : TransId) (v : VertexId) (place : ℕ) (items : List TransId)
    (reached : Reached) (index : ℕ) : Type 0 where
  pub looking : IsLooking m truth within start reached place
  pub here : slice_get (come_to reached) place ≡ Some v
  pub at : (k : ℕ) (u : TransId) → k < index → slice_get items k ≡ Some u → IsLookedAt m truth within reached u
