-- Ways of one leg that ends on a vertex of the region in which it exits and enters.
use Rattle.std.specs.Prelude.{◌≡◌, ◌⊎◌, List, [], Some, IsTrue, Contains}
use Rattle.pssm_model.specs.declared.ids.VertexId.{VertexId}
use Rattle.pssm_model.specs.declared.ids.RegionId.{RegionId}
use Rattle.pssm_model.specs.declared.elements.DraftMachine.{DraftMachine}
use Rattle.pssm_model.specs.declared.elements.Owner.TheVariants.{Region, State}
use Rattle.pssm_model.specs.declared.steps.Item.{Item}
use Rattle.pssm_model.specs.declared.steps.Item.TheVariants.{Exit, Effect, Enter, Opened, Pick}
use Rattle.pssm_model.specs.declared.steps.Mode.TheVariants.{Plain, Shallow, Deep}
use Rattle.pssm_model.specs.Forest.{owner_of}
use Rattle.pssm_legs.specs.declared.areas.Area.TheVariants.{Within}
use Rattle.pssm_plan.specs.declared.roster.Call.{Call}
use Rattle.pssm_plan.specs.declared.ways.Way.{Way}
use Rattle.pssm_plan.specs.inner.Calling.{IsReopened}

-- The way has one leg, which exits and enters in the region and ends on a vertex that the region owns.
pub record IsDirect (m : DraftMachine) (way : Way) (r : RegionId) : Type 0 where
  pub alone : way.legs.more.items ≡ []
  pub in_order : IsTrue way.legs.first.in_order
  pub area : way.legs.first.area ≡ Within r
  pub owner : owner_of m (State way.legs.first.last) ≡ Some (Region r)

-- What such a way calls: exits where it fires, effects of its transitions, and of what it ends on the entry, the openings of a history and the pick.
abbrev pub MayCallDirectly : Way → RegionId → Item → Type 0
MayCallDirectly way r (Exit s) = IsTrue way.fires
MayCallDirectly way r (Effect t) = (way.legs.first.named ≡ t) ⊎ Contains way.legs.first.further.items t
MayCallDirectly way r (Enter s) = s ≡ way.legs.first.last
MayCallDirectly way r (Opened q Plain) = ⊥
MayCallDirectly way r (Opened q Shallow) = q ≡ r
MayCallDirectly way r (Opened q Deep) = q ≡ r
MayCallDirectly way r (Pick c) = c ≡ way.legs.first.last

-- the opening of a region of the State that opens once more
abbrev pub IsReopenedIn : DraftMachine → List Call → Way → VertexId → Item → Type 0
IsReopenedIn m calls way s x =
    (r : RegionId) × (owner_of m (Region r) ≡ Some (State s)) × (x ≡ Opened r Plain) × IsReopened m calls way (Opened r Plain)

-- No State that the region owns has a region.
abbrev pub HasNoneInside : DraftMachine → RegionId → Type 0
HasNoneInside m r = (q : RegionId) (w : VertexId) → owner_of m (Region q) ≡ Some (State w) → owner_of m (State w) ≡ Some (Region r) → ⊥
