-- By which ways a region opens, and a choice is left.
use Rattle.std.specs.Prelude.{◌≡◌, ◌⊎◌, Some}
use Rattle.pssm_model.specs.declared.ids.VertexId.{VertexId}
use Rattle.pssm_model.specs.declared.ids.RegionId.{RegionId}
use Rattle.pssm_model.specs.declared.elements.DraftMachine.{DraftMachine}
use Rattle.pssm_model.specs.declared.elements.VertexKind.{VertexKind}
use Rattle.pssm_model.specs.declared.elements.VertexKind.TheVariants as kinds
use Rattle.pssm_model.specs.declared.elements.Owner.TheVariants.{Region, State}
use Rattle.pssm_model.specs.declared.steps.Mode.{Mode}
use Rattle.pssm_model.specs.declared.steps.Mode.TheVariants.{Plain, Shallow, Deep}
use Rattle.pssm_model.specs.declared.steps.How.{How}
use Rattle.pssm_model.specs.declared.steps.How.TheVariants.{By, Restore, Nothing}
use Rattle.pssm_model.specs.declared.steps.Item.{Item}
use Rattle.pssm_model.specs.declared.steps.Item.TheVariants.{Opened, Pick}
use Rattle.pssm_model.specs.Forest.{HasKind, owner_of}
use Rattle.pssm_model.specs.Routes.{Truth}
use Rattle.pssm_model.specs.FiringSets.{IsLateRoute}
use Rattle.pssm_model.specs.Paths.{HasOut, IsInitialOf}

-- what each region remembers (UML 2.5.1 14.2.3.4, State history)
abbrev pub Memory : Type 1
Memory = RegionId → VertexId → Type 0

-- The region opens by the route of its initial vertex, or by none where it has none
-- (UML 2.5.1 14.2.3.2, default activation; without initial vertex this profile's choice).
abbrev pub OpensByDefault : DraftMachine → Truth → RegionId → How → Type 0
OpensByDefault m truth r (By route) = (v : VertexId) × IsInitialOf m r v × IsLateRoute m truth v route
OpensByDefault m truth r (Restore s) = ⊥
OpensByDefault m truth r Nothing = (v : VertexId) → IsInitialOf m r v → ⊥

-- The region remembers this State, which is no final state (UML 2.5.1 14.2.3.4, State history).
abbrev pub IsRemembered : DraftMachine → Memory → RegionId → VertexId → Type 0
IsRemembered m memory r s = memory r s × HasKind m s kinds.State

-- a history vertex of the region that has a transition (UML 2.5.1 14.2.3.7, shallowHistory and deepHistory)
abbrev pub IsHistoryOf : DraftMachine → RegionId → VertexKind → VertexId → Type 0
IsHistoryOf m r kind v = HasKind m v kind × (owner_of m (State v) ≡ Some (Region r)) × HasOut m v

-- The region opens by the default transition of its history vertex (UML 2.5.1 14.2.3.7, shallowHistory and deepHistory).
abbrev pub GoesByHistory : DraftMachine → Truth → RegionId → VertexKind → How → Type 0
GoesByHistory m truth r kind (By route) = (v : VertexId) × IsHistoryOf m r kind v × IsLateRoute m truth v route
GoesByHistory m truth r kind _ = ⊥

-- The region restores what it remembers; else it opens by its history vertex where this has a transition, and else by default
-- (UML 2.5.1 14.2.3.4, State history).
abbrev pub OpensByHistory : DraftMachine → Truth → Memory → RegionId → VertexKind → How → Type 0
OpensByHistory m truth memory r kind (Restore s) = IsRemembered m memory r s
OpensByHistory m truth memory r kind how =
    ((s : VertexId) → IsRemembered m memory r s → ⊥)
    × (GoesByHistory m truth r kind how ⊎ (((v : VertexId) → IsHistoryOf m r kind v → ⊥) × OpensByDefault m truth r how))

-- the ways of an opening in each mode (UML 2.5.1 14.2.3.2 and 14.2.3.4, default activation and State history)
abbrev pub CanOpen : DraftMachine → Truth → Memory → RegionId → Mode → How → Type 0
CanOpen m truth memory r Plain how = OpensByDefault m truth r how
CanOpen m truth memory r Shallow how = OpensByHistory m truth memory r kinds.ShallowHistory how
CanOpen m truth memory r Deep how = OpensByHistory m truth memory r kinds.DeepHistory how

-- This is one of the ways of the item under this memory: of an opening or a pick; another item has no way
-- (UML 2.5.1 14.2.3.2, 14.2.3.4 and 14.2.3.7).
abbrev pub IsWay : DraftMachine → Truth → Memory → Item → How → Type 0
IsWay m truth memory (Opened r mode) how = CanOpen m truth memory r mode how
IsWay m truth memory (Pick choice) (By route) = IsLateRoute m truth choice route
IsWay m truth memory (Pick choice) _ = ⊥
IsWay m truth memory _ how = how ≡ Nothing
