-- A configuration: what is active, what regions remember, and which of its regions are finished and States complete.
use Rattle.std.specs.Prelude.{◌≡◌, ◌⊎◌, ◌<◌, ℕ, length, Some}
use Rattle.std.specs.Option.{option_map_or}
use Rattle.pssm_model.specs.declared.ids.VertexId.{VertexId}
use Rattle.pssm_model.specs.declared.ids.RegionId.{RegionId}
use Rattle.pssm_model.specs.declared.elements.DraftMachine.{DraftMachine}
use Rattle.pssm_model.specs.declared.elements.VertexKind.TheVariants as kinds
use Rattle.pssm_model.specs.declared.elements.Owner.TheVariants.{Top, Region, State}
use Rattle.pssm_model.specs.Forest.{vertex_at, HasKind, IsStateOrFinal, owner_of}

-- what is known of a running machine between two things that happen: the States and final states that are active, the direct vertex that each region
-- remembers, the do steps that a State has done since it was entered, and the regions that were left empty when they were last opened and in which nothing
-- was entered or exited since, nor their State entered (UML 2.5.1 14.2.3.4, State configurations; what it has beside the active States is this profile's choice)
pub record Configuration : Type 1 where
  pub Active : VertexId → Type 0
  pub Remembers : RegionId → VertexId → Type 0
  pub HasDoneStep : VertexId → ℕ → Type 0
  pub LeftEmpty : RegionId → Type 0

-- a State or final state that the region owns (UML 2.5.1 14.2.3.4, direct substates of a region)
abbrev pub IsDirect : DraftMachine → VertexId → RegionId → Type 0
IsDirect m s r = (owner_of m (State s) ≡ Some (Region r)) × IsStateOrFinal m s

-- A final state that the region owns is active (UML 2.5.1 14.2.3.6, final states).
abbrev pub HasActiveFinal : DraftMachine → Configuration → RegionId → Type 0
HasActiveFinal m now r = (s : VertexId) × (owner_of m (State s) ≡ Some (Region r)) × HasKind m s kinds.Final × now.Active s

-- The region is finished: a final state of it is active, or it was left empty (UML 2.5.1 14.2.3.6, final states; 14.2.3.8, completion;
-- that an empty region is finished is this profile's choice).
abbrev pub IsFinished : DraftMachine → Configuration → RegionId → Type 0
IsFinished m now r = HasActiveFinal m now r ⊎ now.LeftEmpty r

-- Every top region has an active final state of its own (UML 2.5.1 14.2.3.6, final states).
abbrev pub AllTopsAreFinal : DraftMachine → Configuration → Type 0
AllTopsAreFinal m now = (r : RegionId) → owner_of m (Region r) ≡ Some Top → HasActiveFinal m now r

-- how many do steps the vertex has (UML 2.5.1 14.2.3.4, doActivity)
abbrev pub do_steps_of : DraftMachine → VertexId → ℕ
do_steps_of m s = option_map_or (λ x. length x.steps) (vertex_at m s) 0

-- an active State whose do steps are done and whose regions are finished (UML 2.5.1 14.2.3.8, completion)
pub record IsComplete (m : DraftMachine) (now : Configuration) (s : VertexId) : Type 0 where
  pub state : HasKind m s kinds.State
  pub active : now.Active s
  pub stepped : (k : ℕ) → k < do_steps_of m s → now.HasDoneStep s k
  pub finished : (r : RegionId) → owner_of m (Region r) ≡ Some (State s) → IsFinished m now r

-- the next do step of an active State: those before it are done since its last entry, and it is not (UML 2.5.1 14.2.3.4, doActivity)
pub record IsNextDoStep (m : DraftMachine) (now : Configuration) (s : VertexId) (k : ℕ) : Type 0 where
  pub active : now.Active s
  pub in_range : k < do_steps_of m s
  pub earlier : (j : ℕ) → j < k → now.HasDoneStep s j
  pub waiting : now.HasDoneStep s k → ⊥
