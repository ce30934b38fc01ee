-- Which items the parts of a step call, as a plan lists them.
use Rattle.std.specs.Prelude.{◌≡◌, ◌⊎◌, List, Some, Contains}
use Rattle.pssm_model.specs.declared.ids.VertexId.{VertexId}
use Rattle.pssm_model.specs.declared.ids.RegionId.{RegionId}
use Rattle.pssm_model.specs.declared.ids.TransId.{TransId}
use Rattle.pssm_model.specs.declared.elements.DraftMachine.{DraftMachine}
use Rattle.pssm_model.specs.declared.elements.Owner.TheVariants.{Top, Region, State}
use Rattle.pssm_model.specs.declared.steps.Mode.{Mode}
use Rattle.pssm_model.specs.declared.steps.Mode.TheVariants.{Plain}
use Rattle.pssm_model.specs.declared.steps.Item.{Item}
use Rattle.pssm_model.specs.declared.steps.Item.TheVariants.{Exit, Effect, Enter, Opened, Pick}
use Rattle.pssm_model.specs.Configuration.{Configuration}
use Rattle.pssm_model.specs.Forest.{owner_of}
use Rattle.pssm_model.specs.Items.{restored_mode}
use Rattle.pssm_legs.specs.declared.legs.Leg.{Leg}
use Rattle.pssm_plan.specs.declared.ways.Way.{Way}
use Rattle.pssm_plan.specs.declared.roster.Call.{Call}
use Rattle.pssm_plan.specs.declared.progress.Restored.{Restored}
use Rattle.pssm_plan.specs.inner.ByWays.{calls_by, opens_by}
use Rattle.pssm_plan.specs.inner.Marks.{IsMarked}
use Rattle.pssm_plan.specs.inner.Sequence.{IsOpenedBySome}

-- the opening of a top region
abbrev pub IsTopOpening : DraftMachine → Item → Type 0
IsTopOpening m x = (r : RegionId) × (x ≡ Opened r Plain) × (owner_of m (Region r) ≡ Some Top)

-- the exit of an active vertex that the way calls
abbrev pub IsExitBy : DraftMachine → Configuration → Way → Item → Type 0
IsExitBy m now way x = (s : VertexId) × (x ≡ Exit s) × now.Active s × calls_by m way x

-- an effect that the way calls
abbrev pub IsEffectBy : DraftMachine → Way → Item → Type 0
IsEffectBy m way x = (t : TransId) × (x ≡ Effect t) × calls_by m way x

-- the effect of one of the transitions
abbrev pub IsEffectAmong : List TransId → Item → Type 0
IsEffectAmong ts x = (t : TransId) × Contains ts t × (x ≡ Effect t)

-- the effect of a transition of the leg
abbrev pub IsEffectOf : Leg → Item → Type 0
IsEffectOf leg x = (x ≡ Effect leg.named) ⊎ IsEffectAmong leg.further.items x

-- the effect of a transition of one of the legs
abbrev pub IsEffectOfSome : List Leg → Item → Type 0
IsEffectOfSome legs x = (leg : Leg) × Contains legs leg × IsEffectOf leg x

-- an entry that it calls
abbrev pub IsEntryBy : DraftMachine → Way → Item → Type 0
IsEntryBy m way x = (s : VertexId) × (x ≡ Enter s) × calls_by m way x

-- an opening in this mode that it calls
abbrev pub IsOpeningBy : DraftMachine → Way → Mode → Item → Type 0
IsOpeningBy m way mode x = (r : RegionId) × (x ≡ Opened r mode) × calls_by m way x

-- a pick that it calls
abbrev pub IsPickBy : DraftMachine → Way → Item → Type 0
IsPickBy m way x = (c : VertexId) × (x ≡ Pick c) × calls_by m way x

-- the pick of the vertex on which the leg ends, where the way calls it
abbrev pub IsPickAt : DraftMachine → Way → Leg → Item → Type 0
IsPickAt m way leg x = (x ≡ Pick leg.last) × calls_by m way (Pick leg.last)

-- one of these of some of the legs
abbrev pub IsPickAtSome : DraftMachine → Way → List Leg → Item → Type 0
IsPickAtSome m way legs x = (leg : Leg) × Contains legs leg × IsPickAt m way leg x

-- an item other than an exit
abbrev pub IsNoExit : Item → Type 0
IsNoExit (Exit s) = ⊥
IsNoExit _ = Unit {0}

-- an item other than an exit that it calls
abbrev pub IsOtherBy : DraftMachine → Way → Item → Type 0
IsOtherBy m way x = IsNoExit x × calls_by m way x

-- What it exits is active.
abbrev pub MayRun : Configuration → Item → Type 0
MayRun now (Exit s) = now.Active s
MayRun now _ = Unit {0}

-- an item of one of the ways, of which exits are of what is active
abbrev pub IsOfWays : DraftMachine → Configuration → List Way → Item → Type 0
IsOfWays m now ways x = (way : Way) × Contains ways way × MayRun now x × calls_by m way x

-- the opening of a region of a State whose entry has run, since the way enters it and does not aim at the region
abbrev pub IsReopened : DraftMachine → List Call → Way → Item → Type 0
IsReopened m calls way x =
    (s : VertexId) × (r : RegionId) × (x ≡ Opened r Plain) × (owner_of m (Region r) ≡ Some (State s)) × IsMarked calls (Enter s) × opens_by m way s r

-- what a late way calls
abbrev pub IsLate : DraftMachine → List Call → Way → Item → Type 0
IsLate m calls way x = IsOtherBy m way x ⊎ IsReopened m calls way x

-- the opening of a region of the State in this mode
abbrev pub IsOpeningOf : DraftMachine → VertexId → Mode → Item → Type 0
IsOpeningOf m s mode x = (r : RegionId) × (x ≡ Opened r mode) × (owner_of m (Region r) ≡ Some (State s))

-- what a State calls that is restored: its entry, and where that has run, the openings of its regions
abbrev pub IsOfRestored : DraftMachine → List Call → Mode → VertexId → Item → Type 0
IsOfRestored m calls mode s x = (x ≡ Enter s) ⊎ (IsMarked calls (Enter s) × IsOpeningOf m s (restored_mode mode) x)

-- the opening of a region of the State by one of the ways
abbrev pub IsDefaultOf : DraftMachine → List Way → VertexId → Item → Type 0
IsDefaultOf m ways s x = (r : RegionId) × (x ≡ Opened r Plain) × (owner_of m (Region r) ≡ Some (State s)) × IsOpenedBySome m ways s r

-- the opening of a region of the State since the State was restored
abbrev pub IsRestoredOf : DraftMachine → List Restored → VertexId → Item → Type 0
IsRestoredOf m restored s x = (mode : Mode) × Contains restored (record { mode = mode; state = s }) × IsOpeningOf m s (restored_mode mode) x

-- what the entry of the State opens
abbrev pub IsOpenedByEntry : DraftMachine → List Way → List Restored → VertexId → Item → Type 0
IsOpenedByEntry m ways restored s x = IsDefaultOf m ways s x ⊎ IsRestoredOf m restored s x

-- what an item calls once it has run, besides what it calls by its way
abbrev pub IsEntered : DraftMachine → List Way → List Restored → Item → Item → Type 0
IsEntered m ways restored (Enter s) x = IsOpenedByEntry m ways restored s x
IsEntered m ways restored _ x = ⊥
