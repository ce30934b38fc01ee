-- Whether an event starts one transition, alone or together with others.
use Rattle.std.specs.Prelude.{◌≡◌, ◌≢◌, ◌⊎◌}
use Rattle.pssm_model.specs.declared.ids.VertexId.{VertexId}
use Rattle.pssm_model.specs.declared.ids.TransId.{TransId}
use Rattle.pssm_model.specs.declared.elements.DraftMachine.{DraftMachine}
use Rattle.pssm_model.specs.declared.elements.VertexKind.TheVariants as kinds
use Rattle.pssm_model.specs.declared.steps.Event.{Event}
use Rattle.pssm_model.specs.Forest.{HasKind}
use Rattle.pssm_model.specs.Configuration.{Configuration, IsComplete}
use Rattle.pssm_model.specs.Legs.{Leaves}
use Rattle.pssm_model.specs.Routes.{HasNoTrigger}
use Rattle.pssm_enabled.specs.Starts.{IsCausedBy}

-- The event starts the transition: it leaves an active State and is caused by the event.
pub record IsStarted (m : DraftMachine) (now : Configuration) (event : Event) (t : TransId) (s : VertexId) : Type 0 where
  pub leaves : Leaves m t s
  pub state : HasKind m s kinds.State
  pub active : now.Active s
  pub caused : IsCausedBy m event t s

-- an active State that is this one or complete
abbrev pub IsReady : DraftMachine → Configuration → VertexId → VertexId → Type 0
IsReady m now s q = HasKind m q kinds.State × now.Active q × ((q ≡ s) ⊎ IsComplete m now q)

-- The transition leaves an active State and has no trigger, and that State is this one or complete.
pub record JoinsIn (m : DraftMachine) (now : Configuration) (s : VertexId) (t : TransId) : Type 0 where
  pub state : (q : VertexId) → Leaves m t q → HasKind m q kinds.State
  pub active : (q : VertexId) → Leaves m t q → now.Active q
  pub untriggered : HasNoTrigger m t
  pub complete : (q : VertexId) → Leaves m t q → q ≢ s → IsComplete m now q
