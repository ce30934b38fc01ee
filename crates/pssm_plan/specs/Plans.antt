-- When a plan is that of a step of a machine.
use Rattle.std.specs.Prelude.{◌≡◌, ◌≢◌, ◌↔◌, ◌<◌, ℕ, List, IsTrue, Contains, AllPairs, length, slice_index_or}
use Rattle.pssm_model.specs.declared.elements.DraftMachine.{DraftMachine}
use Rattle.pssm_model.specs.declared.steps.Item.{Item}
use Rattle.pssm_model.specs.Course.{HasRun}
use Rattle.pssm_model.specs.Items.{Called, Before}
use Rattle.pssm_model.specs.Order.{HasGone}
use Rattle.pssm_config.specs.Tables.{configuration_of}
use Rattle.pssm_plan.specs.declared.roster.Call.{Call}
use Rattle.pssm_plan.specs.Agenda.{Agenda, course_of}
use Rattle.pssm_plan.specs.Waiting.{IsExact}
use Rattle.pssm_plan.specs.Ways.{AreWaysOf}

-- The item is one of a call.
abbrev pub IsOfCall : List Call → Item → Type 0
IsOfCall calls item = (call : Call) × Contains calls call × (call.item ≡ item)

-- The item is one of a call that has run.
abbrev pub IsOfRunCall : List Call → Item → Type 0
IsOfRunCall calls item = (call : Call) × Contains calls call × (call.item ≡ item) × IsTrue call.ran

-- The plan is that of its step in the machine: its calls are exactly the called items, each once, marked as run exactly where they have run and as
-- blocked exactly where a called one that comes before has not, and each says which is the nearest that it waits for; and its ways are those of the routes
-- by which the step goes (UML 2.5.1 14.2.3.9, transition execution sequence).
pub record IsPlanOf (m : DraftMachine) (plan : Agenda) : Type 0 where
  pub step : HasGone m plan.head (configuration_of plan.at_head) plan.ran
  pub called : (item : Item) → IsOfCall plan.calls item ↔ Called m (course_of plan) item
  pub once : AllPairs (λ a b. a.item ≢ b.item) plan.calls
  pub ran : (item : Item) → IsOfRunCall plan.calls item ↔ HasRun (course_of plan) item
  pub blocked : (call : Call) → Contains plan.calls call → IsTrue call.blocked
      ↔ ((on : Item) × Called m (course_of plan) on × Before m (course_of plan) on call.item × (HasRun (course_of plan) on → ⊥))
  pub exact : (k : ℕ) (d : Call) → k < length plan.calls → IsExact (Before m (course_of plan)) plan.calls k (slice_index_or plan.calls k d)
  pub ways : AreWaysOf m (course_of plan) plan.ways plan.restored
