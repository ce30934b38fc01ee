-- Which items of a step are ready, by which ways they may go, and which stand at or before another; and how a step goes on.
use Rattle.std.specs.Prelude.{◌+◌, ◌*◌, length, List, [], ◌∷◌, ◌++◌, Bool, IsTrue, ℕ}
use Rattle.pssm_model.specs.declared.ids.VertexId.{VertexId}
use Rattle.pssm_model.specs.declared.ids.RegionId.{RegionId}
use Rattle.pssm_model.specs.declared.elements.DraftMachine.{DraftMachine}
use Rattle.pssm_model.specs.declared.steps.Route.{Route}
use Rattle.pssm_model.specs.declared.steps.How.{How}
use Rattle.pssm_model.specs.declared.steps.Item.{Item}
use Rattle.pssm_model.specs.Configuration.{Configuration}
use Rattle.pssm_model.specs.Routes.{Truth, IsStateRoute}
use Rattle.pssm_model.specs.Course.{Head, Course, FiresBy, RemembersSoFar}
use Rattle.pssm_model.specs.Items.{Called, Before, IsWaiting, IsCleared}
use Rattle.pssm_model.specs.Ways.{IsWay}

-- a waiting item that is cleared (UML 2.5.1 14.2.3.9, transition execution sequence)
pub record IsReady (m : DraftMachine) (course : Course) (item : Item) : Type 0 where
  pub waiting : IsWaiting m course item
  pub cleared : IsCleared m course item

-- This is one of its ways, with the memory that the step shows (UML 2.5.1 14.2.3.4, State history).
abbrev pub IsWayNow : DraftMachine → Truth → Course → Item → How → Type 0
IsWayNow m truth course item how = IsWay m truth (RemembersSoFar m course) item how

-- The first item is the second, or called items, each of which comes before the next, lead from it to the second
-- (UML 2.5.1 14.2.3.9, transition execution sequence).
pub data IsAtOrBefore (m : DraftMachine) (course : Course) : Item → Item → Type 0 where
  at : {x : Item} → IsAtOrBefore m course x x
  before : {x y z : Item} → Called m course x → Before m course x y → IsAtOrBefore m course y z → IsAtOrBefore m course x z

-- A ready item stands at or before the item (UML 2.5.1 14.2.3.9, transition execution sequence).
abbrev pub HasReadyAtOrBefore : DraftMachine → Course → Item → Type 0
HasReadyAtOrBefore m course item = (x : Item) × IsReady m course x × IsAtOrBefore m course x item

-- the step with this head, configuration at its head, and items that have run
abbrev pub course_by : Head → Configuration → List (Item × How) → Course
course_by head now ran = record { head = head; at_head = now; ran = ran }

-- The step has come so far: the machine has started, or state routes have fired, and then ready items have run, each by one of its ways
-- (UML 2.5.1 14.2.3.9, run to completion; this profile's choice of items).
pub data HasGone (m : DraftMachine) (head : Head) (now : Configuration) : List (Item × How) → Type 0 where
  begun : ((route : Route) → FiresBy head route → IsStateRoute m route) → HasGone m head now []
  more : {ran : List (Item × How)} (item : Item) (how : How) → HasGone m head now ran → IsReady m (course_by head now ran) item
      → (truth : Truth) → IsWayNow m truth (course_by head now ran) item how → HasGone m head now (ran ++ (item, how) ∷ [])

-- a configuration of which it is known what holds in it and what does not, so that a ready item can be found, and not only not be missing
pub record KnownConfiguration : Type 0 where
  pub is_active : VertexId → Bool
  pub remembers : RegionId → VertexId → Bool
  pub has_done_step : VertexId → ℕ → Bool
  pub left_empty : RegionId → Bool

-- the configuration of which this is known (UML 2.5.1 14.2.3.4, State configurations)
abbrev pub configuration_by : KnownConfiguration → Configuration
configuration_by known = record {
  Active = λ s. IsTrue (known.is_active s);
  Remembers = λ r s. IsTrue (known.remembers r s);
  HasDoneStep = λ s k. IsTrue (known.has_done_step s k);
  LeftEmpty = λ r. IsTrue (known.left_empty r);
}

-- the step with this head, such a configuration at its head, and items that have run
abbrev pub known_course : Head → KnownConfiguration → List (Item × How) → Course
known_course head known ran = course_by head (configuration_by known) ran

-- how many further entries an open step of the machine can need: an exit and an entry for each vertex (a choice has one pick and neither, and
-- a history one opening), an opening for each region, an effect for each transition (this profile's choice)
abbrev pub entries_at_most : DraftMachine → ℕ
entries_at_most m = 2 * length m.vertices + length m.regions + length m.transitions
