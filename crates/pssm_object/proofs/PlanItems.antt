-- How an item stands in the plan that is kept.
use Rattle.std.proofs.Common.{◌≡◌, ◌⊎◌, Option, Some, IfSome, subst, ⊎_elim}
use Rattle.pssm_model.specs.declared.elements.DraftMachine.{DraftMachine}
use Rattle.pssm_model.specs.declared.steps.Mode.TheVariants.{Plain, Shallow, Deep}
use Rattle.pssm_model.specs.declared.steps.Item.{Item}
use Rattle.pssm_model.specs.declared.steps.Item.TheVariants as items
use Rattle.pssm_model.specs.Shapes.{HasShape}
use Rattle.pssm_model.specs.WellFormed.{KeepsModelRules}
use Rattle.pssm_model.specs.Course.{Course}
use Rattle.pssm_model.specs.Items.{Before, IsWaiting, IsCleared, HasRunOut}
use Rattle.pssm_model.specs.Order.{IsReady}
use Rattle.pssm_config.specs.Tables.{configuration_of}
use Rattle.pssm_plan.specs.declared.standing.Standing.{Standing}
use Rattle.pssm_plan.specs.declared.standing.Standing.TheVariants.{NotCalled, Ran}
use Rattle.pssm_plan.specs.Agenda.{Agenda, course_of}
use Rattle.pssm_plan.specs.Plans.{IsPlanOf}
use Rattle.pssm_plan.specs.Standings.{StandsAs}
use Rattle.pssm_plan.proofs.RouteItems.{called_is}
use Rattle.pssm_plan.proofs.RouteSteps.{gone_by_routes}
use Rattle.pssm_plan.proofs.StepLengths.{IsThere, called_there}
use Rattle.pssm_object.specs.inner.Situations.{IsAtRest}
use Rattle.pssm_object.specs.inner.Choosing.{IsItemThere}
use Rattle.pssm_object.specs.inner.Working.{HasPlace}

-- the plan that is kept is that of a step of the machine
pub plan_is : (m : DraftMachine) (plan : Option Agenda) (p : Agenda) → plan ≡ Some p → IfSome plan (IsPlanOf m) → IsPlanOf m p
plan_is m plan p e h = rw e at h

-- what is not called or has run does not wait
pub not_waiting : (m : DraftMachine) (course : Course) (item : Item) (standing : Standing)
    → (standing ≡ NotCalled) ⊎ (standing ≡ Ran) → StandsAs m course item standing → IsWaiting m course item → ⊥
not_waiting m course item standing is stands waits =
    ⊎_elim
    (λ e. (let not_called : StandsAs m course item NotCalled = subst (StandsAs m course item) e stands in not_called waits.called))
    (λ e. (let ran : StandsAs m course item Ran = subst (StandsAs m course item) e stands in waits.not_run ran.1))
    is

-- what waits for another is not cleared
pub not_cleared : (m : DraftMachine) (course : Course) (on item : Item) → IsWaiting m course on → Before m course on item
    → IsCleared m course item → ⊥
not_cleared m course on item waits before cleared = waits.not_run (cleared on waits.called before)

-- the object rests exactly where everything that its plan calls has run
pub rests_where : (m : DraftMachine) (plan : Option Agenda) (p : Agenda) → plan ≡ Some p → IsAtRest m plan → HasRunOut m (course_of p)
rests_where m plan p is rests =
    let same : rests.0 ≡ p = (let e = rests.1 in cc) in
    subst (λ (q : Agenda). HasRunOut m (course_of q)) same rests.2

-- a ready item is of the machine, and a ready pick is from a choice
item_there : (m : DraftMachine) (item : Item) → IsThere m item → IsItemThere m item
item_there m (items.Exit s) there = tt
item_there m (items.Effect t) there = tt
item_there m (items.Enter s) there = tt
item_there m (items.Opened r Plain) there = there
item_there m (items.Opened r Shallow) there = there
item_there m (items.Opened r Deep) there = there
item_there m (items.Pick c) there = there.1

place_there : (m : DraftMachine) (item : Item) → IsThere m item → HasPlace m item
place_there m (items.Exit s) there = there
place_there m (items.Effect t) there = there
place_there m (items.Enter s) there = there.0
place_there m (items.Opened r mode) there = tt
place_there m (items.Pick c) there = tt

module _ {m : DraftMachine} (shape : HasShape m) (rules : KeepsModelRules m) (p : Agenda) (item : Item) (plan : IsPlanOf m p)
    (ready : IsReady m (course_of p) item) where
  ready_is_there : IsThere m item
  ready_is_there =
      let now = configuration_of p.at_head in
      called_there shape rules p.head now p.ran plan.step item
      (called_is rules shape (course_of p) (gone_by_routes rules shape p.head now p.ran plan.step) item ready.waiting.called)

  pub ready_item_there : IsItemThere m item
  ready_item_there = item_there m item ready_is_there

  pub ready_has_place : HasPlace m item
  ready_has_place = place_there m item ready_is_there
