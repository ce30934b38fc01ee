-- What an object chooses, by how its plan stands; and each opening and each pick that is ready has a way.
use Rattle.std.proofs.Common.{◌≡◌, Option, Some, None, slice_index_or, refl, inl, inr}
use Rattle.pssm_model.specs.declared.elements.DraftMachine.{DraftMachine}
use Rattle.pssm_model.specs.declared.steps.How.TheVariants.{By}
use Rattle.pssm_model.specs.declared.steps.Item.{Item}
use Rattle.pssm_model.specs.declared.steps.Item.TheVariants as items
use Rattle.pssm_model.specs.Shapes.{HasShape}
use Rattle.pssm_model.specs.WellFormed.{KeepsModelRules}
use Rattle.pssm_model.specs.Items.{HasRunOut}
use Rattle.pssm_model.specs.Routes.{Truth}
use Rattle.pssm_config.specs.Tables.{configuration_of}
use Rattle.pssm_plan.specs.Agenda.{Agenda, course_of}
use Rattle.pssm_plan.specs.Plans.{IsPlanOf}
use Rattle.pssm_semantics.specs.declared.entry.Entry.{Entry}
use Rattle.pssm_semantics.specs.declared.entry.Entry.TheVariants.{Opened, Pick}
use Rattle.pssm_semantics.specs.declared.setting.Class.{Class}
use Rattle.pssm_semantics.specs.Behaviours.{guards_under}
use Rattle.pssm_pool.specs.declared.pools.Waiting.{Waiting}
use Rattle.pssm_object.specs.Standing.{Standing}
use Rattle.pssm_object.specs.inner.Situations.{first_waiting}
use Rattle.pssm_object.specs.inner.Choosing.{IsItemThere, HasWays, IsReadyChoice, GoesSomeWay, ChoosesWay, ChoosesNext, ChoosesInStep}
use Rattle.pssm_object.proofs.SomeWays.{some_opening_way}
use Rattle.pssm_object.proofs.KnownMemories.{known_named}
use Rattle.pssm_object.proofs.LateRoutes.{from_choice}
use Rattle.pssm_object.proofs.PlanItems.{rests_where, ready_item_there}

-- what is chosen where everything has run, and where something has not
module _ (class : Class) (x : Standing) (signal : Option Waiting) (p : Agenda) (is : x.plan ≡ Some p) (chosen : Option Entry) where
  pub chooses_next : HasRunOut class.machine (course_of p) → ChoosesNext class x signal (first_waiting x) chosen → ChoosesInStep class x signal p chosen
  chooses_next out next = inl ((p, is, out), next)

  pub chooses_way : (HasRunOut class.machine (course_of p) → ⊥) → ChoosesWay class x p chosen → ChoosesInStep class x signal p chosen
  chooses_way busy goes = inr ((λ rests. busy (rests_where class.machine x.plan p is rests)), goes)

-- a ready opening is of a region of the machine, and a ready pick from a choice of it
pub choice_item_there : {m : DraftMachine} → HasShape m → KeepsModelRules m → (p : Agenda) (item : Item) → IsPlanOf m p → IsReadyChoice m p item
    → IsItemThere m item
choice_item_there shape rules p item plan ready = ready_item_there shape rules p item plan ready.1

-- such an item has a way
module _ (class : Class) (shape : HasShape class.machine) (rules : KeepsModelRules class.machine) (x : Standing) where
  abbrev truth_here : Truth
  truth_here = guards_under class x.store x.params

  pub some_way_entry : (item : Item) → HasWays item → IsItemThere class.machine item → (e : Entry) × GoesSomeWay class x item e
  some_way_entry (items.Opened r mode) ways there =
      let (how, opens) = some_opening_way shape rules truth_here r (configuration_of x.config).Remembers mode
      (λ v. known_named (slice_index_or x.config.remembered r.0 None) v) in
      (Opened x.own r mode how, (how, opens, refl))
  some_way_entry (items.Pick c) ways there = let (route, late) = from_choice shape rules truth_here c there in (Pick x.own c route, (By route, late, refl))
  some_way_entry (items.Exit s) ways there = absurd ways
  some_way_entry (items.Effect t) ways there = absurd ways
  some_way_entry (items.Enter s) ways there = absurd ways
