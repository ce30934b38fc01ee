-- Where an object stands once one more entry of it has come.
use Rattle.std.specs.Prelude.{◌≡◌, ◌↔◌, ◌++◌, ◌<◌, ℕ, List, [], ◌∷◌, length, Option, Some, None, Contains, IsSomeAnd, IsTrue}
use Rattle.pssm_model.specs.declared.ids.VertexId.{VertexId}
use Rattle.pssm_model.specs.declared.elements.DraftMachine.{DraftMachine}
use Rattle.pssm_model.specs.declared.steps.Route.{Route}
use Rattle.pssm_model.specs.declared.steps.How.{How}
use Rattle.pssm_model.specs.declared.steps.How.TheVariants.{By, Nothing}
use Rattle.pssm_model.specs.declared.steps.Item.{Item}
use Rattle.pssm_model.specs.declared.steps.Item.TheVariants as items
use Rattle.pssm_model.specs.Configuration.{Configuration}
use Rattle.pssm_model.specs.Changes.{Agree, nothing_yet, did_step}
use Rattle.pssm_model.specs.Course.{Head}
use Rattle.pssm_model.specs.Course.Head.{Starts, Fires}
use Rattle.pssm_model.specs.Order.{IsReady, IsWayNow}
use Rattle.pssm_model.specs.Routes.{Truth, IsStateRoute}
use Rattle.pssm_config.specs.Tables.{Tables, Fits, CanEnter, configuration_of}
use Rattle.pssm_plan.specs.Agenda.{Agenda, course_of}
use Rattle.pssm_plan.specs.Plans.{IsPlanOf}
use Rattle.pssm_plan.specs.Steadiness.{changed_by_item}
use Rattle.pssm_semantics.specs.declared.entry.Entry.{Entry}
use Rattle.pssm_semantics.specs.declared.entry.Entry.TheVariants.{Post, Start, Take, Done, Exit, Effect, Enter, Opened, Pick, DoStep}
use Rattle.pssm_semantics.specs.declared.setting.Class.{Class}
use Rattle.pssm_semantics.specs.Values.{Store, Params, eight_of, no_params}
use Rattle.pssm_pool.specs.declared.pools.Waiting.{Waiting}
use Rattle.pssm_object.specs.Standing.{Standing}
use Rattle.pssm_object.specs.inner.Doing.{step_outcome, IsNextHere}
use Rattle.pssm_object.specs.inner.Ending.{Ends}
use Rattle.pssm_object.specs.inner.Situations.{first_waiting}
use Rattle.pssm_object.specs.inner.Queueing.{completing, leaving, without, QueueGoesOn}
use Rattle.pssm_object.specs.inner.Working.{HasPlace, outcome_for}

-- The item of the plan is ready and may run in this way.
pub record CanRun (m : DraftMachine) (plan : Option Agenda) (item : Item) (how : How) : Type 0 where
  pub here : Agenda
  pub here_is : plan ≡ Some here
  pub is_plan : IsPlanOf m here
  pub ready : IsReady m (course_of here) item
  pub way : (truth : Truth) × IsWayNow m truth (course_of here) item how

-- The second plan is that of the same step, in which the item has run besides.
pub record HasRunOn (m : DraftMachine) (old : Option Agenda) (item : Item) (how : How) (new : Option Agenda)
    : Type 0 where
  pub was : Agenda
  pub was_is : old ≡ Some was
  pub now : Agenda
  pub now_is : new ≡ Some now
  pub head : now.head ≡ was.head
  pub at_head : now.at_head ≡ was.at_head
  pub ran : now.ran ≡ was.ran ++ (item, how) ∷ []
  pub is_plan : IsPlanOf m now

-- The plan is that of a step that has just begun.
pub record HasBegun (m : DraftMachine) (head : Head) (new : Option Agenda) : Type 0 where
  pub now : Agenda
  pub now_is : new ≡ Some now
  pub head_is : now.head ≡ head
  pub ran : now.ran ≡ []
  pub is_plan : IsPlanOf m now

-- The plan is that of a step that these routes have just begun in this configuration.
abbrev pub HasFired : DraftMachine → Tables → List Route → Option Agenda → Type 0
HasFired m config routes new = (begun : HasBegun m (Fires routes) new) × (begun.now.at_head ≡ config)

-- The configuration may change as the item does.
abbrev pub CanChange : DraftMachine → Configuration → Item → Type 0
CanChange m now (items.Exit s) = now.Active s
CanChange m now (items.Enter s) = CanEnter m now s
CanChange m now (items.Opened r mode) = r.0 < length m.regions
CanChange m now _ = Unit {0}

-- both, and its vertex or transition is one of the machine
pub record CanRunHere (m : DraftMachine) (plan : Option Agenda) (tables : Tables) (item : Item) (how : How)
    : Type 0 where
  pub can_run : CanRun m plan item how
  pub can_change : CanChange m (configuration_of tables) item
  pub place : HasPlace m item

-- What fires are routes of States.
abbrev pub AreStateRoutes : DraftMachine → List Route → Type 0
AreStateRoutes m routes = (route : Route) → Contains routes route → IsStateRoute m route

-- There is a signal, and what it fires are routes of States.
abbrev pub CanTake : DraftMachine → List Route → Option Waiting → Type 0
CanTake m routes signal = IsSomeAnd signal (λ w. AreStateRoutes m routes)

-- the same of an object that stands so
abbrev pub CanRunIn : Class → Standing → Item → How → Type 0
CanRunIn class x item how = CanRunHere class.machine x.plan x.config item how

-- what the code asks of an entry that may follow
abbrev pub CanFollow : Class → Standing → Option Waiting → Entry → Type 0
CanFollow class x signal (Post o g args) = Unit {0}
CanFollow class x signal (Start o) = Unit {0}
CanFollow class x signal (Take o number firing) = CanTake class.machine firing.routes signal
CanFollow class x signal (Done o s firing) = AreStateRoutes class.machine firing.routes × (first_waiting x ≡ Some s)
CanFollow class x signal (Exit o s outs) = CanRunIn class x (items.Exit s) Nothing
CanFollow class x signal (Effect o t outs) = CanRunIn class x (items.Effect t) Nothing
CanFollow class x signal (Enter o s outs) = CanRunIn class x (items.Enter s) Nothing
CanFollow class x signal (Opened o r mode how) = CanRunIn class x (items.Opened r mode) how
CanFollow class x signal (Pick o c route) = CanRunIn class x (items.Pick c) (By route)
CanFollow class x signal (DoStep o s k outs) = IsNextHere class.machine x.config s k

-- The one State is taken out of the queue, and the other is put at its end where it comes to wait.
abbrev pub QueueTurns : DraftMachine → Standing → Option VertexId → Option VertexId → Standing → Type 0
QueueTurns m old leaves completes new =
    QueueGoesOn m (configuration_of old.config) (configuration_of new.config) leaves completes old.queue.states new.queue.states

-- The configuration has changed as the item does, the queue has gone on, and the object has ended where the item ends it; nothing
-- else has changed but the plan.
pub record Settles (m : DraftMachine) (old : Standing) (item : Item) (how : How) (new : Standing) : Type 0 where
  pub own : new.own ≡ old.own
  pub fits : Fits m new.config
  pub changed : Agree (configuration_of new.config) (changed_by_item m (configuration_of old.config) item how)
  pub store : new.store ≡ old.store
  pub params : new.params ≡ old.params
  pub room : new.queue.room ≡ old.queue.room
  pub queue : QueueTurns m old (leaving item) (completing m item how) new
  pub ended : IsTrue new.ended ↔ Ends m (configuration_of new.config) item
  pub doers : new.doers ≡ old.doers

-- The item has run and changed the configuration, the variables have these values, the queue has gone on, and the object has ended
-- where the item ends it; nothing else has changed.
pub record RunsHere (m : DraftMachine) (old : Standing) (item : Item) (how : How) (store : Store) (new : Standing)
    : Type 0 where
  pub own : new.own ≡ old.own
  pub plan : HasRunOn m old.plan item how new.plan
  pub fits : Fits m new.config
  pub changed : Agree (configuration_of new.config) (changed_by_item m (configuration_of old.config) item how)
  pub store_is : new.store ≡ store
  pub params : new.params ≡ old.params
  pub room : new.queue.room ≡ old.queue.room
  pub queue : QueueTurns m old (leaving item) (completing m item how) new
  pub ended : IsTrue new.ended ↔ Ends m (configuration_of new.config) item
  pub doers : new.doers ≡ old.doers

-- The item has run with its behaviour.
abbrev pub WorksHere : Class → Standing → Item → Standing → Type 0
WorksHere class old item new = RunsHere class.machine old item Nothing (outcome_for class old item).store new

-- The do step is done besides, its behaviour has changed the variables, and the queue has gone on; nothing else has changed.
pub record StepsHere (class : Class) (old : Standing) (s : VertexId) (k : ℕ) (new : Standing) : Type 0 where
  pub own : new.own ≡ old.own
  pub plan : new.plan ≡ old.plan
  pub fits : Fits class.machine new.config
  pub changed : Agree (configuration_of new.config) (did_step (configuration_of old.config) s k)
  pub store : new.store ≡ (step_outcome class old s k).store
  pub params : new.params ≡ old.params
  pub room : new.queue.room ≡ old.queue.room
  pub queue : QueueTurns class.machine old None (Some s) new
  pub ended : new.ended ≡ old.ended
  pub doers : new.doers ≡ old.doers

-- The object has started.
pub record Begins (m : DraftMachine) (old new : Standing) : Type 0 where
  pub own : new.own ≡ old.own
  pub plan : HasBegun m Starts new.plan
  pub at_head : Agree (configuration_of plan.now.at_head) nothing_yet
  pub config : new.config ≡ old.config
  pub store : new.store ≡ old.store
  pub params : new.params ≡ old.params
  pub queue : new.queue ≡ old.queue
  pub ended : new.ended ≡ old.ended
  pub doers : new.doers ≡ old.doers

-- The routes fire under these parameters.
pub record FiresOn (m : DraftMachine) (old : Standing) (routes : List Route) (params : Params) (new : Standing)
    : Type 0 where
  pub own : new.own ≡ old.own
  pub plan : HasBegun m (Fires routes) new.plan
  pub at_head : plan.now.at_head ≡ old.config
  pub config : new.config ≡ old.config
  pub store : new.store ≡ old.store
  pub params_is : new.params ≡ params
  pub ended : new.ended ≡ old.ended
  pub doers : new.doers ≡ old.doers

-- The signal is taken, and the routes fire.
pub record Takes (m : DraftMachine) (old : Standing) (routes : List Route) (signal : Option Waiting) (new : Standing)
    : Type 0 where
  pub fires : IsSomeAnd signal (λ w. FiresOn m old routes (eight_of w.args) new)
  pub queue : new.queue ≡ old.queue

-- The completion of the State is dispatched, so that it waits no more, and the routes fire.
pub record Dispatches (m : DraftMachine) (old : Standing) (s : VertexId) (routes : List Route) (new : Standing)
    : Type 0 where
  pub fires : FiresOn m old routes no_params new
  pub room : new.queue.room ≡ old.queue.room
  pub queue : new.queue.states ≡ without (Some s) old.queue.states

-- where the object stands after the entry
abbrev pub Advances : Class → Standing → Option Waiting → Entry → Standing → Type 0
Advances class old signal (Post o g args) new = new ≡ old
Advances class old signal (Start o) new = Begins class.machine old new
Advances class old signal (Take o number firing) new = Takes class.machine old firing.routes signal new
Advances class old signal (Done o s firing) new = Dispatches class.machine old s firing.routes new
Advances class old signal (Exit o s outs) new = WorksHere class old (items.Exit s) new
Advances class old signal (Effect o t outs) new = WorksHere class old (items.Effect t) new
Advances class old signal (Enter o s outs) new = WorksHere class old (items.Enter s) new
Advances class old signal (Opened o r mode how) new = RunsHere class.machine old (items.Opened r mode) how old.store new
Advances class old signal (Pick o c route) new = RunsHere class.machine old (items.Pick c) (By route) old.store new
Advances class old signal (DoStep o s k outs) new = StepsHere class old s k new
