-- The verdict on one more entry of an object, where it stands so.
use Rattle.std.specs.Prelude.{◌≡◌, ◌⊎◌, ℕ, List, Option, Some, None, IfSome, IsSomeAnd, IsTrue}
use Rattle.pssm_model.specs.declared.ids.VertexId.{VertexId}
use Rattle.pssm_model.specs.declared.elements.DraftMachine.{DraftMachine}
use Rattle.pssm_model.specs.declared.steps.Route.{Route}
use Rattle.pssm_model.specs.declared.steps.How.{How}
use Rattle.pssm_model.specs.declared.steps.How.TheVariants.{By}
use Rattle.pssm_model.specs.declared.steps.Item.{Item}
use Rattle.pssm_model.specs.declared.steps.Item.TheVariants as items
use Rattle.pssm_model.specs.declared.steps.Event.TheVariants.{Signal, Completion}
use Rattle.pssm_model.specs.Items.{HasRunOut, IsWaiting, IsCleared}
use Rattle.pssm_model.specs.Order.{IsReady}
use Rattle.pssm_plan.specs.Agenda.{Agenda, course_of}
use Rattle.pssm_semantics.specs.declared.entry.Out.{Out}
use Rattle.pssm_semantics.specs.declared.entry.Entry.{Entry}
use Rattle.pssm_semantics.specs.declared.entry.Entry.TheVariants.{Post, Start, Take, Done, Exit, Effect, Enter, Opened, Pick, DoStep}
use Rattle.pssm_semantics.specs.declared.entry.Rule.{Rule}
use Rattle.pssm_semantics.specs.declared.entry.Rule.TheVariants.{A2, A3, A4, A5, A7, A8, A9, A10, A12}
use Rattle.pssm_semantics.specs.declared.setting.Class.{Class}
use Rattle.pssm_semantics.specs.declared.stimulus.Task.{Task}
use Rattle.pssm_semantics.specs.declared.stimulus.Task.TheVariants as tasks
use Rattle.pssm_semantics.specs.Values.{eight_of, no_params}
use Rattle.pssm_pool.specs.declared.pools.Waiting.{Waiting}
use Rattle.pssm_object.specs.Standing.{Standing}
use Rattle.pssm_object.specs.inner.Firing.{Fires, IsWayFrom, IsOpeningWay}
use Rattle.pssm_object.specs.inner.Situations.{IsAtRest, first_waiting}
use Rattle.pssm_object.specs.inner.Working.{Makes}
use Rattle.pssm_object.specs.inner.Doing.{IsNextHere, JudgesDoStep}

-- something that the last step calls has not run
abbrev pub IsBusy : DraftMachine → Option Agenda → Type 0
IsBusy m plan = (p : Agenda) × (plan ≡ Some p) × (HasRunOut m (course_of p) → ⊥)

-- the verdict on a head entry of an object that does not rest
abbrev pub JudgesRest : DraftMachine → Option Agenda → Rule → Type 0
JudgesRest m plan A3 = plan ≡ None
JudgesRest m plan A4 = IsBusy m plan
JudgesRest m plan _ = ⊥

-- the verdict on a start
abbrev pub JudgesStart : Option Agenda → Option Rule → Type 0
JudgesStart plan None = plan ≡ None
JudgesStart plan (Some A3) = (p : Agenda) × (plan ≡ Some p)
JudgesStart plan (Some _) = ⊥

-- The routes are what this signal fires.
abbrev pub FiresHere : Class → Standing → List Route → Waiting → Type 0
FiresHere class x routes signal = Fires class x.config x.store (eight_of signal.args) (Signal signal.signal) routes

-- They are what the completion of the State fires.
abbrev pub Completes : Class → Standing → VertexId → List Route → Type 0
Completes class x s routes = Fires class x.config x.store no_params (Completion s) routes

-- The routes are not what this signal fires.
abbrev pub FiresOther : Class → Standing → List Route → Waiting → Type 0
FiresOther class x routes signal = FiresHere class x routes signal → ⊥

-- the verdict on routes of which this says that they are what fires
abbrev pub JudgesFiring : Type 0 → Option Rule → Type 0
JudgesFiring Fires None = Fires
JudgesFiring Fires (Some A7) = Fires → ⊥
JudgesFiring Fires (Some _) = ⊥

-- the verdict on a take; what the signal fires is asked where the signal is handed in
abbrev pub JudgesTake : Class → Standing → Option Waiting → List Route → Option Rule → Type 0
JudgesTake class x signal routes None = IsAtRest class.machine x.plan × (first_waiting x ≡ None) × IfSome signal (FiresHere class x routes)
JudgesTake class x signal routes (Some A3) = x.plan ≡ None
JudgesTake class x signal routes (Some A4) = IsBusy class.machine x.plan
JudgesTake class x signal routes (Some A5) = IsAtRest class.machine x.plan × (first_waiting x ≡ None → ⊥)
JudgesTake class x signal routes (Some A7) =
    IsAtRest class.machine x.plan × (first_waiting x ≡ None) × IsSomeAnd signal (FiresOther class x routes)
JudgesTake class x signal routes (Some _) = ⊥

-- the verdict on a dispatch of a completion
abbrev pub JudgesDone : Class → Standing → VertexId → List Route → Option Rule → Type 0
JudgesDone class x s routes None = IsAtRest class.machine x.plan × (first_waiting x ≡ Some s) × Completes class x s routes
JudgesDone class x s routes (Some A3) = x.plan ≡ None
JudgesDone class x s routes (Some A4) = IsBusy class.machine x.plan
JudgesDone class x s routes (Some A5) = IsAtRest class.machine x.plan × (first_waiting x ≡ Some s → ⊥)
JudgesDone class x s routes (Some A7) = IsAtRest class.machine x.plan × (first_waiting x ≡ Some s) × (Completes class x s routes → ⊥)
JudgesDone class x s routes (Some _) = ⊥

-- the verdict on an item, but for its way and its outputs
abbrev pub JudgesItem : DraftMachine → Option Agenda → Item → Option Rule → Type 0
JudgesItem m plan item None = (p : Agenda) × (plan ≡ Some p) × IsReady m (course_of p) item
JudgesItem m plan item (Some A3) = plan ≡ None
JudgesItem m plan item (Some A8) = (p : Agenda) × (plan ≡ Some p) × (IsWaiting m (course_of p) item → ⊥)
JudgesItem m plan item (Some A9) =
    (p : Agenda) × (plan ≡ Some p) × IsWaiting m (course_of p) item × (IsCleared m (course_of p) item → ⊥)
JudgesItem m plan item (Some _) = ⊥

-- the verdict on an exit, an effect or an entry with its outputs
abbrev pub JudgesWork : Class → Standing → Item → List Out → Option Rule → Type 0
JudgesWork class x item outs None = JudgesItem class.machine x.plan item None × Makes class x item outs
JudgesWork class x item outs (Some A12) = JudgesItem class.machine x.plan item None × (Makes class x item outs → ⊥)
JudgesWork class x item outs (Some rule) = JudgesItem class.machine x.plan item (Some rule)

-- The way is one of those of an opening or a pick there; nothing else has a way.
abbrev pub IsWayHere : Class → Standing → Item → How → Type 0
IsWayHere class x (items.Opened r mode) how = IsOpeningWay class x.config x.store x.params r mode how
IsWayHere class x (items.Pick c) (By route) = IsWayFrom class x.store x.params c route
IsWayHere class x item how = ⊥

-- the verdict on an opening or a pick with its way
abbrev pub JudgesWay : Class → Standing → Item → How → Option Rule → Type 0
JudgesWay class x item how None = JudgesItem class.machine x.plan item None × IsWayHere class x item how
JudgesWay class x item how (Some A10) = JudgesItem class.machine x.plan item None × (IsWayHere class x item how → ⊥)
JudgesWay class x item how (Some rule) = JudgesItem class.machine x.plan item (Some rule)

-- The object has started.
abbrev pub HasStarted : Standing → Type 0
HasStarted x = (p : Agenda) × (x.plan ≡ Some p)

-- the verdict on a do step with its outputs
abbrev pub JudgesDoing : Class → Standing → VertexId → ℕ → List Out → Option Rule → Type 0
JudgesDoing class x s k outs answer =
    ((x.plan ≡ None) × (answer ≡ Some A3)) ⊎ (HasStarted x × JudgesDoStep class x s k outs answer)

-- the verdict on an entry of an object that has not ended
abbrev pub JudgesLiving : Class → Standing → Option Waiting → Entry → Option Rule → Type 0
JudgesLiving class x signal (Post o g args) answer = answer ≡ None
JudgesLiving class x signal (Start o) answer = JudgesStart x.plan answer
JudgesLiving class x signal (Take o number firing) answer = JudgesTake class x signal firing.routes answer
JudgesLiving class x signal (Done o s firing) answer = JudgesDone class x s firing.routes answer
JudgesLiving class x signal (Exit o s outs) answer = JudgesWork class x (items.Exit s) outs answer
JudgesLiving class x signal (Effect o t outs) answer = JudgesWork class x (items.Effect t) outs answer
JudgesLiving class x signal (Enter o s outs) answer = JudgesWork class x (items.Enter s) outs answer
JudgesLiving class x signal (Opened o r mode how) answer = JudgesWay class x (items.Opened r mode) how answer
JudgesLiving class x signal (Pick o c route) answer = JudgesWay class x (items.Pick c) (By route) answer
JudgesLiving class x signal (DoStep o s k outs) answer = JudgesDoing class x s k outs answer

-- The entry comes after the end of the object, where a post alone may come.
abbrev pub IsPastEnd : Standing → Entry → Type 0
IsPastEnd x (Post o g args) = ⊥
IsPastEnd x e = IsTrue x.ended

-- the verdict on an entry
abbrev pub Judges : Class → Standing → Option Waiting → Entry → Option Rule → Type 0
Judges class x signal e answer =
    (IsPastEnd x e × (answer ≡ Some A2)) ⊎ ((IsPastEnd x e → ⊥) × JudgesLiving class x signal e answer)

-- The item of the plan is ready.
abbrev pub IsReadyIn : DraftMachine → Option Agenda → Item → Type 0
IsReadyIn m plan item = (p : Agenda) × (plan ≡ Some p) × IsReady m (course_of p) item

-- The work of the task is ready, where an object that has not ended stands so.
abbrev pub IsWorkReady : DraftMachine → Standing → Task → Type 0
IsWorkReady m x (tasks.Exit s) = IsReadyIn m x.plan (items.Exit s)
IsWorkReady m x (tasks.Effect t) = IsReadyIn m x.plan (items.Effect t)
IsWorkReady m x (tasks.Enter s) = IsReadyIn m x.plan (items.Enter s)
IsWorkReady m x (tasks.DoStep s k) = IsNextHere m x.config s k

-- The task is ready, where the object stands so.
abbrev pub IsTaskReady : DraftMachine → Standing → Task → Type 0
IsTaskReady m x task = (IsTrue x.ended → ⊥) × IsWorkReady m x task
