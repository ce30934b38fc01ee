-- Which entries of an object may follow and which tasks are ready, as far as the object itself shows it.
use Rattle.std.specs.Prelude.{◌≡◌, ◌↔◌, ◌<◌, ◌++◌, List, [], ◌∷◌, length, Option, Some, None, option_map, IsSome, IsSomeAnd, Bool, IsTrue, Contains}
use Rattle.std.specs.Option.{option_map_or}
use Rattle.pssm_model.specs.declared.ids.VertexId.{VertexId}
use Rattle.pssm_model.specs.declared.elements.DraftMachine.{DraftMachine}
use Rattle.pssm_semantics.specs.declared.entry.ObjectId.{ObjectId}
use Rattle.pssm_semantics.specs.declared.entry.Entry.{Entry}
use Rattle.pssm_semantics.specs.declared.entry.Entry.TheVariants.{Post, Start, Take, Done, Exit, Effect, Enter, Opened, Pick, DoStep}
use Rattle.pssm_semantics.specs.declared.entry.Rule.{Rule}
use Rattle.pssm_semantics.specs.declared.setting.Class.{Class}
use Rattle.pssm_semantics.specs.declared.setting.Outcome.{Outcome}
use Rattle.pssm_semantics.specs.declared.stimulus.Stimulus.{Stimulus}
use Rattle.pssm_semantics.specs.declared.stimulus.Task.{Task}
use Rattle.pssm_semantics.specs.Journal.{IsPost, IsStart, object_of}
use Rattle.pssm_semantics.specs.Pool.{told_by}
use Rattle.pssm_semantics.specs.Values.{Params, no_params, outcome_of}
use Rattle.pssm_semantics.specs.Behaviours.{act_of}
use Rattle.pssm_semantics.specs.Tasks.{IsReadyTask}
use Rattle.pssm_semantics.specs.Known.{IsFiringOf, IsRouteOf, IsVertexOf, IsWayOf}
use Rattle.pssm_semantics.specs.Rules.{KeepsOwn}
use Rattle.pssm_semantics.specs.Completion.{HasEnded, IsQueueEmpty, IsQueueHead, IsStepFinished}
use Rattle.pssm_semantics.specs.Deferral.{IsDeferred}
use Rattle.pssm_semantics.specs.Verdict.{IsFirstBroken}
use Rattle.pssm_pool.specs.declared.pools.Waiting.{Waiting}
use Rattle.pssm_object.specs.Standing.{Standing, StandsAfter}

-- The vertices, transitions and regions that the entry names are those of the machine (this profile's choice).
abbrev pub NamesPlaces : DraftMachine → Entry → Type 0
NamesPlaces m (Post o signal args) = Unit {0}
NamesPlaces m (Start o) = Unit {0}
NamesPlaces m (Take o number firing) = IsFiringOf m firing
NamesPlaces m (Done o state firing) = IsVertexOf m state × IsFiringOf m firing
NamesPlaces m (Exit o state outs) = IsVertexOf m state
NamesPlaces m (Effect o t outs) = t.0 < length m.transitions
NamesPlaces m (Enter o state outs) = IsVertexOf m state
NamesPlaces m (Opened o region mode how) = (region.0 < length m.regions) × IsWayOf m how
NamesPlaces m (Pick o choice route) = IsVertexOf m choice × IsRouteOf m route
NamesPlaces m (DoStep o state step outs) = IsVertexOf m state

-- the waiting signal, which was sent to the object (UML 2.5.1 14.2.3.9, event pool)
abbrev pub stimulus_of : ObjectId → Waiting → Stimulus
stimulus_of o w = record { object = o; signal = w.signal; args = w.args }

-- the same where one is handed in (UML 2.5.1 14.2.3.9, event pool)
abbrev pub stimulus_for : ObjectId → Option Waiting → Option Stimulus
stimulus_for o signal = option_map (stimulus_of o) signal

-- Where the object stands so and this signal is handed in with a take, the entry keeps the rule, as far as the object itself
-- shows it (the list of rules is this profile's choice).
abbrev pub KeepsRule : Class → Standing → Option Waiting → Rule → List Entry → Entry → Type 0
KeepsRule class x signal rule J e = KeepsOwn class (told_by J) (stimulus_for x.own signal) rule J e

-- It keeps every rule (the list of rules is this profile's choice).
abbrev pub KeepsRules : Class → Standing → Option Waiting → List Entry → Entry → Type 0
KeepsRules class x signal J e = (rule : Rule) → KeepsRule class x signal rule J e

-- A take names the signal that is handed in with it (UML 2.5.1 14.2.3.9, dispatch of an event occurrence).
abbrev pub NamesSignal : Option Waiting → Entry → Type 0
NamesSignal signal (Take o number firing) = IsSomeAnd signal (λ w. number ≡ w.number)
NamesSignal signal _ = Unit {0}

-- The journal has the signal that a take names, and it is this one (UML 2.5.1 14.2.3.9, event pool).
abbrev pub IsTold : List Entry → Option Stimulus → Entry → Type 0
IsTold J signal (Take o number firing) = told_by J number ≡ signal
IsTold J signal _ = Unit {0}

-- an entry of the object other than a post, and where it is a take that of the signal that is handed in
-- (UML 2.5.1 14.2.3.9, run to completion)
pub record IsCandidate (o : ObjectId) (signal : Option Waiting) (e : Entry) : Type 0 where
  pub own : object_of e ≡ o
  pub no_post : IsPost e → ⊥
  pub names : NamesSignal signal e

-- The entry begins a step, or goes on with one where the machine has a choice of ways
-- (UML 2.5.1 14.2.3.9, run to completion).
abbrev pub IsMove : Entry → Type 0
IsMove (Start o) = Unit {0}
IsMove (Take o number firing) = Unit {0}
IsMove (Done o state firing) = Unit {0}
IsMove (Opened o region mode how) = Unit {0}
IsMove (Pick o choice route) = Unit {0}
IsMove _ = ⊥

-- Where the object stands so and this signal waits, no entry of the object other than a post may come next
-- (UML 2.5.1 14.2.3.9, a StateMachine waits for the next event).
abbrev pub IsQuiet : Class → Standing → Option Waiting → List Entry → Type 0
IsQuiet class x signal J = (e : Entry) → IsCandidate x.own signal e → KeepsRules class x signal J e → ⊥

-- Some may (UML 2.5.1 14.2.3.9, run to completion).
abbrev pub HasNext : Class → Standing → Option Waiting → List Entry → Type 0
HasNext class x signal J = (e : Entry) × IsCandidate x.own signal e × KeepsRules class x signal J e

-- A signal is handed in exactly where one waits (UML 2.5.1 14.2.3.9, event pool).
abbrev pub IsHandedIn : Bool → Option Waiting → Type 0
IsHandedIn waiting signal = (IsTrue waiting → IsSome signal) × (IsSome signal → IsTrue waiting)

-- The entry may come next, where the object stands so and this signal is handed in
-- (UML 2.5.1 14.2.3.9, run to completion).
pub record CanCome (class : Class) (x : Standing) (signal : Option Waiting) (e : Entry) : Type 0 where
  pub own : object_of e ≡ x.own
  pub names : NamesSignal signal e
  pub before : List Entry
  pub stands : StandsAfter class before x
  pub keeps : KeepsRules class x signal before e

-- After all entries after which the object stands so, the entry keeps every rule (the list of rules is this profile's choice).
abbrev pub MayCome : Class → Standing → Option Waiting → Entry → Type 0
MayCome class x signal e = (J : List Entry) → StandsAfter class J x → KeepsRules class x signal J e

-- After all such entries, this is the first rule that the entry breaks (the list of rules is this profile's choice).
abbrev pub BreaksFirst : Class → Standing → Option Waiting → Entry → Rule → Type 0
BreaksFirst class x signal e rule = (J : List Entry) → StandsAfter class J x → IsFirstBroken (KeepsRule class x signal) J e rule

-- After no such entries may a move come next (UML 2.5.1 14.2.3.9, run to completion).
abbrev pub HasNoMove : Class → Standing → Option Waiting → Type 0
HasNoMove class x signal =
    (J : List Entry) → StandsAfter class J x → (e : Entry) → IsMove e → IsCandidate x.own signal e → KeepsRules class x signal J e → ⊥

-- After all entries after which the object stands so, the entry brings it where it then stands, if the journal has the signal that
-- a take names (UML 2.5.1 14.2.3.9, run to completion).
abbrev pub Brings : Class → Standing → Option Waiting → Entry → Standing → Type 0
Brings class old signal e new =
    (J : List Entry) → StandsAfter class J old → IsTold J (stimulus_for old.own signal) e → StandsAfter class (J ++ e ∷ []) new

-- After all entries after which the object stands so, the answer is whether the object defers this signal
-- (UML 2.5.1 14.2.3.4, deferred events).
abbrev pub Defers : Class → Standing → Waiting → Bool → Type 0
Defers class x signal answer =
    (J : List Entry) → StandsAfter class J x → IsTrue answer ↔ IsDeferred class (told_by J) J x.own (stimulus_of x.own signal)

-- After all entries after which the object stands so, the answer is whether the object has ended
-- (UML 2.5.1 14.2.3.6 and 14.2.3.7, final states and terminate).
abbrev pub TellsEnd : Class → Standing → Bool → Type 0
TellsEnd class x answer = (J : List Entry) → StandsAfter class J x → IsTrue answer ↔ HasEnded class.machine J x.own

-- the first of the completion queue; none where no completion waits (UML 2.5.1 14.2.3.8, completion events)
abbrev pub IsFirstCompletion : DraftMachine → List Entry → ObjectId → Option VertexId → Type 0
IsFirstCompletion m J o None = IsQueueEmpty m J o
IsFirstCompletion m J o (Some s) = IsQueueHead m J o s

-- After all entries after which the object stands so, this is the first of its completion queue
-- (UML 2.5.1 14.2.3.8, completion events).
abbrev pub TellsCompletion : Class → Standing → Option VertexId → Type 0
TellsCompletion class x answer =
    (J : List Entry) → StandsAfter class J x → IsFirstCompletion class.machine J x.own answer

-- The object waits for a signal: it has started and has not ended, its step is finished, and no completion waits. A take may come
-- next only then (UML 2.5.1 14.2.3.9, run to completion).
pub record AwaitsSignal (m : DraftMachine) (J : List Entry) (o : ObjectId) : Type 0 where
  pub living : HasEnded m J o → ⊥
  pub started : (f : Entry) × Contains J f × IsStart f o
  pub finished : IsStepFinished m J o
  pub empty : IsQueueEmpty m J o

-- After all entries after which the object stands so, the answer is whether it waits for a signal
-- (UML 2.5.1 14.2.3.9, run to completion).
abbrev pub TellsWait : Class → Standing → Bool → Type 0
TellsWait class x answer = (J : List Entry) → StandsAfter class J x → IsTrue answer ↔ AwaitsSignal class.machine J x.own

-- After all entries after which the object stands so, the answer is whether the task is ready
-- (UML 2.5.1 14.2.3.9, transition execution sequence).
abbrev pub TellsReady : Class → Standing → Task → Bool → Type 0
TellsReady class x task answer = (J : List Entry) → StandsAfter class J x → IsTrue answer ↔ IsReadyTask class.machine J x.own task

-- the parameters of an entry's behaviour where the object stands so: those of the step, and zeros for a do step
-- (this profile's choice)
abbrev pub params_in : Standing → Entry → Params
params_in x (DoStep o s k outs) = no_params
params_in x e = x.params

-- what the behaviour of an entry makes where the object stands so; without behaviour nothing changes
-- (UML 2.5.1 13.2.3, behaviours)
abbrev pub made_by : Class → Standing → Entry → Outcome
made_by class x e =
    option_map_or (λ act. outcome_of act x.own x.store (params_in x e)) (act_of class e) (record { store = x.store; outs = [] })
