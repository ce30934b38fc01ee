-- Settings whose numbers are in range and whose machines keep the rules of models.
use Rattle.std.specs.Prelude.{◌≡◌, ◌≢◌, ◌≤◌, ◌<◌, ℕ, List, [], length, map, Option, Some, IfSome, slice_get, All, AllPairs}
use Rattle.pssm_model.specs.declared.ids.ActId.{ActId}
use Rattle.pssm_model.specs.declared.ids.SignalId.{SignalId}
use Rattle.pssm_model.specs.declared.elements.Vertex.{Vertex}
use Rattle.pssm_model.specs.declared.elements.Transition.{Transition}
use Rattle.pssm_model.specs.declared.elements.Guard.{Guard}
use Rattle.pssm_model.specs.declared.elements.Guard.TheVariants.{Always, Otherwise, When}
use Rattle.pssm_model.specs.Proper.{IsProperMachine}
use Rattle.pssm_model.specs.WellFormed.{KeepsModelRules}
use Rattle.pssm_semantics.specs.declared.entry.ObjectId.{ObjectId}
use Rattle.pssm_semantics.specs.declared.tree.Act.{Act}
use Rattle.pssm_semantics.specs.declared.setting.Class.{Class}
use Rattle.pssm_semantics.specs.declared.setting.Setting.{Setting}
use Rattle.pssm_semantics.specs.Settings.{HasCount}
use Rattle.pssm_semantics.specs.Fits.{CondFits, ActFits}

-- The behaviour is one of the class (this profile's choice).
abbrev pub HasAct : Class → ActId → Type 0
HasAct class a = a.0 < length class.program.acts

-- The guard, where there is one, is one of the class (this profile's choice).
abbrev pub GuardFits : Class → Guard → Type 0
GuardFits class Always = Unit {0}
GuardFits class Otherwise = Unit {0}
GuardFits class (When g) = g.0 < length class.program.guards

-- The behaviours of a vertex are those of the class (this profile's choice).
abbrev pub VertexFits : Class → Vertex → Type 0
VertexFits class x = HasAct class x.entry × HasAct class x.exit × All (HasAct class) x.steps

-- Guard and effect of a transition are those of the class (this profile's choice).
abbrev pub TransitionFits : Class → Transition → Type 0
TransitionFits class x = GuardFits class x.guard × HasAct class x.effect

-- a name of at most 64 bytes (this profile's choice)
abbrev pub IsShortName : List ℕ → Type 0
IsShortName text = length text ≤ 64

-- Names are different in their kind, and none is too long (UML 2.5.1 7.4.3, namespaces).
abbrev pub AreNames : List (List ℕ) → Type 0
AreNames names = All IsShortName names × AllPairs (λ a b. a ≢ b) names

-- The behaviour has no statement (this profile's choice).
abbrev pub IsEmptyAct : Act → Type 0
IsEmptyAct act = act.stmts ≡ []

-- what is asked of a class, whatever sends it may make (this profile's choice)
pub record ProgramFits (class : Class) (Sends : Option ObjectId → SignalId → ℕ → Type 0) : Type 0 where
  pub machine : IsProperMachine class.machine
  pub vertices : All (VertexFits class) class.machine.vertices
  pub transitions : All (TransitionFits class) class.machine.transitions
  pub acts : All (ActFits (record { vars = length class.vars; marks = length class.program.marks; Sends = Sends })) class.program.acts
  pub guards : All (CondFits (length class.vars)) class.program.guards
  pub first_act : (act : Act) × (slice_get class.program.acts 0 ≡ Some act) × IsEmptyAct act
  pub names : IsShortName class.name × AreNames (map (λ x. x.name) class.vars) × AreNames class.program.marks
  pub limits : (length class.vars ≤ 64) × (length class.program.acts ≤ 32768) × (length class.program.marks ≤ 32768)

-- The signal is one of the setting (this profile's choice).
abbrev pub HasSignal : Setting → SignalId → Type 0
HasSignal setting signal = signal.0 < length setting.signals

-- a send to an object and of a signal of the setting, with as many arguments as the signal has parameters (UML 2.5.1 16.3.3, send signal actions)
abbrev pub CanSend : Setting → Option ObjectId → SignalId → ℕ → Type 0
CanSend setting to signal n = IfSome to (λ o. o.0 < length setting.objects) × HasCount setting signal n

-- The class fits among the signals and objects of the setting (this profile's choice).
pub record ClassFits (setting : Setting) (class : Class) : Type 0 where
  pub program : ProgramFits class (CanSend setting)
  pub defers : All (λ x. All (HasSignal setting) x.defers) class.machine.vertices
  pub triggers : All (λ x. All (HasSignal setting) x.triggers) class.machine.transitions

-- a setting in which every number is in range, the first behaviour of each program is empty, names differ and the limits hold (this profile's choice)
pub record IsProper (setting : Setting) : Type 0 where
  pub classes : All (ClassFits setting) setting.classes
  pub objects : All (λ d. d.class < length setting.classes) setting.objects
  pub counts : All (λ d. d.count ≤ 8) setting.signals
  pub names : AreNames (map (λ d. d.name) setting.signals) × AreNames (map (λ c. c.name) setting.classes) × AreNames (map (λ d. d.name) setting.objects)
  pub limits : (length setting.classes ≤ 64) × (length setting.objects ≤ 64) × (length setting.signals ≤ 256)

-- a proper setting no machine of which breaks a rule of models (this profile's choice)
pub record IsWellFormed (setting : Setting) : Type 0 where
  pub proper : IsProper setting
  pub rules : All (λ c. KeepsModelRules c.machine) setting.classes
