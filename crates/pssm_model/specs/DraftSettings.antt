-- Drafts: which machine extends which, and what is asked of a draft that is handed on.
use Rattle.std.specs.Prelude.{◌≡◌, ◌≢◌, ◌≤◌, ◌<◌, ℕ, ◌+◌, List, [], length, sum_by, AllPairs, Option, Some, None, IfSome, option_and_then, is_some, slice_get, if◌then◌else◌}
use Rattle.std.specs.List.{AllByRecursion, AllZip}
use Rattle.pssm_model.specs.declared.ids.SignalId.{SignalId}
use Rattle.pssm_model.specs.declared.elements.Owner.{Owner}
use Rattle.pssm_model.specs.declared.elements.Owner.TheVariants.{Top, Region, State}
use Rattle.pssm_model.specs.declared.draft_setting.ElementRef.{ElementRef}
use Rattle.pssm_model.specs.declared.draft_setting.Draft.{Draft}
use Rattle.pssm_model.specs.declared.draft_setting.DraftSignal.{DraftSignal}
use Rattle.pssm_model.specs.declared.draft_setting.DraftClass.{DraftClass}
use Rattle.pssm_model.specs.declared.draft_setting.DraftVar.{DraftVar}
use Rattle.pssm_model.specs.declared.draft_setting.DraftObject.{DraftObject}
use Rattle.pssm_model.specs.declared.draft_setting.DraftParts.{DraftParts}
use Rattle.pssm_model.specs.declared.draft_setting.PartRegion.{PartRegion}
use Rattle.pssm_model.specs.declared.draft_setting.PartVertex.{PartVertex}
use Rattle.pssm_model.specs.declared.draft_setting.PartConnection.{PartConnection}
use Rattle.pssm_model.specs.declared.draft_setting.PartTransition.{PartTransition}
use Rattle.pssm_model.specs.declared.draft_setting.PartGuard.{PartGuard}
use Rattle.pssm_model.specs.declared.draft_setting.PartGuard.TheVariants as guards
use Rattle.pssm_model.specs.declared.draft_setting.Body.{Body}
use Rattle.pssm_model.specs.declared.draft_setting.End.{End}
use Rattle.pssm_model.specs.declared.draft_setting.End.TheVariants as ends

-- ---- elements and extended machines

-- the region at a place
abbrev pub region_of : Draft → ElementRef → Option PartRegion
region_of draft ref = option_and_then (λ p. slice_get p.regions ref.element) (slice_get draft.machines ref.machine)

-- the vertex at a place
abbrev pub vertex_of : Draft → ElementRef → Option PartVertex
vertex_of draft ref = option_and_then (λ p. slice_get p.vertices ref.element) (slice_get draft.machines ref.machine)

-- the transition at a place
abbrev pub transition_of : Draft → ElementRef → Option PartTransition
transition_of draft ref = option_and_then (λ p. slice_get p.transitions ref.element) (slice_get draft.machines ref.machine)

-- The machine extends the other one (UML 2.5.1 14.3.3, extended State machines).
abbrev pub Extends : Draft → ℕ → ℕ → Type 0
Extends draft m base = option_and_then (λ p. p.extends) (slice_get draft.machines m) ≡ Some base

-- It extends the other one, directly or through others.
pub data ExtendsFar (draft : Draft) (m : ℕ) : ℕ → Type 0 where
  directly : {base : ℕ} → Extends draft m base → ExtendsFar draft m base
  further : (other : ℕ) {base : ℕ} → ExtendsFar draft m other → Extends draft other base → ExtendsFar draft m base

-- the machine itself, and those that it extends
pub data IsOrExtends (draft : Draft) (m : ℕ) : ℕ → Type 0 where
  itself : IsOrExtends draft m m
  extended : {base : ℕ} → ExtendsFar draft m base → IsOrExtends draft m base

-- the machines at these places
abbrev pub ArePartsOf : Draft → List ℕ → List DraftParts → Type 0
ArePartsOf draft machines parts = AllZip (λ m p. slice_get draft.machines m ≡ Some p) machines parts

-- ---- numbers in range

-- The place is that of a region.
abbrev pub IsRegionRef : Draft → ElementRef → Type 0
IsRegionRef draft ref = (region : PartRegion) × (region_of draft ref ≡ Some region)

-- The place is that of a vertex.
abbrev pub IsVertexRef : Draft → ElementRef → Type 0
IsVertexRef draft ref = (vertex : PartVertex) × (vertex_of draft ref ≡ Some vertex)

-- The place is that of a transition.
abbrev pub IsTransitionRef : Draft → ElementRef → Type 0
IsTransitionRef draft ref = (transition : PartTransition) × (transition_of draft ref ≡ Some transition)

-- The owner is one of the machine's own elements, or the machine.
abbrev pub IsOwnerIn : DraftParts → Owner → Type 0
IsOwnerIn parts Top = Unit {0}
IsOwnerIn parts (Region r) = r.0 < length parts.regions
IsOwnerIn parts (State v) = v.0 < length parts.vertices

-- The numbers are those of signals.
abbrev pub AreSignals : Draft → List SignalId → Type 0
AreSignals draft signals = AllByRecursion (λ (g : SignalId). g.0 < length draft.signals) signals

-- a region that has its owner in its machine, and extends one that there is
pub record RegionInRange (draft : Draft) (parts : DraftParts) (region : PartRegion) : Type 0 where
  pub owner : IsOwnerIn parts region.owner
  pub extends : IfSome region.extends (IsRegionRef draft)

-- The connection names vertices that there are.
abbrev pub ConnectionInRange : Draft → PartConnection → Type 0
ConnectionInRange draft connection = AllByRecursion (IsVertexRef draft) connection.entries × AllByRecursion (IsVertexRef draft) connection.exits

-- a vertex that has its owner in its machine, and names signals, machines and vertices that there are
pub record VertexInRange (draft : Draft) (parts : DraftParts) (vertex : PartVertex) : Type 0 where
  pub owner : IsOwnerIn parts vertex.owner
  pub defers : AreSignals draft vertex.defers
  pub redefines : IfSome vertex.redefines (IsVertexRef draft)
  pub submachine : IfSome vertex.submachine (λ m. m < length draft.machines)
  pub connections : AllByRecursion (ConnectionInRange draft) vertex.connections

-- The end is a vertex that there is, or a connection of one.
abbrev pub EndInRange : Draft → End → Type 0
EndInRange draft (ends.Vertex ref) = IsVertexRef draft ref
EndInRange draft (ends.Connection of_state index) = (vertex : PartVertex) × (vertex_of draft of_state ≡ Some vertex) × (index < length vertex.connections)

-- a transition that names ends, signals and transitions that there are
pub record TransitionInRange (draft : Draft) (transition : PartTransition) : Type 0 where
  pub source : EndInRange draft transition.source
  pub target : EndInRange draft transition.target
  pub triggers : AreSignals draft transition.triggers
  pub redefines : IfSome transition.redefines (IsTransitionRef draft)

-- a machine whose elements name what there is
pub record PartsInRange (draft : Draft) (parts : DraftParts) : Type 0 where
  pub extends : IfSome parts.extends (λ m. m < length draft.machines)
  pub regions : AllByRecursion (RegionInRange draft parts) parts.regions
  pub vertices : AllByRecursion (VertexInRange draft parts) parts.vertices
  pub transitions : AllByRecursion (TransitionInRange draft) parts.transitions

-- ---- counts

-- one where there is a behaviour
abbrev pub one_if_given : Option Body → ℕ
one_if_given body = if is_some body then 1 else 0

-- one where a guard has a text; none and `else` have no text
abbrev pub guard_bodies : PartGuard → ℕ
guard_bodies (guards.Given body) = 1
guard_bodies _ = 0

-- how many behaviours and guards a machine has of its own
abbrev pub body_count : DraftParts → ℕ
body_count parts =
    sum_by (λ (v : PartVertex). one_if_given v.entry + one_if_given v.exit + one_if_given v.steps) parts.vertices
    + sum_by (λ (t : PartTransition). guard_bodies t.guard + one_if_given t.effect) parts.transitions

-- the limit of a machine's elements of a kind: their numbers are 0 to 65,534, so that 65,535 is the number of none (this profile's choice)
abbrev pub most_elements : ℕ
most_elements = 65535

-- A count of elements keeps the limit for the machine with all that it extends, each counted once (this profile's choice).
abbrev pub IsFew : Draft → (DraftParts → ℕ) → ℕ → Type 0
IsFew draft count m =
    (machines : List ℕ) (parts : List DraftParts) → AllPairs (λ a b. a ≢ b) machines → AllByRecursion (IsOrExtends draft m) machines
    → ArePartsOf draft machines parts → sum_by count parts ≤ most_elements

-- a machine that keeps the limit in all of its kinds: the one limit for which a model file is refused, where it passes it (this profile's choice)
pub record IsSmallMachine (draft : Draft) (m : ℕ) : Type 0 where
  pub regions : IsFew draft (λ p. length p.regions) m
  pub vertices : IsFew draft (λ p. length p.vertices) m
  pub transitions : IsFew draft (λ p. length p.transitions) m
  pub bodies : IsFew draft body_count m

-- The class has a variable of this name, or inherits it: a class has it whose machine its own extends (this profile's choice).
pub data KnowsVariable (draft : Draft) (class : DraftClass) (name : List ℕ) : Type 0 where
  own : (var : DraftVar) (place : ℕ) → slice_get class.vars place ≡ Some var → var.name ≡ name → KnowsVariable draft class name
  inherited : (other : DraftClass) (var : DraftVar) (number place : ℕ) → slice_get draft.classes number ≡ Some other → ExtendsFar draft class.machine other.machine
      → slice_get other.vars place ≡ Some var → var.name ≡ name → KnowsVariable draft class name

-- the limit of a class's variables (this profile's choice)
abbrev pub most_variables : ℕ
most_variables = 64

-- It keeps the limit, each name counted once: the one limit for which a model file is refused, where it passes it (this profile's choice).
abbrev pub HasFewVariables : Draft → DraftClass → Type 0
HasFewVariables draft class = (names : List (List ℕ)) → AllPairs (λ a b. a ≢ b) names → AllByRecursion (KnowsVariable draft class) names → length names ≤ most_variables

-- a class of a machine that there is, with few variables
pub record ClassInRange (draft : Draft) (class : DraftClass) : Type 0 where
  pub machine : class.machine < length draft.machines
  pub vars : HasFewVariables draft class

-- a signal of at most 8 parameters, whose parent is one that there is (this profile's choice of the count)
pub record SignalInRange (draft : Draft) (signal : DraftSignal) : Type 0 where
  pub count : signal.count ≤ 8
  pub parent : IfSome signal.parent (λ g. g.0 < length draft.signals)

-- a draft whose places are in range and whose counts keep the limits (this profile's choice)
pub record IsInRange (draft : Draft) : Type 0 where
  pub signals : AllByRecursion (SignalInRange draft) draft.signals
  pub few_signals : length draft.signals ≤ 256
  pub machines : AllByRecursion (PartsInRange draft) draft.machines
  pub small : (m : ℕ) → m < length draft.machines → IsSmallMachine draft m
  pub classes : AllByRecursion (ClassInRange draft) draft.classes
  pub few_classes : length draft.classes ≤ 64
  pub objects : AllByRecursion (λ (o : DraftObject). o.class < length draft.classes) draft.objects
  pub few_objects : length draft.objects ≤ 64

-- ---- drafts without submachines

-- a vertex that is no submachine State and that a region or a State owns
pub record IsPlainVertex (vertex : PartVertex) : Type 0 where
  pub submachine : vertex.submachine ≡ None
  pub connections : vertex.connections ≡ []
  pub owner : vertex.owner ≢ Top

-- The end is a vertex.
abbrev pub IsVertexEnd : End → Type 0
IsVertexEnd (ends.Vertex ref) = Unit {0}
IsVertexEnd (ends.Connection of_state index) = ⊥

-- a draft that can be flattened: it has no submachine State, no connection, and no connection point of a machine (this profile's choice)
pub record IsPlainDraft (draft : Draft) : Type 0 where
  pub vertices : AllByRecursion (λ (p : DraftParts). AllByRecursion IsPlainVertex p.vertices) draft.machines
  pub ends : AllByRecursion (λ (p : DraftParts). AllByRecursion (λ (t : PartTransition). IsVertexEnd t.source × IsVertexEnd t.target) p.transitions) draft.machines
