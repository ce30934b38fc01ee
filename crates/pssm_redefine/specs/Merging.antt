-- The elements of a flattened machine, each put together from its forms.
use Rattle.std.specs.Prelude.{◌≡◌, ◌<◌, ◌↔◌, ℕ, ◌+◌, ◌*◌, ◌==◌, List, [], ◌∷◌, ◌++◌, length, AllPairs, Contains, Option, Some, None, unwrap_or, option_and_then, slice_get, if◌then◌else◌}
use Rattle.std.specs.List.{flat_map}
use Rattle.std.specs.Option.{option_map_or}
use Rattle.pssm_model.specs.declared.ids.SignalId.{SignalId}
use Rattle.pssm_model.specs.declared.ids.ActId.{ActId}
use Rattle.pssm_model.specs.declared.elements.Owner.{Owner}
use Rattle.pssm_model.specs.declared.elements.Vertex.{Vertex}
use Rattle.pssm_model.specs.declared.elements.VertexKind.{VertexKind}
use Rattle.pssm_model.specs.declared.elements.VertexKind.TheVariants as kinds
use Rattle.pssm_model.specs.declared.elements.Transition.{Transition}
use Rattle.pssm_model.specs.declared.elements.TransKind.TheVariants.{External}
use Rattle.pssm_model.specs.declared.elements.DraftMachine.{DraftMachine}
use Rattle.pssm_model.specs.declared.elements.Guard.{Guard}
use Rattle.pssm_model.specs.declared.elements.Guard.TheVariants.{Always, Otherwise, When}
use Rattle.pssm_model.specs.declared.draft_setting.ElementRef.{ElementRef}
use Rattle.pssm_model.specs.declared.draft_setting.Draft.{Draft}
use Rattle.pssm_model.specs.declared.draft_setting.DraftClass.{DraftClass}
use Rattle.pssm_model.specs.declared.draft_setting.FlatDraft.{FlatDraft}
use Rattle.pssm_model.specs.declared.draft_setting.PartVertex.{PartVertex}
use Rattle.pssm_model.specs.declared.draft_setting.PartTransition.{PartTransition}
use Rattle.pssm_model.specs.declared.draft_setting.PartGuard.{PartGuard}
use Rattle.pssm_model.specs.declared.draft_setting.PartGuard.TheVariants as guards
use Rattle.pssm_model.specs.declared.draft_setting.Body.{Body}
use Rattle.pssm_model.specs.DraftSettings.{vertex_of, transition_of}
use Rattle.pssm_redefine.specs.declared.bodies.Place.{Place}
use Rattle.pssm_redefine.specs.declared.parts.Ends.{Ends}
use Rattle.pssm_redefine.specs.declared.parts.Gathered.{Gathered}
use Rattle.pssm_redefine.specs.Variables.{class_variables}
use Rattle.pssm_redefine.specs.Forms.{last_given, given_label, given_entry, given_exit, given_steps, deferred, given_kind, given_guard, guard_text, given_effect}
use Rattle.pssm_redefine.specs.Bodies.{IsOrder, AreBodies, number_from}

-- ---- vertices

-- the kind of the first form; where there is none that of a State, which never comes, since each element has its first form
abbrev pub first_kind : Draft → List ElementRef → VertexKind
first_kind draft forms = option_map_or (λ (v : PartVertex). v.kind) (option_and_then (vertex_of draft) (slice_get forms 0)) kinds.State

-- the behaviour with this number
abbrev pub act : ℕ → ActId
act n = record { 0 = n }

-- the one step that has the text of all steps, where there is a do-activity
abbrev pub steps_numbered : ℕ → List ActId
steps_numbered n = if n == 0 then [] else act n ∷ []

-- the signals of the first list, ascending and each once
pub record AreUnited (all united : List SignalId) : Type 0 where
  pub same : (g : SignalId) → Contains united g ↔ Contains all g
  pub ascending : AllPairs (λ (g h : SignalId). g.0 < h.0) united

-- A vertex keeps the owner and the kind of its first form; label and behaviours are those of the last form that gives them, and deferrable triggers are united
-- (UML 2.5.1 14.3.3). The owner and the numbers of its behaviours stand before.
pub record IsMergedVertex (draft : Draft) (owner : Owner) (entry exit steps : ℕ) (forms : List ElementRef) (vertex : Vertex) : Type 0 where
  pub owned : vertex.owner ≡ owner
  pub kind : vertex.kind ≡ first_kind draft forms
  pub label : vertex.label ≡ unwrap_or (last_given (given_label draft) forms) []
  pub on_entry : vertex.entry ≡ act entry
  pub on_exit : vertex.exit ≡ act exit
  pub doing : vertex.steps ≡ steps_numbered steps
  pub defers : AreUnited (flat_map (deferred draft) forms) vertex.defers

-- the slots of a vertex: entry, exit and do-activity
abbrev pub vertex_slots : Draft → List ElementRef → List (Option Body)
vertex_slots draft forms = last_given (given_entry draft) forms ∷ last_given (given_exit draft) forms ∷ last_given (given_steps draft) forms ∷ []

-- ---- transitions

-- the triggers of the first form
abbrev pub first_triggers : Draft → List ElementRef → List SignalId
first_triggers draft forms = option_map_or (λ (t : PartTransition). t.triggers) (option_and_then (transition_of draft) (slice_get forms 0)) []

-- the guard, the text of which has this number
abbrev pub guard_numbered : Option PartGuard → ℕ → Guard
guard_numbered None n = Always
guard_numbered (Some guards.Missing) n = Always
guard_numbered (Some guards.Otherwise) n = Otherwise
guard_numbered (Some (guards.Given body)) n = When (record { 0 = n })

-- A transition keeps source and triggers of its first form and has the target of its last one; kind, guard and effect are those of the last form that gives them
-- (UML 2.5.1 14.3.3), and external is the kind that none gives (UML 2.5.1 14.5.12). The ends and the numbers of its bodies stand before.
pub record IsMergedTransition (draft : Draft) (ends : Ends) (guard effect : ℕ) (forms : List ElementRef) (transition : Transition) : Type 0 where
  pub source : transition.source ≡ ends.source
  pub target : transition.target ≡ ends.target
  pub kind : transition.kind ≡ unwrap_or (last_given (given_kind draft) forms) External
  pub triggers : transition.triggers ≡ first_triggers draft forms
  pub when : transition.guard ≡ guard_numbered (last_given (given_guard draft) forms) guard
  pub doing : transition.effect ≡ act effect

-- the slots of a transition: guard and effect
abbrev pub transition_slots : Draft → List ElementRef → List (Option Body)
transition_slots draft forms = option_and_then guard_text (last_given (given_guard draft) forms) ∷ last_given (given_effect draft) forms ∷ []

-- ---- the machine

-- the slots of all vertices and then of all transitions
abbrev pub slots_of : Draft → List (List ElementRef) → List (List ElementRef) → List (Option Body)
slots_of draft vertices transitions = flat_map (vertex_slots draft) vertices ++ flat_map (transition_slots draft) transitions

-- the vertices, each with its owner; `number` gives the number of a slot
pub record AreMergedVertices (draft : Draft) (number : ℕ → ℕ) (owners : List Owner) (forms : List (List ElementRef)) (vertices : List Vertex) : Type 0 where
  pub all : length vertices ≡ length forms
  pub each : (k : ℕ) (owner : Owner) (of : List ElementRef) (vertex : Vertex) → slice_get owners k ≡ Some owner → slice_get forms k ≡ Some of
      → slice_get vertices k ≡ Some vertex → IsMergedVertex draft owner (number (3 * k)) (number (3 * k + 1)) (number (3 * k + 2)) of vertex

-- the transitions, each with its ends; their slots begin at `base`
pub record AreMergedTransitions (draft : Draft) (number : ℕ → ℕ) (base : ℕ) (ends : List Ends) (forms : List (List ElementRef)) (transitions : List Transition) : Type 0 where
  pub all : length transitions ≡ length forms
  pub each : (k : ℕ) (end : Ends) (of : List ElementRef) (transition : Transition) → slice_get ends k ≡ Some end → slice_get forms k ≡ Some of
      → slice_get transitions k ≡ Some transition → IsMergedTransition draft end (number (base + 2 * k)) (number (base + 2 * k + 1)) of transition

-- the machine; `number` gives the number of a slot, and the slots of the transitions follow those of the vertices
pub record IsMergedMachine (draft : Draft) (number : ℕ → ℕ) (from : Gathered) (machine : DraftMachine) : Type 0 where
  pub regions : machine.regions ≡ from.regions
  pub vertices : AreMergedVertices draft number from.owners from.vertices machine.vertices
  pub transitions : AreMergedTransitions draft number (3 * length from.vertices) from.ends from.transitions machine.transitions

-- The flat draft of a class, put together from what is gathered: the machines, and of each element its forms and where it stands.
pub record IsMerged (draft : Draft) (class : DraftClass) (from : Gathered) (flat : FlatDraft) : Type 0 where
  pub order : List Place
  pub ordered : IsOrder (slots_of draft from.vertices from.transitions) order
  pub vars : flat.vars ≡ class_variables draft from.machines class
  pub machine : IsMergedMachine draft (number_from 1 order) from flat.machine
  pub bodies : AreBodies (slots_of draft from.vertices from.transitions) order flat.bodies
