-- The slots of a machine, those of its vertices before those of its transitions.
use Rattle.std.proofs.Common.{◌≡◌, ◌≤◌, ◌+◌, List, length, refl, ap, subst, arith}
use Rattle.std.specs.List.{flat_map}
use Rattle.pssm_model.specs.declared.elements.Vertex.{Vertex}
use Rattle.pssm_model.specs.declared.elements.Transition.{Transition}
use Rattle.pssm_model.specs.declared.draft_setting.Body.{Body}
use Rattle.pssm_model.specs.declared.draft_setting.FlatDraft.{FlatDraft}
use Rattle.pssm_semantics.specs.declared.setting.Names.{Names}
use Rattle.pssm_semantics.specs.declared.setting.Program.{Program}
use Rattle.pssm_acts.specs.declared.act_fault.ActFault.{ActFault}
use Rattle.pssm_acts.specs.declared.act_fault.ActFault.TheVariants.{Syntax, UnknownName, WideNumber, Arity, TooLong, NoMemory}
use Rattle.pssm_acts.specs.Answers.{Faults}
use Rattle.pssm_bodies.specs.Slots.{vertex_slots, transition_slots}
use Rattle.pssm_bodies.specs.Readings.{first_program}
use Rattle.pssm_bodies.specs.Programs.{NumbersVertex, AllNumbered}
use Rattle.pssm_bodies.specs.inner.Through.{StopsIn, StopsInside, guards_count}
use Rattle.pssm_bodies.proofs.ThroughLaws.{faults_so, stops_before, stops_behind, all_lead, vertex_leads}
use Rattle.pssm_bodies.proofs.GuardCounts.{vertices_guards}

-- What is known of three things is known of those that they are.
of_these : {X Y Z : Type 0} (P : X → Y → Z → Type 0) (x x' : X) (y y' : Y) (z z' : Z) → x ≡ x' → y ≡ y' → z ≡ z' → P x y z → P x' y' z'
of_these P x x' y y' z z' e f g h = subst (λ c. P x' y' c) g (subst (λ b. P x' b z) f (subst (λ a. P a y z) e h))

module _ (names : Names) (flat : FlatDraft) (bodies : List Body) (is : bodies ≡ flat.bodies) where
  module _ (vertices : List Vertex) (vertices_are : vertices ≡ flat.machine.vertices) (first : Program) (first_is : first ≡ first_program) where
    -- Where a vertex stops the reading, the machine does.
    pub vertex_stops : (fault : ActFault) → Faults (StopsIn names bodies (flat_map vertex_slots vertices) first) fault → Faults (StopsInside names flat) fault
    vertex_stops fault h =
        faults_so {P = StopsIn names flat.bodies (flat_map vertex_slots flat.machine.vertices) first_program} {Q = StopsInside names flat}
        (λ f s. stops_before names flat.bodies (flat_map transition_slots flat.machine.transitions) s) fault
        (of_these (λ bs vs p. Faults (StopsIn names bs (flat_map vertex_slots vs) p) fault) bodies flat.bodies vertices
        flat.machine.vertices first first_program is vertices_are first_is h)

    module _ (to : List Vertex) (middle : Program) (numbers : AllNumbered (NumbersVertex names bodies) first vertices to middle) where
      numbers' : AllNumbered (NumbersVertex names flat.bodies) first_program flat.machine.vertices to middle
      numbers' =
          of_these (λ bs vs p. AllNumbered (NumbersVertex names bs) p vs to middle) bodies flat.bodies vertices flat.machine.vertices
          first first_program is vertices_are first_is numbers

      module _ (transitions : List Transition) (transitions_are : transitions ≡ flat.machine.transitions) where
        -- So it is where a transition does, behind the vertices.
        pub transition_stops : (fault : ActFault) → Faults (StopsIn names bodies (flat_map transition_slots transitions) middle) fault
            → Faults (StopsInside names flat) fault
        transition_stops fault h =
            faults_so {P = StopsIn names flat.bodies (flat_map transition_slots flat.machine.transitions) middle} {Q = StopsInside names flat}
            (λ f s. stops_behind names flat.bodies
            (all_lead names flat.bodies (NumbersVertex names flat.bodies) vertex_slots
            (vertex_leads names flat.bodies) first_program flat.machine.vertices to middle numbers') s) fault
            (subst (λ ts. Faults (StopsIn names flat.bodies (flat_map transition_slots ts) middle) fault) transitions_are
            (subst (λ bs. Faults (StopsIn names bs (flat_map transition_slots transitions) middle) fault) is h))

        -- Behind the vertices there is room for the guards of all transitions.
        pub guards_room : guards_count flat.machine.transitions ≤ 65535 → length middle.guards + guards_count transitions ≤ 65535
        guards_room few =
            omega (
              arith,
              few,
              ap guards_count transitions_are,
              ap length (vertices_guards names flat.bodies first_program flat.machine.vertices to middle numbers'),
            )

-- A fault that is due where none is possible is that memory ran out.
pub memory_alone : (P : ActFault → Type 0) → ((f : ActFault) → P f → ⊥) → (fault : ActFault) → Faults P fault → fault ≡ NoMemory
memory_alone P never NoMemory h = refl
memory_alone P never (Syntax at) h = absurd (never (Syntax at) h)
memory_alone P never (UnknownName at) h = absurd (never (UnknownName at) h)
memory_alone P never (WideNumber at) h = absurd (never (WideNumber at) h)
memory_alone P never (Arity at) h = absurd (never (Arity at) h)
memory_alone P never (TooLong at) h = absurd (never (TooLong at) h)
