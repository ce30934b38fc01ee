-- What leads through the slots of elements gives them numbers.
use Rattle.std.proofs.Common.{◌≡◌, ◌≤◌, List, [], ◌∷◌, ◌++◌, ℕ, length, inl, inr, refl, sym, subst, arith}
use Rattle.std.specs.List.{fold, flat_map}
use Rattle.pssm_model.specs.declared.ids.ActId.{ActId}
use Rattle.pssm_model.specs.declared.ids.GuardId.{GuardId}
use Rattle.pssm_model.specs.declared.elements.Vertex.{Vertex}
use Rattle.pssm_model.specs.declared.elements.Transition.{Transition}
use Rattle.pssm_model.specs.declared.elements.DraftMachine.{DraftMachine}
use Rattle.pssm_model.specs.declared.elements.Guard.{Guard}
use Rattle.pssm_model.specs.declared.elements.Guard.TheVariants.{Always, Otherwise, When}
use Rattle.pssm_model.specs.declared.draft_setting.Body.{Body}
use Rattle.pssm_model.specs.declared.draft_setting.FlatDraft.{FlatDraft}
use Rattle.pssm_semantics.specs.declared.tree.Act.{Act}
use Rattle.pssm_semantics.specs.declared.setting.Names.{Names}
use Rattle.pssm_semantics.specs.declared.setting.Program.{Program}
use Rattle.pssm_bodies.specs.declared.slot.Reading.TheVariants as readings
use Rattle.pssm_bodies.specs.declared.slot.Slot.{Slot}
use Rattle.pssm_bodies.specs.Slots.{slot, text_at, vertex_slots, guard_slots, transition_slots, machine_slots, HasEachOnce}
use Rattle.pssm_bodies.specs.Readings.{Said, Says, behaviour, guard', first_program, with_act, with_marks, with_said, number_of}
use Rattle.pssm_bodies.specs.Readings.{number_of_guard, Leads, KeepsLimits}
use Rattle.pssm_bodies.specs.Readings.{steps as says_steps}
use Rattle.pssm_bodies.specs.Programs.{NumbersAct, AreNumbered, NumbersSteps, without, NumbersGuard, always, otherwise, when, NumbersVertex}
use Rattle.pssm_bodies.specs.Programs.{NumbersTransition, AllNumbered, IsProgrammed}
use Rattle.pssm_bodies.specs.Programs.{steps as numbers_steps}
use Rattle.pssm_bodies.specs.inner.Through.{LeadsThrough, nowhere, along}
use Rattle.pssm_bodies.proofs.ActLaws.{step_slots}
use Rattle.pssm_bodies.proofs.SlotLaws.{Has}
use Rattle.pssm_bodies.proofs.Weights.{all_has}

-- Behaviours have numbers behind those of a program.
are_numbered : (before : Program) (acts : List Act) → (to : List ActId) × AreNumbered before acts to (fold with_act before acts)
are_numbered before [] = ([], refl)
are_numbered before (act ∷ acts) =
    let more = are_numbered (with_act before act) acts in
    (number_of before act ∷ more.0, (refl, more.1))

module _ (names : Names) (bodies : List Body) where
  -- What leads through slots and others behind them leads through the first to a program, and from there through the others.
  through_cut : (slots others : List Slot) (before behind : Program) → LeadsThrough names bodies (slots ++ others) before behind
      → (middle : Program) × LeadsThrough names bodies slots before middle × LeadsThrough names bodies others middle behind
  through_cut [] others before behind leads = (before, nowhere, leads)
  through_cut (place ∷ slots) others before behind (along next one more) =
      let cut = through_cut slots others next behind more in
      (cut.0, along next one cut.1, cut.2)

  -- ---- one body

  act_numbered : (before : Program) (from : ActId) (behind : Program) → Leads names (text_at bodies from.0) readings.Behaviour before behind
      → (to : ActId) × NumbersAct names bodies before from to behind
  act_numbered before from behind leads = go leads.said leads.noted leads.says leads.leads where
    go : (said : Said) (noted : List (List ℕ)) → Says names before.marks (text_at bodies from.0) readings.Behaviour said noted
        → behind ≡ with_said before said noted → (to : ActId) × NumbersAct names bodies before from to behind
    go said noted (behaviour {act} spelled) is =
        (number_of before act, record { act = act; noted = noted; spelled = spelled; number = refl; leads = is })

  step_numbered : (before : Program) (from : ActId) (behind : Program) → Leads names (text_at bodies from.0) readings.Steps before behind
      → (to : List ActId) × NumbersSteps names bodies before (from ∷ []) to behind
  step_numbered before from behind leads = go leads.said leads.noted leads.says leads.leads where
    go : (said : Said) (noted : List (List ℕ)) → Says names before.marks (text_at bodies from.0) readings.Steps said noted
        → behind ≡ with_said before said noted → (to : List ActId) × NumbersSteps names bodies before (from ∷ []) to behind
    go said noted (says_steps {acts} spelled) is =
        let to = are_numbered (with_marks before noted) acts in
        (to.0, numbers_steps acts noted spelled (subst (λ (b : Program). AreNumbered (with_marks before noted) acts to.0 b) (sym is) to.1))

  steps_numbered : (before : Program) (from : List ActId) (behind : Program) → length from ≤ 1 → LeadsThrough names bodies (step_slots from) before behind
      → (to : List ActId) × NumbersSteps names bodies before from to behind
  steps_numbered before [] behind one nowhere = ([], without)
  steps_numbered before (from ∷ []) behind one (along next leads nowhere) = step_numbered before from next leads
  steps_numbered before (from ∷ other ∷ more) behind one leads = absurd (omega (arith, one))

  when_numbered : (before : Program) (from : GuardId) (behind : Program) → Leads names (text_at bodies from.0) readings.Guard before behind
      → (to : Guard) × NumbersGuard names bodies before (When from) to behind
  when_numbered before from behind leads = go leads.said leads.noted leads.says leads.leads where
    go : (said : Said) (noted : List (List ℕ)) → Says names before.marks (text_at bodies from.0) readings.Guard said noted
        → behind ≡ with_said before said noted → (to : Guard) × NumbersGuard names bodies before (When from) to behind
    go said noted (guard' {cond} spelled) is = (When (number_of_guard before), when cond spelled refl is)

  guard_numbered : (before : Program) (from : Guard) (behind : Program) → LeadsThrough names bodies (guard_slots from) before behind
      → (to : Guard) × NumbersGuard names bodies before from to behind
  guard_numbered before Always behind nowhere = (Always, always)
  guard_numbered before Otherwise behind nowhere = (Otherwise, otherwise)
  guard_numbered before (When from) behind (along next leads nowhere) = when_numbered before from next leads

  -- ---- elements

  vertex_numbered : (before : Program) (from : Vertex) (behind : Program) → length from.steps ≤ 1 → LeadsThrough names bodies (vertex_slots from) before behind
      → (to : Vertex) × NumbersVertex names bodies before from to behind
  vertex_numbered before from behind one (along entered enters (along left leaves does)) =
      let entry = act_numbered before from.entry entered enters in
      let exit = act_numbered entered from.exit left leaves in
      let doing = steps_numbered left from.steps behind one does in (
        record { owner = from.owner; kind = from.kind; label = from.label; entry = entry.0; exit = exit.0; steps = doing.0; defers = from.defers },
        record {
          owner = refl;
          kind = refl;
          label = refl;
          defers = refl;
          entered = entered;
          left = left;
          entry = entry.1;
          exit = exit.1;
          doing = doing.1;
        },
      )

  transition_numbered : (before : Program) (from : Transition) (behind : Program) → LeadsThrough names bodies (transition_slots from) before behind
      → (to : Transition) × NumbersTransition names bodies before from to behind
  transition_numbered before from behind leads = go (through_cut (guard_slots from.guard) effect_slots before behind leads) where
    effect_slots : List Slot
    effect_slots = slot readings.Behaviour from.effect.0 ∷ []

    go : (middle : Program) × LeadsThrough names bodies (guard_slots from.guard) before middle × LeadsThrough names bodies effect_slots middle behind
        → (to : Transition) × NumbersTransition names bodies before from to behind
    go (middle, guards, along next effects nowhere) =
        let guard = guard_numbered before from.guard middle guards in
        let effect = act_numbered middle from.effect next effects in (
          record { source = from.source; target = from.target; kind = from.kind; triggers = from.triggers; guard = guard.0; effect = effect.0 },
          record { source = refl; target = refl; kind = refl; triggers = refl; guarded = middle; guard = guard.1; effect = effect.1 },
        )

  all_numbered : {E : Type 0} (Step : Program → E → E → Program → Type 0) (slots : E → List Slot) (Fits : E → Type 0)
      → ((before : Program) (from : E) (behind : Program) → Fits from → LeadsThrough names bodies (slots from) before behind
      → (to : E) × Step before from to behind)
      → (before : Program) (from : List E) (behind : Program) → ((x : E) → Has from x → Fits x) → LeadsThrough names bodies (flat_map slots from) before behind
      → (to : List E) × AllNumbered Step before from to behind
  all_numbered Step slots Fits each before [] behind fit nowhere = ([], refl)
  all_numbered Step slots Fits each before (x ∷ xs) behind fit leads =
      let cut = through_cut (slots x) (flat_map slots xs) before behind leads in
      let one = each before x cut.0 (fit x (inl refl)) cut.1 in
      let more = all_numbered Step slots Fits each cut.0 xs behind (λ y has. fit y (inr has)) cut.2 in
      (one.0 ∷ more.0, (cut.0, one.1, more.1))

-- ---- the class

module _ (names : Names) (flat : FlatDraft) (once : HasEachOnce flat) where
  vertices_numbered : (behind : Program) → LeadsThrough names flat.bodies (flat_map vertex_slots flat.machine.vertices) first_program behind
      → (to : List Vertex) × AllNumbered (NumbersVertex names flat.bodies) first_program flat.machine.vertices to behind
  vertices_numbered behind leads =
      all_numbered names flat.bodies (NumbersVertex names flat.bodies) vertex_slots (λ (v : Vertex). length v.steps ≤ 1)
      (vertex_numbered names flat.bodies) first_program flat.machine.vertices behind
      (λ v has. all_has (λ (v : Vertex). length v.steps ≤ 1) flat.machine.vertices v once.doing has) leads

  transitions_numbered : (before behind : Program) → LeadsThrough names flat.bodies (flat_map transition_slots flat.machine.transitions) before behind
      → (to : List Transition) × AllNumbered (NumbersTransition names flat.bodies) before flat.machine.transitions to behind
  transitions_numbered before behind leads =
      all_numbered names flat.bodies (NumbersTransition names flat.bodies) transition_slots (λ (t : Transition). Unit {0})
      (λ p from q fit through. transition_numbered names flat.bodies p from q through) before flat.machine.transitions behind (λ t has. tt) leads

  -- What leads through all slots of the machine programs the flat draft.
  pub programmed : (program : Program) → LeadsThrough names flat.bodies (machine_slots flat.machine) first_program program → KeepsLimits program
      → (machine : DraftMachine) × IsProgrammed names flat machine program
  programmed program leads keeps =
      let cut = through_cut names flat.bodies (flat_map vertex_slots flat.machine.vertices) (flat_map transition_slots flat.machine.transitions)
      first_program program leads in
      let vertices = vertices_numbered cut.0 cut.1 in
      let transitions = transitions_numbered cut.0 program cut.2 in (
        record { regions = flat.machine.regions; vertices = vertices.0; transitions = transitions.0 },
        record { regions = refl; middle = cut.0; vertices = vertices.1; transitions = transitions.1; limits = keeps },
      )
