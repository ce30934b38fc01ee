-- Slots that are read one behind the other, in whatever order.
use Rattle.std.specs.Prelude.{◌≡◌, ℕ, suc, List, [], ◌∷◌, length}
use Rattle.std.specs.List.{flat_map}
use Rattle.pssm_model.specs.declared.elements.Vertex.{Vertex}
use Rattle.pssm_model.specs.declared.elements.Transition.{Transition}
use Rattle.pssm_model.specs.declared.draft_setting.Body.{Body}
use Rattle.pssm_model.specs.declared.draft_setting.FlatDraft.{FlatDraft}
use Rattle.pssm_semantics.specs.declared.setting.Names.{Names}
use Rattle.pssm_semantics.specs.declared.setting.Program.{Program}
use Rattle.pssm_acts.specs.declared.act_fault.ActFault.{ActFault}
use Rattle.pssm_bodies.specs.declared.elements.VertexActs.{VertexActs}
use Rattle.pssm_bodies.specs.declared.elements.TransitionActs.{TransitionActs}
use Rattle.pssm_bodies.specs.declared.slot.Slot.{Slot}
use Rattle.pssm_bodies.specs.Slots.{text_at, guard_slots, machine_slots}
use Rattle.pssm_bodies.specs.Readings.{Leads, first_program}
use Rattle.pssm_bodies.specs.Faults.{Fails, ReadsTo}
use Rattle.pssm_bodies.specs.Programs.{NumbersAct, NumbersSteps, NumbersGuard}

-- The bodies in the slots, read one behind the other, lead from one program to the other.
pub data LeadsThrough (names : Names) (bodies : List Body) : List Slot → Program → Program → Type 0 where
  nowhere : {before : Program} → LeadsThrough names bodies [] before before
  along : {place : Slot} {slots : List Slot} {before behind : Program} (next : Program) → Leads names (text_at bodies place.number) place.reading before next
      → LeadsThrough names bodies slots next behind → LeadsThrough names bodies (place ∷ slots) before behind

-- One of them fails behind those before it.
pub data StopsIn (names : Names) (bodies : List Body) : List Slot → Program → ActFault → Type 0 where
  here : {place : Slot} {slots : List Slot} {before : Program} {fault : ActFault} → Fails names (text_at bodies place.number) place.reading before fault
      → StopsIn names bodies (place ∷ slots) before fault
  later : {place : Slot} {slots : List Slot} {before : Program} {fault : ActFault} (next : Program) → Leads names (text_at bodies place.number) place.reading before next
      → StopsIn names bodies slots next fault → StopsIn names bodies (place ∷ slots) before fault

-- One of the bodies of the machine fails behind those before it, in the order of the flat text.
abbrev pub StopsInside : Names → FlatDraft → ActFault → Type 0
StopsInside names flat fault = StopsIn names flat.bodies (machine_slots flat.machine) first_program fault

-- All bodies have been read in the order of the file, and none has a fault.
pub record AreRead (names : Names) (flat : FlatDraft) : Type 0 where
  pub last : ℕ
  pub all : length flat.bodies ≡ suc last
  pub behind : Program
  pub read : ReadsTo names flat last behind

-- how many guards have a text
abbrev pub guards_count : List Transition → ℕ
guards_count transitions = length (flat_map (λ (t : Transition). guard_slots t.guard) transitions)

-- These are the numbers of a vertex's behaviours.
pub record HasActs (names : Names) (bodies : List Body) (before : Program) (from : Vertex) (acts : VertexActs) (behind : Program) : Type 0 where
  pub entered : Program
  pub left : Program
  pub entry : NumbersAct names bodies before from.entry acts.entry entered
  pub exit : NumbersAct names bodies entered from.exit acts.exit left
  pub doing : NumbersSteps names bodies left from.steps acts.steps.items behind

-- These are the numbers of a transition's guard and effect.
pub record HasGuard (names : Names) (bodies : List Body) (before : Program) (from : Transition) (acts : TransitionActs) (behind : Program) : Type 0 where
  pub guarded : Program
  pub guard : NumbersGuard names bodies before from.guard acts.guard guarded
  pub effect : NumbersAct names bodies guarded from.effect acts.effect behind
