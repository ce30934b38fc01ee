-- Where the bodies of a flat draft stand in its machine, and how each is read.
use Rattle.std.specs.Prelude.{◌≡◌, ◌≢◌, ◌≤◌, ℕ, ◌-◌, ◌==◌, Bool, not, List, [], ◌∷◌, ◌++◌, map, filter, find, length, Option, Some, slice_get, All, IsPermutation}
use Rattle.std.specs.List.{flat_map, range_with_len}
use Rattle.std.specs.Option.{option_map_or}
use Rattle.pssm_model.specs.declared.ids.ActId.{ActId}
use Rattle.pssm_model.specs.declared.elements.Vertex.{Vertex}
use Rattle.pssm_model.specs.declared.elements.Transition.{Transition}
use Rattle.pssm_model.specs.declared.elements.DraftMachine.{DraftMachine}
use Rattle.pssm_model.specs.declared.elements.Guard.{Guard}
use Rattle.pssm_model.specs.declared.elements.Guard.TheVariants.{Always, Otherwise, When}
use Rattle.pssm_model.specs.declared.draft_setting.Body.{Body}
use Rattle.pssm_model.specs.declared.draft_setting.FlatDraft.{FlatDraft}
use Rattle.pssm_bodies.specs.declared.slot.Reading.{Reading}
use Rattle.pssm_bodies.specs.declared.slot.Reading.TheVariants as readings
use Rattle.pssm_bodies.specs.declared.slot.Slot.{Slot}

-- ---- slots

-- a place of the machine that has the body of this number, read so
abbrev pub slot : Reading → ℕ → Slot
slot reading number = record { reading = reading; number = number }

-- entry, exit and the do-activity of a vertex, in this order (UML 2.5.1 14.5.9)
abbrev pub vertex_slots : Vertex → List Slot
vertex_slots v = slot readings.Behaviour v.entry.0 ∷ slot readings.Behaviour v.exit.0 ∷ map (λ (a : ActId). slot readings.Steps a.0) v.steps

-- the guard of a transition that has a text
abbrev pub guard_slots : Guard → List Slot
guard_slots Always = []
guard_slots Otherwise = []
guard_slots (When g) = slot readings.Guard g.0 ∷ []

-- guard and effect of a transition, in this order (UML 2.5.1 14.5.11)
abbrev pub transition_slots : Transition → List Slot
transition_slots t = guard_slots t.guard ++ slot readings.Behaviour t.effect.0 ∷ []

-- all of a machine, in the order of its flat text
abbrev pub machine_slots : DraftMachine → List Slot
machine_slots m = flat_map vertex_slots m.vertices ++ flat_map transition_slots m.transitions

-- ---- bodies

-- the text of the body with this number
abbrev pub text_at : List Body → ℕ → List ℕ
text_at bodies n = option_map_or (λ (b : Body). b.text) (slice_get bodies n) []

-- It is not the empty body, which has number 0 and stands wherever nothing is given.
abbrev pub is_given : ℕ → Bool
is_given n = not (n == 0)

-- the numbers of the bodies that a machine has, in the order of its flat text
abbrev pub given_numbers : DraftMachine → List ℕ
given_numbers m = filter is_given (map (λ (s : Slot). s.number) (machine_slots m))

-- Body 0 is the empty one, and each other body stands in the machine once; a guard that has a text has a body of its own, and a State has one
-- do-activity at most (UML 2.5.1 14.2.3.4.3).
pub record HasEachOnce (flat : FlatDraft) : Type 0 where
  pub empty : Body
  pub first : slice_get flat.bodies 0 ≡ Some empty
  pub no_text : empty.text ≡ []
  pub others : IsPermutation (given_numbers flat.machine) (range_with_len 1 (length flat.bodies - 1))
  pub guards : All (λ s. s.reading ≡ readings.Guard → s.number ≢ 0) (machine_slots flat.machine)
  pub doing : All (λ v. length v.steps ≤ 1) flat.machine.vertices

-- how a body is read: as the slot says in which it stands
abbrev pub slot_of : DraftMachine → ℕ → Option Slot
slot_of m n = find (λ (s : Slot). s.number == n) (machine_slots m)
