-- There are no more guards than bodies.
use Rattle.std.proofs.Common.{◌≡◌, ◌≤◌, ◌+◌, ◌-◌, ◌==◌, inl, inr, ℕ, Bool, true, false, not, cond, List, [], ◌∷◌, ◌++◌, length, refl, arith, length-append}
use Rattle.std.specs.List.{flat_map, range_with_len}
use Rattle.std.proofs.lemmas.Bool.{eqb-true}
use Rattle.std.proofs.lemmas.List.Sorted.{length_permutation}
use Rattle.std.proofs.lemmas.List.FromFn.{length-range_with_len}
use Rattle.pssm_model.specs.declared.elements.Transition.{Transition}
use Rattle.pssm_model.specs.declared.elements.Guard.{Guard}
use Rattle.pssm_model.specs.declared.elements.Guard.TheVariants.{Always, Otherwise, When}
use Rattle.pssm_model.specs.declared.draft_setting.FlatDraft.{FlatDraft}
use Rattle.pssm_bodies.specs.declared.slot.Reading.{Reading}
use Rattle.pssm_bodies.specs.declared.slot.Reading.TheVariants as readings
use Rattle.pssm_bodies.specs.declared.slot.Slot.{Slot}
use Rattle.pssm_bodies.specs.Slots.{slot, guard_slots, transition_slots, vertex_slots, machine_slots, given_numbers, HasEachOnce}
use Rattle.pssm_bodies.specs.inner.Through.{guards_count}
use Rattle.pssm_bodies.proofs.SlotLaws.{Has, numbers_in}
use Rattle.pssm_bodies.proofs.Weights.{all_has}

abbrev guard_count : Reading → ℕ
guard_count readings.Behaviour = 0
guard_count readings.Steps = 0
guard_count readings.Guard = 1

-- how many of the slots are those of guards
abbrev guards_in : List Slot → ℕ
guards_in [] = 0
guards_in (s ∷ slots) = guard_count s.reading + guards_in slots

guards_append : (xs ys : List Slot) → guards_in (xs ++ ys) ≡ guards_in xs + guards_in ys
guards_append [] ys = omega arith
guards_append (x ∷ xs) ys = omega (arith, guards_append xs ys)

of_guard : (g : Guard) → guards_in (guard_slots g) ≡ length (guard_slots g)
of_guard Always = refl
of_guard Otherwise = refl
of_guard (When g) = refl

of_transitions : (ts : List Transition) → guards_in (flat_map transition_slots ts) ≡ guards_count ts
of_transitions [] = refl
of_transitions (t ∷ ts) =
    omega (
      arith,
      guards_append (transition_slots t) (flat_map transition_slots ts),
      guards_append (guard_slots t.guard) (slot readings.Behaviour t.effect.0 ∷ []),
      of_guard t.guard,
      of_transitions ts,
      length-append (guard_slots t.guard) (flat_map (λ (u : Transition). guard_slots u.guard) ts),
    )

within_numbers : (slots : List Slot) → ((s : Slot) → Has slots s → s.reading ≡ readings.Guard → s.number ≡ 0 → ⊥) → guards_in slots ≤ length (numbers_in slots)
within_numbers [] some = omega arith
within_numbers (s ∷ slots) some = go (s.number == 0) refl s.reading refl (within_numbers slots (λ x h. some x (inr h))) where
  go : (t : Bool) → (s.number == 0) ≡ t → (r : Reading) → s.reading ≡ r → guards_in slots ≤ length (numbers_in slots)
      → guard_count r + guards_in slots ≤ length (cond (not t) (s.number ∷ numbers_in slots) (numbers_in slots))
  go true e readings.Guard is rest = absurd (some s (inl refl) is (eqb-true s.number 0 e))
  go true e readings.Behaviour is rest = omega (arith, rest)
  go true e readings.Steps is rest = omega (arith, rest)
  go false e readings.Guard is rest = omega (arith, rest)
  go false e readings.Behaviour is rest = omega (arith, rest)
  go false e readings.Steps is rest = omega (arith, rest)

-- Every guard has a number.
pub guards_fit : (flat : FlatDraft) → HasEachOnce flat → length flat.bodies ≤ 65536 → guards_count flat.machine.transitions ≤ 65535
guards_fit flat once few =
    let vertices : List Slot = flat_map vertex_slots flat.machine.vertices in
    let transitions : List Slot = flat_map transition_slots flat.machine.transitions in
    let within = within_numbers (machine_slots flat.machine)
    (λ s h. all_has (λ (x : Slot). x.reading ≡ readings.Guard → x.number ≡ 0 → ⊥) (machine_slots flat.machine) s once.guards h) in
    omega (
      arith,
      within,
      guards_append vertices transitions,
      of_transitions flat.machine.transitions,
      length_permutation (given_numbers flat.machine) (range_with_len 1 (length flat.bodies - 1)) once.others,
      length-range_with_len 1 (length flat.bodies - 1),
      few,
    )
