-- Several lists in one array of slots: which values each holds, in which slots, and how a value comes and is taken out.
use Rattle.std.specs.Prelude.{◌≡◌, ◌++◌, ℕ, List, [], ◌∷◌, length, Option, Some, option_map, slice_get, slice_set, refl}
use Rattle.std.specs.List.{remove, slice_index_or, sum_by}
use Rattle.std.specs.Coded.{Coded, code_by, coded×, coded_ℕ, coded_list}
use Rattle.pssm_links.specs.declared.slot.SlotId.{SlotId}

-- a value, and the slot that it stands in
pub record Linked (T : Type 0) : Type 0 where
  pub slot : SlotId
  pub value : T

-- the lists, and how many more values can come without memory being taken
pub record Chained (T : Type 0) : Type 0 where
  pub lists : List (List (Linked T))
  pub spare : ℕ

-- a value with its slot is stored as the pair of both
abbrev pub linked_code : {T : Type 0} → Coded T → Coded (Linked T)
linked_code {T} code =
    code_by (ℕ × T) (coded× coded_ℕ code) (λ e. (e.slot.0, e.value)) (λ p. record { slot = record { 0 = p.0 }; value = p.1 }) (λ _. refl)

-- the lists are stored with the number that can come
abbrev pub chained_code : {T : Type 0} → Coded T → Coded (Chained T)
chained_code {T} code =
    code_by
    (List (List (Linked T)) × ℕ)
    (coded× (coded_list (coded_list (linked_code code))) coded_ℕ)
    (λ c. (c.lists, c.spare))
    (λ p. record { lists = p.0; spare = p.1 })
    (λ _. refl)

module _ {T : Type 0} where
  -- a list; empty for one that there is not
  abbrev pub list_of : List (List (Linked T)) → ℕ → List (Linked T)
  list_of lists l = slice_index_or lists l []

  -- how many values all lists hold together
  abbrev pub held_in : List (List (Linked T)) → ℕ
  held_in lists = sum_by length lists

  -- the slot at a place of a list, and the value that stands in it; nothing past the end
  abbrev pub slot_at : List (List (Linked T)) → ℕ → ℕ → Option SlotId
  slot_at lists l k = option_map (λ e. e.slot) (slice_get (list_of lists l) k)

  abbrev pub value_at : List (List (Linked T)) → ℕ → ℕ → Option T
  value_at lists l k = option_map (λ e. e.value) (slice_get (list_of lists l) k)

  -- The slot is the one at this place of this list.
  abbrev pub IsSlotAt : List (List (Linked T)) → SlotId → ℕ → ℕ → Type 0
  IsSlotAt lists slot l k = slot_at lists l k ≡ Some slot

  -- A value stands in the slot.
  abbrev pub IsSlot : List (List (Linked T)) → SlotId → Type 0
  IsSlot lists slot = (l : ℕ) × (k : ℕ) × IsSlotAt lists slot l k

  -- No two values stand in the same slot.
  abbrev pub HaveOwnSlots : List (List (Linked T)) → Type 0
  HaveOwnSlots lists = (slot : SlotId) (l m k j : ℕ) → IsSlotAt lists slot l k → IsSlotAt lists slot m j → (l ≡ m) × (k ≡ j)

  -- the lists once a value has come as the last of one of them
  abbrev pub with_pushed : List (List (Linked T)) → ℕ → SlotId → T → List (List (Linked T))
  with_pushed lists l slot value = slice_set lists l (list_of lists l ++ record { slot = slot; value = value } ∷ [])

  -- the lists once the value at a place of one of them has been taken out
  abbrev pub without : List (List (Linked T)) → ℕ → ℕ → List (List (Linked T))
  without lists l k = slice_set lists l (remove (list_of lists l) k)
