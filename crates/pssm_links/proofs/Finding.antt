-- The slots of a list, as they are found along the links.
use Rattle.std.proofs.Common.{◌≡◌, ◌≤◌, ◌<◌, ◌+◌, ◌^◌, ℕ, List, length, get_or, Option, Some, None, option_map, slice_get, IfSome, unwrap_or, refl, sym, ap, subst, ◌∙◌, ⊎_elim, arith}
use Rattle.std.proofs.lemmas.Bool.{cases_lt}
use Rattle.std.proofs.lemmas.Bool.Decides.{eqb_tells}
use Rattle.std.proofs.lemmas.List.{length-map}
use Rattle.std.proofs.lemmas.Option.{slice_get-map}
use Rattle.pssm_links.specs.declared.slot.SlotId.{SlotId}
use Rattle.pssm_links.specs.declared.links.Slot.{Slot}
use Rattle.pssm_links.specs.Chained.{Linked, Chained, list_of, HaveOwnSlots, IsSlotAt, slot_at, value_at}
use Rattle.pssm_links.specs.inner.Rings.{row_of, slots_of, lists_from, AreRings, Hold}
use Rattle.pssm_links.proofs.Meeting.{row-length}
use Rattle.pssm_links.proofs.Counting.{count-at, one-place, row-le, two-rows}
use Rattle.pssm_links.proofs.Writing.{read-at}
use Rattle.pssm_links.proofs.Paths.{path-first, path-next}
use Rattle.pssm_links.proofs.Turning.{no-end}
use Rattle.pssm_links.proofs.Holding.{no-list, list-within, place-of, opened, end-there, next-read}
use Rattle.pssm_links.proofs.Leaving.{slot-there, take-is}

-- the slots of a list are no ends, and the next is read off the links
module _ {T : Type 0} where
  read-option : (o : Option (Linked T)) (l most next : ℕ) (found : Option SlotId) → next ≡ unwrap_or (option_map (λ e. e.slot.0) o) l → l ≤ most
      → IfSome o (λ e. most < e.slot.0) → (next ≤ most → found ≡ None) → (most < next → found ≡ Some (record { 0 = next })) → found ≡ option_map (λ e. e.slot) o
  read-option None l most next found is le far end slot = end (omega (arith, is, le))
  read-option (Some e) l most next found is le far end slot =
      let lt : most < next = omega (arith, is, far) in
      slot lt ∙ ap (λ k. let s : SlotId = record { 0 = k } in Some s) is

  far-option : (slots : List (Slot T)) (rows : List (List ℕ)) (most l j : ℕ) (o : Option (Linked T)) → AreRings slots rows → length rows ≡ most + 1
      → l < length rows → slice_get (row_of rows l) j ≡ option_map (λ e. e.slot.0) o → IfSome o (λ e. most < e.slot.0)
  far-option slots rows most l j None rings count lt at = tt
  far-option slots rows most l j (Some e) rings count lt at =
      ⊎_elim
      (λ far. far)
      (λ le. absurd (no-end slots rows e.slot.0 l j e.slot.0 rings lt at (omega (arith, le, count)) refl))
      (cases_lt most e.slot.0)

  row-at : (slots : List (Slot T)) (lists : List (List (Linked T))) (unused l j : ℕ) → (hold : Hold slots lists unused) → l < length lists
      → slice_get (row_of hold.rows l) j ≡ option_map (λ e. e.slot.0) (slice_get (list_of lists l) j)
  row-at slots lists unused l j hold lt =
      ap (λ row. slice_get row j) (hold.same l lt) ∙ slice_get-map (λ (e : Linked T). e.slot.0) (list_of lists l) j

  slot-found : (slots : List (Slot T)) (lists : List (List (Linked T))) (unused l j next : ℕ) (found : Option SlotId)
      → (hold : Hold slots lists unused) → l < length lists
      → next ≡ unwrap_or (slice_get (row_of hold.rows l) j) l → (next ≤ length lists → found ≡ None)
      → (length lists < next → found ≡ Some (record { 0 = next })) → found ≡ slot_at lists l j
  slot-found slots lists unused l j next found hold lt is end slot =
      let count = hold.count in
      let at = row-at slots lists unused l j hold lt in
      read-option (slice_get (list_of lists l) j) l (length lists) next found (is ∙ ap (λ o. unwrap_or o l) at) (omega (arith, lt))
      (far-option slots hold.rows (length lists) l j (slice_get (list_of lists l) j) hold.rings count (omega (arith, lt, count)) at) end slot

  -- the first slot of a list, and the one after a slot
  pub first-found : (slots : List (Slot T)) (n spare total : ℕ) (value : Chained T) → record { lists = lists_from slots 0 n; spare = total } ≡ value
      → Hold slots (lists_from slots 0 n) spare × (n ≡ length (lists_from slots 0 n)) → (l : ℕ) (x : Slot T) (found : Option SlotId) → l < length value.lists
      → x ≡ get_or slots l x → (x.next ≤ length value.lists → found ≡ None) → (length value.lists < x.next → found ≡ Some (record { 0 = x.next }))
      → found ≡ slot_at value.lists l 0
  first-found slots n spare total value is keeps l x found lt reads end slot =
      let hold = (opened slots n spare total value is keeps).0 in
      let count = hold.count in
      let there = end-there slots value.lists spare l hold (omega (arith, lt)) in
      slot-found slots value.lists spare l 0 x.next found hold lt
      (sym (next-read slots l x there reads) ∙ path-first slots l (row_of hold.rows l) l (hold.rings.rings l (omega (arith, lt, count)))) end slot

  pub next-found : (slots : List (Slot T)) (n spare total : ℕ) (value : Chained T) → record { lists = lists_from slots 0 n; spare = total } ≡ value
      → Hold slots (lists_from slots 0 n) spare × (n ≡ length (lists_from slots 0 n)) → (at : SlotId) (x : Slot T) (found : Option SlotId)
      → x ≡ get_or slots at.0 x → (x.next ≤ length value.lists → found ≡ None) → (length value.lists < x.next → found ≡ Some (record { 0 = x.next }))
      → (l i : ℕ) → IsSlotAt value.lists at l i → found ≡ slot_at value.lists l (i + 1)
  next-found slots n spare total value is keeps at x found reads end slot l i stands =
      let hold = (opened slots n spare total value is keeps).0 in
      let count = hold.count in
      let lt = list-within value.lists at l i stands in
      let there = slot-there slots n spare total value is keeps slots refl at l i stands in
      slot-found slots value.lists spare l (i + 1) x.next found hold lt
      (sym (next-read slots at.0 x there reads)
      ∙ path-next slots l (row_of hold.rows l) l i at.0 (hold.rings.rings l (omega (arith, lt, count))) (place-of slots value.lists spare at l i hold stands))
      end slot

  -- the value that stands in a slot, as it is read
  pub value-found : (slots : List (Slot T)) (n spare total : ℕ) (value : Chained T) → record { lists = lists_from slots 0 n; spare = total } ≡ value
      → Hold slots (lists_from slots 0 n) spare × (n ≡ length (lists_from slots 0 n)) → (at : SlotId) (x : Slot T)
      → x ≡ get_or slots at.0 x → (l i : ℕ) → IsSlotAt value.lists at l i → x.value ≡ value_at value.lists l i
  value-found slots n spare total value is keeps at x reads l i stands =
      let there = slot-there slots n spare total value is keeps slots refl at l i stands in
      ap (λ (s : Slot T). s.value) reads ∙ sym (read-at (λ s. s.value) None slots at.0 x there)
      ∙ take-is slots n spare total value is keeps slots refl at l i stands

-- no two values stand in the same slot
module _ {T : Type 0} where
  pub own-slots : (slots : List (Slot T)) (n spare total : ℕ) (value : Chained T) → record { lists = lists_from slots 0 n; spare = total } ≡ value
      → Hold slots (lists_from slots 0 n) spare × (n ≡ length (lists_from slots 0 n)) → HaveOwnSlots value.lists
  own-slots slots n spare total value is keeps slot l m k j one other =
      let hold = (opened slots n spare total value is keeps).0 in
      let count = hold.count in
      let once = hold.rings.once slot.0 in
      let first = list-within value.lists slot l k one in
      let second = list-within value.lists slot m j other in
      let here = place-of slots value.lists spare slot l k hold one in
      let there = place-of slots value.lists spare slot m j hold other in
      let row = row-le slot.0 hold.rows l (omega (arith, first, count)) in
      ⊎_elim
      (λ same.
      let moved-there = subst (λ z. slice_get (row_of hold.rows z) j ≡ Some slot.0) same.1 there in
      (sym same.1, one-place slot.0 (row_of hold.rows l) k j (omega (arith, row, once)) here moved-there))
      (λ off.
      let two = two-rows slot.0 hold.rows l m (omega (arith, first, count)) (omega (arith, second, count)) off.1 in
      let at-one = count-at slot.0 (row_of hold.rows l) k here in
      let at-two = count-at slot.0 (row_of hold.rows m) j there in
      absurd (omega (arith, two, at-one, at-two, once)))
      (eqb_tells m l)

  pub short-list : (slots : List (Slot T)) (n spare total : ℕ) (value : Chained T) → record { lists = lists_from slots 0 n; spare = total } ≡ value
      → Hold slots (lists_from slots 0 n) spare × (n ≡ length (lists_from slots 0 n)) → (l : ℕ) → length (list_of value.lists l) < 2 ^ 32
  short-list slots n spare total value is keeps l =
      let hold = (opened slots n spare total value is keeps).0 in
      ⊎_elim
      (λ lt.
      let count = hold.count in
      let size = hold.rings.size in
      let few = hold.rings.few in
      let longest = row-length hold.rows l (omega (arith, lt, count)) in
      let same : length (row_of hold.rows l) ≡ length (slots_of (list_of value.lists l)) = ap length (hold.same l lt) in
      omega (arith, size, few, longest, same, count, length-map (list_of value.lists l) (λ (e : Linked T). e.slot.0)))
      (λ le. let none : length (list_of value.lists l) ≡ 0 = ap length (no-list value.lists l le) in omega (arith, none))
      (cases_lt l (length value.lists))
