-- A value leaves its list.
use Rattle.std.proofs.Common.{◌≡◌, ◌≢◌, ◌<◌, ◌+◌, ◌++◌, ℕ, List, [], ◌∷◌, length, None, take, drop, IsSome, sym, ap, subst, ◌∙◌, ⊎_elim, length-append, arith}
use Rattle.std.specs.List.{remove}
use Rattle.std.proofs.lemmas.Bool.Decides.{eqb_tells}
use Rattle.std.proofs.lemmas.List.{get_or-set_other, get_or-set_same, length-set}
use Rattle.pssm_links.specs.declared.slot.SlotId.{SlotId}
use Rattle.pssm_links.specs.declared.links.Slot.{Slot}
use Rattle.pssm_links.specs.Chained.{Linked, Chained, list_of, without, IsSlotAt, value_at}
use Rattle.pssm_links.specs.inner.Rings.{count_of, row_of, moved, value_of, slots_of, lists_from, IsWritten, AreRings, CanMove, StandThere, Hold}
use Rattle.pssm_links.proofs.Turning.{can-stand, no-end, moved-length, row-to, row-from, row-other, elsewhere, removed-none}
use Rattle.pssm_links.proofs.Holding.{shown, shows, rings-written, stand-kept, stand-less, slots-less, list-within, can-take, come-back, value-held, some-held, held, count-is}

-- a value has left a list, and its slot is the last of the unused
module _ {T : Type 0} (old new : List (Slot T)) (lists : List (List (Linked T))) (unused list i k : ℕ) (hold : Hold old lists unused)
    (lt : list < length lists) (can : CanMove old hold.rows k list i (length lists))
    (rings : AreRings new (moved hold.rows k list i (length lists)))
    (values : (j : ℕ) → j ≢ k → value_of new j ≡ value_of old j) where
  abbrev taken : List (List (Linked T))
  taken = without lists list i

  taken-length : length taken ≡ length lists
  taken-length = length-set lists list (remove (list_of lists list) i)

  apart-from : length lists ≢ list
  apart-from same = omega (arith, same, lt)

  take-same : (l : ℕ) → l < length taken → row_of (moved hold.rows k list i (length lists)) l ≡ slots_of (list_of taken l)
  take-same l within =
      let le : l < length lists = omega (arith, within, taken-length) in
      ⊎_elim
      (λ yes.
      subst
      (λ z. row_of (moved hold.rows k list i (length lists)) z ≡ slots_of (list_of taken z))
      (sym yes.1)
      (row-from hold.rows k list i (length lists) can.from can.into apart-from
      ∙ ap (λ row. remove row i) (hold.same list lt)
      ∙ sym (slots-less (list_of lists list) i)
      ∙ ap slots_of (sym (get_or-set_same lists list (remove (list_of lists list) i) [] lt))))
      (λ no.
      row-other hold.rows k list i (length lists) can.from can.into apart-from l no.1 (λ same. omega (arith, same, le))
      ∙ hold.same l le
      ∙ ap slots_of (sym (get_or-set_other lists list l (remove (list_of lists list) i) [] no.1)))
      (eqb_tells l list)

  take-stand : (l : ℕ) → l < length taken → StandThere new (list_of taken l)
  take-stand l within =
      let le : l < length lists = omega (arith, within, taken-length) in
      let count = hold.count in
      ⊎_elim
      (λ yes.
      let none : count_of k (slots_of (remove (list_of lists list) i)) ≡ 0 =
      ap (count_of k) (slots-less (list_of lists list) i ∙ ap (λ row. remove row i) (sym (hold.same list lt)))
      ∙ removed-none old hold.rows k list i hold.rings can.from can.place in
      subst
      (λ z. StandThere new (list_of taken z))
      (sym yes.1)
      (subst
      (λ row. StandThere new row)
      (sym (get_or-set_same lists list (remove (list_of lists list) i) [] lt))
      (stand-kept old new (remove (list_of lists list) i) k none values (stand-less old (list_of lists list) i (hold.stand list lt)))))
      (λ no.
      let none : count_of k (slots_of (list_of lists l)) ≡ 0 =
      ap (count_of k) (sym (hold.same l le))
      ∙ elsewhere old hold.rows k list i l hold.rings can.from can.place (omega (arith, count, le)) no.1 in
      subst
      (λ row. StandThere new row)
      (sym (get_or-set_other lists list l (remove (list_of lists list) i) [] no.1))
      (stand-kept old new (list_of lists l) k none values (hold.stand l le)))
      (eqb_tells l list)

  pub hold-taken : Hold new taken (unused + 1)
  hold-taken =
      let count = hold.count in
      let rows-length = moved-length hold.rows k list i (length lists) can.from can.into apart-from in
      record {
        rows = moved hold.rows k list i (length lists);
        count = omega (arith, rows-length, count, taken-length);
        rings = rings;
        same = take-same;
        stand = take-stand;
        ends = λ l le.
            let within : l < length hold.rows = omega (arith, le, rows-length) in
            values l (no-end old hold.rows k list i l hold.rings can.from can.place within) ∙ hold.ends l within;
        spare =
            let spare = hold.spare in
            let longer = length-append (row_of hold.rows (length lists)) (k ∷ []) in
            let left : length (row_of hold.rows (length lists) ++ k ∷ []) ≡ unused + 1 = omega (arith, longer, spare) in
            subst
            (λ z. length (row_of (moved hold.rows k list i (length lists)) z) ≡ unused + 1)
            (sym taken-length)
            (ap length (row-to hold.rows k list i (length lists) can.from can.into apart-from) ∙ left);
      }

module _ {T : Type 0} where
  pub take-can : (old : List (Slot T)) (lists : List (List (Linked T))) (unused n list i : ℕ) (slot : SlotId)
      → (hold : Hold old lists unused) → n ≡ length lists
      → IsSlotAt lists slot list i → CanMove old hold.rows slot.0 list i n
  take-can old lists unused n list i slot hold same at =
      subst (λ z. CanMove old hold.rows slot.0 list i z) (sym same) (can-take old lists unused slot list i hold at)

  pub take-holds : (old mid new : List (Slot T)) (lists : List (List (Linked T))) (unused n list i : ℕ) (slot : SlotId)
      → (hold : Hold old lists unused) → n ≡ length lists
      → IsSlotAt lists slot list i
      → ((rows : List (List ℕ)) (r j : ℕ) → CanMove old rows slot.0 r j n → AreRings mid (moved rows slot.0 r j n))
      → ((j : ℕ) → value_of mid j ≡ value_of old j) → IsWritten mid new slot.0 None → Hold new (without lists list i) (unused + 1)
  take-holds old mid new lists unused n list i slot hold same at rings values written =
      let can = can-take old lists unused slot list i hold at in
      let turned = rings hold.rows list i (take-can old lists unused n list i slot hold same at) in
      hold-taken old new lists unused list i slot.0 hold (list-within lists slot list i at) can
      (rings-written mid new slot.0 None (moved hold.rows slot.0 list i (length lists)) written
      (subst (λ z. AreRings mid (moved hold.rows slot.0 list i z)) same turned))
      (λ j off. written.values j off ∙ values j)

-- a value leaves, as the code has it leave
module _ {T : Type 0} (items : List (Slot T)) (n spare total : ℕ) (value : Chained T) (is : record { lists = lists_from items 0 n; spare = total } ≡ value)
    (keeps : Hold items (lists_from items 0 n) spare × (n ≡ length (lists_from items 0 n))) (lent : List (Slot T)) (same : lent ≡ items) where
  here : Hold lent value.lists spare
  here = held items n spare total value is keeps lent same

  counted : n ≡ length value.lists
  counted = count-is items n spare total value is keeps lent same

  module _ (slot : SlotId) where
    pub take-ready : (l i : ℕ) → IsSlotAt value.lists slot l i → (rows : List (List ℕ)) × (r : ℕ) × (j : ℕ) × CanMove lent rows slot.0 r j n
    take-ready l i at = (here.rows, l, i, take-can lent value.lists spare n l i slot here counted at)

    pub slot-there : (l i : ℕ) → IsSlotAt value.lists slot l i → slot.0 < length lent
    slot-there l i at = (can-stand lent here.rows slot.0 l i n (take-can lent value.lists spare n l i slot here counted at)).0

    pub take-some : (l i : ℕ) → IsSlotAt value.lists slot l i → IsSome (value_of lent slot.0)
    take-some l i at = some-held lent value.lists spare slot l i here at

    pub take-is : (l i : ℕ) → IsSlotAt value.lists slot l i → value_of lent slot.0 ≡ value_at value.lists l i
    take-is l i at = value-held lent value.lists spare slot l i here at

    pub take-done : (mid new : List (Slot T)) (len : ℕ) → len ≡ length items
        → ((rows : List (List ℕ)) (r j : ℕ) → CanMove lent rows slot.0 r j n → AreRings mid (moved rows slot.0 r j n))
        → ((j : ℕ) → value_of mid j ≡ value_of lent j) → length mid ≡ length lent → IsWritten mid new slot.0 None
        → (l i : ℕ) → IsSlotAt value.lists slot l i
        → let back = take len (new ++ drop (length new) items) in
        (Hold back (lists_from back 0 n) (spare + 1) × (n ≡ length (lists_from back 0 n)))
        × (lists_from back 0 n ≡ without value.lists l i) × (length back ≡ length items)
    take-done mid new len all rings values size written l i at =
        let back = take len (new ++ drop (length new) items) in
        let e : back ≡ new = come-back len new items all (written.size ∙ size ∙ ap length same) in
        let hold = take-holds lent mid new value.lists spare n l i slot here counted at rings values written in
        let there = subst (λ slots. Hold slots (without value.lists l i) (spare + 1)) (sym e) hold in
        let count : n ≡ length (without value.lists l i) = counted ∙ sym (length-set value.lists l (remove (list_of value.lists l) i)) in (
          shows back (without value.lists l i) (spare + 1) n count there,
          shown back (without value.lists l i) (spare + 1) n count there,
          ap length e ∙ written.size ∙ size ∙ ap length same,
        )
