-- A value comes to a list.
use Rattle.std.proofs.Common.{◌≡◌, ◌≢◌, ◌≤◌, ◌<◌, ◌+◌, ◌-◌, ◌++◌, ℕ, List, [], ◌∷◌, length, get_or, Some, take, drop, sym, ap, subst, ◌∙◌, ⊎_elim, arith}
use Rattle.std.specs.List.{remove}
use Rattle.std.proofs.lemmas.Bool.Decides.{eqb_tells}
use Rattle.std.proofs.lemmas.List.{get_or-set_other, get_or-set_same, length-set, map-append}
use Rattle.std.proofs.lemmas.List.Edits.{length-remove}
use Rattle.std.proofs.lemmas.Option.{slice_get_within}
use Rattle.pssm_links.specs.declared.links.Slot.{Slot}
use Rattle.pssm_links.specs.Chained.{Linked, Chained, list_of, with_pushed}
use Rattle.pssm_links.specs.inner.Rings.{count_of, row_of, moved, prev_of, value_of, slots_of, lists_from, IsWritten, AreRings, CanMove, StandThere, Hold}
use Rattle.pssm_links.proofs.Turning.{no-end, moved-length, row-to, row-from, row-other, elsewhere}
use Rattle.pssm_links.proofs.Holding.{shown, shows, rings-written, stand-kept, stand-more, can-push, opened, end-there, prev-read, come-back, held, count-is}

-- a value has come to a list, into the last of the unused slots
module _ {T : Type 0} (old new : List (Slot T)) (lists : List (List (Linked T))) (unused m list k : ℕ) (v : T) (hold : Hold old lists unused)
    (some : unused ≡ m + 1) (lt : list < length lists) (can : CanMove old hold.rows k (length lists) m list)
    (rings : AreRings new (moved hold.rows k (length lists) m list)) (value : value_of new k ≡ Some v)
    (values : (j : ℕ) → j ≢ k → value_of new j ≡ value_of old j) where
  abbrev come : Linked T
  come = record { slot = record { 0 = k }; value = v }

  abbrev pushed : List (List (Linked T))
  pushed = with_pushed lists list (record { 0 = k }) v

  pushed-length : length pushed ≡ length lists
  pushed-length = length-set lists list (list_of lists list ++ come ∷ [])

  apart : list ≢ length lists
  apart same = omega (arith, same, lt)

  push-none : (l : ℕ) → l < length lists → count_of k (slots_of (list_of lists l)) ≡ 0
  push-none l le =
      let count = hold.count in
      ap (count_of k) (sym (hold.same l le))
      ∙ elsewhere old hold.rows k (length lists) m l hold.rings can.from can.place (omega (arith, count, le)) (λ same. omega (arith, same, le))

  push-same : (l : ℕ) → l < length pushed → row_of (moved hold.rows k (length lists) m list) l ≡ slots_of (list_of pushed l)
  push-same l within =
      let le : l < length lists = omega (arith, within, pushed-length) in
      ⊎_elim
      (λ yes.
      subst
      (λ z. row_of (moved hold.rows k (length lists) m list) z ≡ slots_of (list_of pushed z))
      (sym yes.1)
      (row-to hold.rows k (length lists) m list can.from can.into apart
      ∙ ap (λ row. row ++ k ∷ []) (hold.same list lt)
      ∙ sym (map-append (λ (e : Linked T). e.slot.0) (list_of lists list) (come ∷ []))
      ∙ ap slots_of (sym (get_or-set_same lists list (list_of lists list ++ come ∷ []) [] lt))))
      (λ no.
      row-other hold.rows k (length lists) m list can.from can.into apart l (λ same. omega (arith, same, le)) no.1
      ∙ hold.same l le
      ∙ ap slots_of (sym (get_or-set_other lists list l (list_of lists list ++ come ∷ []) [] no.1)))
      (eqb_tells l list)

  push-stand : (l : ℕ) → l < length pushed → StandThere new (list_of pushed l)
  push-stand l within =
      let le : l < length lists = omega (arith, within, pushed-length) in
      ⊎_elim
      (λ yes.
      subst
      (λ z. StandThere new (list_of pushed z))
      (sym yes.1)
      (subst
      (λ row. StandThere new row)
      (sym (get_or-set_same lists list (list_of lists list ++ come ∷ []) [] lt))
      (stand-more new (list_of lists list) come value (stand-kept old new (list_of lists list) k (push-none list lt) values (hold.stand list lt)))))
      (λ no.
      subst
      (λ row. StandThere new row)
      (sym (get_or-set_other lists list l (list_of lists list ++ come ∷ []) [] no.1))
      (stand-kept old new (list_of lists l) k (push-none l le) values (hold.stand l le)))
      (eqb_tells l list)

  pub hold-pushed : Hold new pushed m
  hold-pushed =
      let count = hold.count in
      let rows-length = moved-length hold.rows k (length lists) m list can.from can.into apart in
      record {
        rows = moved hold.rows k (length lists) m list;
        count = omega (arith, rows-length, count, pushed-length);
        rings = rings;
        same = push-same;
        stand = push-stand;
        ends = λ l le.
            let within : l < length hold.rows = omega (arith, le, rows-length) in
            values l (no-end old hold.rows k (length lists) m l hold.rings can.from can.place within) ∙ hold.ends l within;
        spare =
            let fewer = length-remove (row_of hold.rows (length lists)) m (slice_get_within (row_of hold.rows (length lists)) m k can.place) in
            let spare = hold.spare in
            let left : length (remove (row_of hold.rows (length lists)) m) ≡ m = omega (arith, fewer, spare, some) in
            subst
            (λ z. length (row_of (moved hold.rows k (length lists) m list) z) ≡ m)
            (sym pushed-length)
            (ap length (row-from hold.rows k (length lists) m list can.from can.into apart) ∙ left);
      }

module _ {T : Type 0} where
  -- the slot that a value comes to can be moved
  pub push-can : (old : List (Slot T)) (lists : List (List (Linked T))) (unused n list k : ℕ) → (hold : Hold old lists unused) → n ≡ length lists
      → 1 ≤ unused → list < length lists → prev_of old n ≡ k → CanMove old hold.rows k (length lists) (unused - 1) list
  push-can old lists unused n list k hold same some lt is =
      let can = can-push old lists unused (unused - 1) list hold (omega (arith, some)) lt in
      let e : prev_of old (length lists) ≡ k = subst (λ z. prev_of old z ≡ k) same is in
      subst (λ z. CanMove old hold.rows z (length lists) (unused - 1) list) e can

  pub push-holds : (old mid new : List (Slot T)) (lists : List (List (Linked T))) (unused n list k : ℕ) (v : T)
      → (hold : Hold old lists unused) → n ≡ length lists
      → 1 ≤ unused → list < length lists → prev_of old n ≡ k
      → ((rows : List (List ℕ)) (r i : ℕ) → CanMove old rows k r i list → AreRings mid (moved rows k r i list))
      → ((j : ℕ) → value_of mid j ≡ value_of old j) → IsWritten mid new k (Some v) → Hold new (with_pushed lists list (record { 0 = k }) v) (unused - 1)
  push-holds old mid new lists unused n list k v hold same some lt is rings values written =
      let can = push-can old lists unused n list k hold same some lt is in
      hold-pushed old new lists unused (unused - 1) list k v hold (omega (arith, some)) lt can
      (rings-written mid new k (Some v) (moved hold.rows k (length lists) (unused - 1) list) written (rings hold.rows (length lists) (unused - 1) can))
      written.value (λ j off. written.values j off ∙ values j)

-- a value comes, as the code has it come
module _ {T : Type 0} (items : List (Slot T)) (n spare total : ℕ) (value : Chained T) (is : record { lists = lists_from items 0 n; spare = total } ≡ value)
    (keeps : Hold items (lists_from items 0 n) spare × (n ≡ length (lists_from items 0 n))) (lent : List (Slot T)) (same : lent ≡ items) where
  here : Hold lent value.lists spare
  here = held items n spare total value is keeps lent same

  counted : n ≡ length value.lists
  counted = count-is items n spare total value is keeps lent same

  module _ (x : Slot T) (list : ℕ) (reads : x ≡ get_or items n x) (lt : list < length value.lists) (some : 1 ≤ spare) where
    end-is : prev_of lent n ≡ x.prev
    end-is =
        subst
        (λ slots. prev_of slots n ≡ x.prev)
        (sym same)
        (prev-read items n x (end-there items value.lists spare n (opened items n spare total value is keeps).0 (omega (arith, counted))) reads)

    pub push-ready : (rows : List (List ℕ)) × (r : ℕ) × (i : ℕ) × CanMove lent rows x.prev r i list
    push-ready = (
      here.rows,
      length value.lists,
      spare - 1,
      push-can lent value.lists spare n list x.prev here counted some lt end-is,
    )

    pub push-done : (mid new : List (Slot T)) (v : T) (len : ℕ) → len ≡ length items
        → ((rows : List (List ℕ)) (r i : ℕ) → CanMove lent rows x.prev r i list → AreRings mid (moved rows x.prev r i list))
        → ((j : ℕ) → value_of mid j ≡ value_of lent j) → length mid ≡ length lent → IsWritten mid new x.prev (Some v)
        → let back = take len (new ++ drop (length new) items) in
        (Hold back (lists_from back 0 n) (spare - 1) × (n ≡ length (lists_from back 0 n)))
        × (lists_from back 0 n ≡ with_pushed value.lists list (record { 0 = x.prev }) v) × (length back ≡ length items)
    push-done mid new v len all rings values size written =
        let back = take len (new ++ drop (length new) items) in
        let e : back ≡ new = come-back len new items all (written.size ∙ size ∙ ap length same) in
        let hold = push-holds lent mid new value.lists spare n list x.prev v here counted
        some lt end-is rings values written in
        let there = subst (λ slots. Hold slots (with_pushed value.lists list (record { 0 = x.prev }) v) (spare - 1)) (sym e) hold in
        let count : n ≡ length (with_pushed value.lists list (record { 0 = x.prev }) v) =
        counted ∙ sym (length-set value.lists list (list_of value.lists list ++ record { slot = record { 0 = x.prev }; value = v } ∷ [])) in (
          shows back (with_pushed value.lists list (record { 0 = x.prev }) v) (spare - 1) n count there,
          shown back (with_pushed value.lists list (record { 0 = x.prev }) v) (spare - 1) n count there,
          ap length e ∙ written.size ∙ size ∙ ap length same,
        )
