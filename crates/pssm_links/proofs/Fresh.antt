-- A value comes into a new slot.
use Rattle.std.proofs.Common.{Some, length, refl, ⊎_elim, ◌≡◌, ◌≢◌, ◌<◌, ◌+◌, ◌^◌, ◌++◌, ℕ, List, [], ◌∷◌, length, None, sym, ap, subst, ◌∙◌, arith}
use Rattle.std.proofs.lemmas.Bool.Decides.{eqb_tells}
use Rattle.std.specs.Option.{option_map_or}
use Rattle.std.proofs.lemmas.List.{map-append, get_or-set_other, get_or-set_same, length-set}
use Rattle.pssm_links.specs.declared.links.Slot.{Slot}
use Rattle.pssm_links.specs.Chained.{Linked, Chained, list_of, with_pushed}
use Rattle.pssm_links.specs.inner.Rings.{count_of, count_in, row_of, more, prev_of, value_of, last_slot, slots_of, lists_from, Joins, AreRings, StandThere, Hold}
use Rattle.pssm_links.proofs.Growing.{get-append_apart, read-end, more-length, rings-grown}
use Rattle.pssm_links.proofs.Counting.{row-le}
use Rattle.pssm_links.proofs.Turning.{ring-edge, more-rings}
use Rattle.pssm_links.proofs.Holding.{shown, shows, stand-kept, stand-more, opened, end-there}

-- a value comes to a list, into a slot that was not there
module _ {T : Type 0} (items lent between new : List (Slot T)) (y : Slot T) (lists : List (List (Linked T))) (unused list k : ℕ) (v : T) (hold : Hold items lists unused)
    (lt : list < length lists) (is : k ≡ length items) (few : k < 2 ^ 32) (holds : y.value ≡ Some v) (pushed : lent ≡ items ++ y ∷ [])
    (one : Joins lent between (prev_of lent list) k) (two : Joins between new k list) where
  abbrev come : Linked T
  come = record { slot = record { 0 = k }; value = v }

  abbrev longer : List (List (Linked T))
  longer = with_pushed lists list (record { 0 = k }) v

  longer-length : length longer ≡ length lists
  longer-length = length-set lists list (list_of lists list ++ come ∷ [])

  abbrev row-there : list < length hold.rows
  row-there = let count = hold.count in omega (arith, count, lt)

  grown-rings : AreRings lent hold.rows
  grown-rings = subst (λ slots. AreRings slots hold.rows) (sym pushed) (rings-grown items y hold.rows (omega (arith, is, few)) hold.rings)

  grown-size : length lent ≡ length items + 1
  grown-size = ap length pushed ∙ more-length items y

  free : count_in k hold.rows ≡ 0
  free = hold.rings.within k (omega (arith, is))

  turned : AreRings new (more hold.rows k list)
  turned =
      let size = hold.rings.size in
      more-rings lent between new hold.rows k list grown-rings row-there free (omega (arith, size, is)) (omega (arith, is, grown-size))
      (omega (arith, size, grown-size)) one two

  kept-values : (j : ℕ) → j ≢ k → value_of new j ≡ value_of items j
  kept-values j apart =
      two.values j ∙ one.values j ∙ ap (λ slots. value_of slots j) pushed
      ∙ ap (λ o. option_map_or (λ (s : Slot T). s.value) o None) (get-append_apart items y j (λ same. apart (same ∙ sym is)))

  value-come : value_of new k ≡ Some v
  value-come =
      two.values k ∙ one.values k ∙ ap (λ slots. value_of slots k) pushed
      ∙ read-end (λ (s : Slot T). s.value) None items y k is ∙ holds

  none-in : (l : ℕ) → l < length lists → count_of k (slots_of (list_of lists l)) ≡ 0
  none-in l le =
      let count = hold.count in
      let row = row-le k hold.rows l (omega (arith, le, count)) in
      let none = free in
      let here : count_of k (row_of hold.rows l) ≡ 0 = omega (arith, row, none) in
      ap (count_of k) (sym (hold.same l le)) ∙ here

  new-same : (l : ℕ) → l < length longer → row_of (more hold.rows k list) l ≡ slots_of (list_of longer l)
  new-same l within =
      let le : l < length lists = omega (arith, within, longer-length) in
      ⊎_elim
      (λ yes.
      subst
      (λ z. row_of (more hold.rows k list) z ≡ slots_of (list_of longer z))
      (sym yes.1)
      (get_or-set_same hold.rows list (row_of hold.rows list ++ k ∷ []) [] row-there
      ∙ ap (λ row. row ++ k ∷ []) (hold.same list lt)
      ∙ sym (map-append (λ (e : Linked T). e.slot.0) (list_of lists list) (come ∷ []))
      ∙ ap slots_of (sym (get_or-set_same lists list (list_of lists list ++ come ∷ []) [] lt))))
      (λ no.
      get_or-set_other hold.rows list l (row_of hold.rows list ++ k ∷ []) [] no.1
      ∙ hold.same l le
      ∙ ap slots_of (sym (get_or-set_other lists list l (list_of lists list ++ come ∷ []) [] no.1)))
      (eqb_tells l list)

  new-stand : (l : ℕ) → l < length longer → StandThere new (list_of longer l)
  new-stand l within =
      let le : l < length lists = omega (arith, within, longer-length) in
      ⊎_elim
      (λ yes.
      subst
      (λ z. StandThere new (list_of longer z))
      (sym yes.1)
      (subst
      (λ row. StandThere new row)
      (sym (get_or-set_same lists list (list_of lists list ++ come ∷ []) [] lt))
      (stand-more new (list_of lists list) come value-come (stand-kept items new (list_of lists list) k (none-in list lt) kept-values (hold.stand list lt)))))
      (λ no.
      subst
      (λ row. StandThere new row)
      (sym (get_or-set_other lists list l (list_of lists list ++ come ∷ []) [] no.1))
      (stand-kept items new (list_of lists l) k (none-in l le) kept-values (hold.stand l le)))
      (eqb_tells l list)

  pub hold-new : Hold new longer unused
  hold-new =
      let count = hold.count in
      let rows-length = length-set hold.rows list (row_of hold.rows list ++ k ∷ []) in
      record {
        rows = more hold.rows k list;
        count = omega (arith, rows-length, count, longer-length);
        rings = turned;
        same = new-same;
        stand = new-stand;
        ends = λ l le.
            let within : l < length hold.rows = omega (arith, le, rows-length) in
            let size = hold.rings.size in
            kept-values l (λ same. omega (arith, same, within, size, is)) ∙ hold.ends l within;
        spare =
            subst
            (λ z. length (row_of (more hold.rows k list) z) ≡ unused)
            (sym longer-length)
            (ap length (get_or-set_other hold.rows list (length lists) (row_of hold.rows list ++ k ∷ []) [] (λ same. omega (arith, same, lt)))
            ∙ hold.spare);
      }

-- a value comes into a new slot, as the code has it come
module _ {T : Type 0} (items : List (Slot T)) (n spare total : ℕ) (value : Chained T) (is : record { lists = lists_from items 0 n; spare = total } ≡ value)
    (keeps : Hold items (lists_from items 0 n) spare × (n ≡ length (lists_from items 0 n))) (k list : ℕ) (lt : list < length value.lists) where
  -- the end of the list stands where it stood
  pub new-ready : list < length items
  new-ready =
      let both = opened items n spare total value is keeps in
      end-there items value.lists spare list both.0 (omega (arith, lt))

  pub new-edge : prev_of items list < length items
  new-edge =
      let both = opened items n spare total value is keeps in
      let hold = both.0 in
      let count = hold.count in
      let e = ring-edge items hold.rows list hold.rings (omega (arith, count, lt)) in
      e.from

  pub new-done : (v : T) → (between new : List (Slot T)) → k ≡ length items → k < 2 ^ 32
      → let y : Slot T = last_slot items list v in
      Joins (items ++ y ∷ []) between (prev_of (items ++ y ∷ []) list) k → Joins between new k list
      → (Hold new (lists_from new 0 n) spare × (n ≡ length (lists_from new 0 n)))
      × (lists_from new 0 n ≡ with_pushed value.lists list (record { 0 = k }) v)
  new-done v between new last few one two =
      let y : Slot T = last_slot items list v in
      let both = opened items n spare total value is keeps in
      let hold = hold-new items (items ++ y ∷ []) between new y value.lists spare list k v both.0 lt last few refl refl one two in
      let count : n ≡ length (with_pushed value.lists list (record { 0 = k }) v) =
      both.1 ∙ sym (length-set value.lists list (list_of value.lists list ++ record { slot = record { 0 = k }; value = v } ∷ [])) in (
        shows new (with_pushed value.lists list (record { 0 = k }) v) spare n count hold,
        shown new (with_pushed value.lists list (record { 0 = k }) v) spare n count hold,
      )
