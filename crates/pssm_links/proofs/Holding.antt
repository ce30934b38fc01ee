-- What the slots hold, and the value that they are seen as.
use Rattle.std.proofs.Common.{◌≡◌, ◌≢◌, ◌≤◌, ◌<◌, ◌+◌, ◌++◌, ℕ, zero, suc, List, [], ◌∷◌, length, get_or, replicate, Option, Some, None, option_map, slice_get, take, drop, IsSome, refl, sym, ap, subst, ◌∙◌, ⊎_elim, arith}
use Rattle.std.proofs.Math.Seq.{take-append_seam}
use Rattle.std.specs.List.{remove}
use Rattle.std.proofs.lemmas.Bool.{cases_lt}
use Rattle.std.proofs.lemmas.List.{get_or-replicate, length-replicate}
use Rattle.std.proofs.lemmas.List.Folds.{sum_by-replicate}
use Rattle.std.proofs.lemmas.Option.{slice_get-map}
use Rattle.pssm_links.specs.declared.slot.SlotId.{SlotId}
use Rattle.pssm_links.specs.declared.links.Slot.{Slot}
use Rattle.pssm_links.specs.Chained.{Linked, Chained, list_of, IsSlotAt, value_at}
use Rattle.pssm_links.specs.inner.Rings.{count_of, row_of, next_of, prev_of, value_of, slots_of, lists_from, IsWritten, IsEdge, IsPath, AreEnds, AreRings, CanMove, StandThere, Hold}
use Rattle.pssm_links.proofs.Meeting.{lists-held}
use Rattle.pssm_links.proofs.Counting.{absent-first, absent-rest}
use Rattle.pssm_links.proofs.Writing.{read-at}

module _ {T : Type 0} where
  -- empty lists, over the ends alone
  pub hold-none : (slots : List (Slot T)) (n : ℕ) → AreEnds slots (n + 1) → Hold slots (replicate n []) 0
  hold-none slots n ends =
      let rows : List (List ℕ) = replicate (n + 1) [] in
      let count = length-replicate (n + 1) (let none : List ℕ = [] in none) in
      let size = ends.size in
      let row : (l : ℕ) → l < n + 1 → row_of rows l ≡ [] = λ l lt. get_or-replicate (n + 1) l [] [] lt in
      record {
        rows = rows;
        count = omega (arith, count, length-replicate n (let none : List (Linked T) = [] in none));
        rings = record {
          rings = λ l lt.
              let le : l < n + 1 = omega (arith, lt, count) in
              subst
              (λ ks. IsPath slots l ks l)
              (sym (row l le))
              (record { next = ends.next l le; prev = ends.prev l le; from = omega (arith, le, size); to = omega (arith, le, size) });
          once = λ k. let none = sum_by-replicate (count_of k) (n + 1) [] in omega (arith, none);
          apart = λ l lt. let none = sum_by-replicate (count_of l) (n + 1) [] in omega (arith, none);
          within = λ k past. let none = sum_by-replicate (count_of k) (n + 1) [] in omega (arith, none);
          size = let none = sum_by-replicate {X = List ℕ} length (n + 1) [] in omega (arith, none, count, size);
          few = let few = ends.few in omega (arith, few, size);
        };
        same = λ l lt.
            let le : l < n = omega (arith, lt, length-replicate n (let none : List (Linked T) = [] in none)) in
            row l (omega (arith, le)) ∙ ap slots_of (sym (get_or-replicate n l (let none : List (Linked T) = [] in none) [] le));
        stand = λ l lt.
            let le : l < n = omega (arith, lt, length-replicate n (let none : List (Linked T) = [] in none)) in
            subst (λ es. StandThere slots es) (sym (get_or-replicate n l (let none : List (Linked T) = [] in none) [] le)) tt;
        ends = λ l lt. ends.values l (omega (arith, lt, count));
        spare =
            let end = length-replicate n (let none : List (Linked T) = [] in none) in
            ap length (row (length (replicate n (let none : List (Linked T) = [] in none))) (omega (arith, end)));
      }

  -- what one meets is what the slots hold
  pub shown : (slots : List (Slot T)) (lists : List (List (Linked T))) (unused n : ℕ) → n ≡ length lists → Hold slots lists unused
      → lists_from slots 0 n ≡ lists
  shown slots lists unused n same hold = subst (λ m. lists_from slots 0 m ≡ lists) (sym same) (lists-held slots lists unused hold)

  pub shows : (slots : List (Slot T)) (lists : List (List (Linked T))) (unused n : ℕ) → n ≡ length lists → Hold slots lists unused
      → Hold slots (lists_from slots 0 n) unused × (n ≡ length (lists_from slots 0 n))
  shows slots lists unused n same hold =
      let e = shown slots lists unused n same hold in
      (subst (λ ls. Hold slots ls unused) (sym e) hold, same ∙ ap length (sym e))

  edge-written : (old new : List (Slot T)) (k : ℕ) (v : Option T) (a b : ℕ) → IsWritten old new k v → IsEdge old a b → IsEdge new a b
  edge-written old new k v a b w e = record {
    next = w.nexts a ∙ e.next;
    prev = w.prevs b ∙ e.prev;
    from = let le = e.from in let size = w.size in omega (arith, le, size);
    to = let le = e.to in let size = w.size in omega (arith, le, size);
  }

  path-written : (old new : List (Slot T)) (k : ℕ) (v : Option T) (a : ℕ) (ks : List ℕ) (b : ℕ) → IsWritten old new k v → IsPath old a ks b → IsPath new a ks b
  path-written old new k v a [] b w path = edge-written old new k v a b w path
  path-written old new k v a (x ∷ xs) b w path = (edge-written old new k v a x w path.0, path-written old new k v x xs b w path.1)

  pub rings-written : (old new : List (Slot T)) (k : ℕ) (v : Option T) (rows : List (List ℕ)) → IsWritten old new k v → AreRings old rows → AreRings new rows
  rings-written old new k v rows w rings = record {
    rings = λ l lt. path-written old new k v l (row_of rows l) l w (rings.rings l lt);
    once = rings.once;
    apart = rings.apart;
    within = λ j past. let same = w.size in rings.within j (omega (arith, past, same));
    size = let size = rings.size in let same = w.size in omega (arith, size, same);
    few = let few = rings.few in let same = w.size in omega (arith, few, same);
  }

  -- values stand where they stood, but at a slot
  pub stand-kept : (old new : List (Slot T)) (row : List (Linked T)) (k : ℕ) → count_of k (slots_of row) ≡ 0
      → ((j : ℕ) → j ≢ k → value_of new j ≡ value_of old j) → StandThere old row → StandThere new row
  stand-kept old new [] k none values stand = tt
  stand-kept old new (e ∷ es) k none values stand = (
    values e.slot.0 (absent-first k e.slot.0 (slots_of es) none) ∙ stand.0,
    stand-kept old new es k (absent-rest k e.slot.0 (slots_of es) none) values stand.1,
  )

  pub stand-more : (slots : List (Slot T)) (row : List (Linked T)) (e : Linked T) → value_of slots e.slot.0 ≡ Some e.value → StandThere slots row
      → StandThere slots (row ++ e ∷ [])
  stand-more slots [] e here stand = (here, tt)
  stand-more slots (x ∷ xs) e here stand = (stand.0, stand-more slots xs e here stand.1)

  pub stand-less : (slots : List (Slot T)) (row : List (Linked T)) (i : ℕ) → StandThere slots row → StandThere slots (remove row i)
  stand-less slots [] zero stand = tt
  stand-less slots [] (suc i) stand = tt
  stand-less slots (x ∷ xs) zero stand = stand.1
  stand-less slots (x ∷ xs) (suc i) stand = (stand.0, stand-less slots xs i stand.1)

  pub slots-less : (row : List (Linked T)) (i : ℕ) → slots_of (remove row i) ≡ remove (slots_of row) i
  slots-less [] zero = refl
  slots-less [] (suc i) = refl
  slots-less (x ∷ xs) zero = refl
  slots-less (x ∷ xs) (suc i) = ap (λ ks. x.slot.0 ∷ ks) (slots-less xs i)

  slot-number : (slot : SlotId) (o : Option (Linked T)) → option_map (λ e. e.slot) o ≡ Some slot → option_map (λ e. e.slot.0) o ≡ Some slot.0
  slot-number slot None is = absurd (cc)
  slot-number slot (Some e) is = let same : e.slot ≡ slot = cc in ap (λ s. Some s.0) same

  last-place : (slots : List (Slot T)) (a : ℕ) (ks : List ℕ) (b m : ℕ) → IsPath slots a ks b → length ks ≡ m + 1 → slice_get ks m ≡ Some (prev_of slots b)
  last-place slots a [] b m path count = absurd (omega (arith, count))
  last-place slots a (x ∷ []) b zero path count = let e : IsEdge slots x b = path.1 in ap Some (sym e.prev)
  last-place slots a (x ∷ []) b (suc m) path count = absurd (omega (arith, count))
  last-place slots a (x ∷ y ∷ ys) b zero path count = absurd (omega (arith, count))
  last-place slots a (x ∷ y ∷ ys) b (suc m) path count = last-place slots x (y ∷ ys) b m path.1 (omega (arith, count))

  -- the last of the unused slots can come to a list
  pub can-push : (slots : List (Slot T)) (lists : List (List (Linked T))) (unused m list : ℕ) → (hold : Hold slots lists unused) → unused ≡ m + 1
      → list < length lists → CanMove slots hold.rows (prev_of slots (length lists)) (length lists) m list
  can-push slots lists unused m list hold some lt =
      let count = hold.count in
      let end : length lists < length hold.rows = omega (arith, count) in
      record {
        rings = hold.rings;
        from = end;
        into = omega (arith, count, lt);
        place = last-place slots (length lists) (row_of hold.rows (length lists)) (length lists) m (hold.rings.rings (length lists) end) (hold.spare ∙ some);
      }

  pub no-list : (lists : List (List (Linked T))) (l : ℕ) → length lists ≤ l → list_of lists l ≡ []
  no-list [] l le = refl
  no-list (row ∷ rows) zero le = absurd (omega (arith, le))
  no-list (row ∷ rows) (suc l) le = no-list rows l (omega (arith, le))

  pub list-within : (lists : List (List (Linked T))) (slot : SlotId) (l i : ℕ) → IsSlotAt lists slot l i → l < length lists
  list-within lists slot l i at =
      ⊎_elim
      (λ lt. lt)
      (λ le.
      let none : option_map (λ (e : Linked T). e.slot) (slice_get (list_of lists l) i) ≡ None =
      ap (λ row. option_map (λ (e : Linked T). e.slot) (slice_get row i)) (no-list lists l le) in
      absurd (cc (none, at)))
      (cases_lt l (length lists))

  pub place-of : (slots : List (Slot T)) (lists : List (List (Linked T))) (unused : ℕ) (slot : SlotId) (l i : ℕ) → (hold : Hold slots lists unused)
      → IsSlotAt lists slot l i → slice_get (row_of hold.rows l) i ≡ Some slot.0
  place-of slots lists unused slot l i hold at =
      ap (λ row. slice_get row i) (hold.same l (list-within lists slot l i at))
      ∙ slice_get-map (λ (e : Linked T). e.slot.0) (list_of lists l) i
      ∙ slot-number slot (slice_get (list_of lists l) i) at

  -- the slot of a value can become one of the unused
  pub can-take : (slots : List (Slot T)) (lists : List (List (Linked T))) (unused : ℕ) (slot : SlotId) (l i : ℕ) → (hold : Hold slots lists unused)
      → IsSlotAt lists slot l i → CanMove slots hold.rows slot.0 l i (length lists)
  can-take slots lists unused slot l i hold at =
      let count = hold.count in
      let lt = list-within lists slot l i at in
      record {
        rings = hold.rings;
        from = omega (arith, count, lt);
        into = omega (arith, count);
        place = place-of slots lists unused slot l i hold at;
      }

  -- what is known of the slots of lists that are seen as a value
  pub opened : (slots : List (Slot T)) (n spare total : ℕ) (value : Chained T) → record { lists = lists_from slots 0 n; spare = total } ≡ value
      → Hold slots (lists_from slots 0 n) spare × (n ≡ length (lists_from slots 0 n)) → Hold slots value.lists spare × (n ≡ length value.lists)
  opened slots n spare total value is keeps = subst (λ (v : Chained T). Hold slots v.lists spare × (n ≡ length v.lists)) is keeps

  -- the end of a list is there
  pub end-there : (slots : List (Slot T)) (lists : List (List (Linked T))) (unused l : ℕ) → Hold slots lists unused → l ≤ length lists → l < length slots
  end-there slots lists unused l hold le =
      let size = hold.rings.size in
      let count = hold.count in
      omega (arith, le, size, count)

  pub prev-read : (slots : List (Slot T)) (k : ℕ) (x : Slot T) → k < length slots → x ≡ get_or slots k x → prev_of slots k ≡ x.prev
  prev-read slots k x lt is = read-at (λ s. s.prev) 0 slots k x lt ∙ ap (λ (s : Slot T). s.prev) (sym is)

  pub next-read : (slots : List (Slot T)) (k : ℕ) (x : Slot T) → k < length slots → x ≡ get_or slots k x → next_of slots k ≡ x.next
  next-read slots k x lt is = read-at (λ s. s.next) 0 slots k x lt ∙ ap (λ (s : Slot T). s.next) (sym is)

  -- slots that were lent come back
  pub come-back : (n : ℕ) (slots old : List (Slot T)) → n ≡ length old → length slots ≡ length old → take n (slots ++ drop (length slots) old) ≡ slots
  come-back n slots old same size =
      subst (λ m. take m (slots ++ drop (length slots) old) ≡ slots) (size ∙ sym same) (take-append_seam slots (drop (length slots) old))

  value-there : (slots : List (Slot T)) (row : List (Linked T)) (slot : SlotId) (i : ℕ) → StandThere slots row
      → option_map (λ e. e.slot) (slice_get row i) ≡ Some slot → value_of slots slot.0 ≡ option_map (λ e. e.value) (slice_get row i)
  value-there slots [] slot i stand at = absurd (cc)
  value-there slots (e ∷ es) slot zero stand at =
      let same : e.slot ≡ slot = cc in
      ap (λ s. value_of slots s.0) (sym same) ∙ stand.0
  value-there slots (e ∷ es) slot (suc i) stand at = value-there slots es slot i stand.1 at

  -- the value that stands in a slot
  pub value-held : (slots : List (Slot T)) (lists : List (List (Linked T))) (unused : ℕ) (slot : SlotId) (l i : ℕ) → Hold slots lists unused
      → IsSlotAt lists slot l i → value_of slots slot.0 ≡ value_at lists l i
  value-held slots lists unused slot l i hold at = value-there slots (list_of lists l) slot i (hold.stand l (list-within lists slot l i at)) at

  some-value : (row : List (Linked T)) (slot : SlotId) (i : ℕ) → option_map (λ e. e.slot) (slice_get row i) ≡ Some slot
      → IsSome (option_map (λ e. e.value) (slice_get row i))
  some-value [] slot i at = absurd (cc)
  some-value (e ∷ es) slot zero at = refl
  some-value (e ∷ es) slot (suc i) at = some-value es slot i at

  pub some-held : (slots : List (Slot T)) (lists : List (List (Linked T))) (unused : ℕ) (slot : SlotId) (l i : ℕ) → Hold slots lists unused
      → IsSlotAt lists slot l i → IsSome (value_of slots slot.0)
  some-held slots lists unused slot l i hold at =
      subst (λ o. IsSome o) (sym (value-held slots lists unused slot l i hold at)) (some-value (list_of lists l) slot i at)

-- slots that are lent
module _ {T : Type 0} (items : List (Slot T)) (n spare total : ℕ) (value : Chained T) (is : record { lists = lists_from items 0 n; spare = total } ≡ value)
    (keeps : Hold items (lists_from items 0 n) spare × (n ≡ length (lists_from items 0 n))) (lent : List (Slot T)) (same : lent ≡ items) where
  abbrev pub held : Hold lent value.lists spare
  held = subst (λ slots. Hold slots value.lists spare) (sym same) (opened items n spare total value is keeps).0

  abbrev pub count-is : n ≡ length value.lists
  count-is = (opened items n spare total value is keeps).1

  pub spare-is : total ≡ value.spare
  spare-is = ap (λ (v : Chained T). v.spare) is
