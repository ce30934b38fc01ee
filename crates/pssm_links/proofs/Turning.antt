-- Rings of slots, once a slot has left one or come to one.
use Rattle.std.proofs.Common.{◌≡◌, ◌≢◌, ◌≤◌, ◌<◌, ◌+◌, ◌++◌, ℕ, List, [], ◌∷◌, length, Some, slice_get, refl, sym, ap, subst, ◌∙◌, ⊎_elim, length-append, arith}
use Rattle.std.specs.List.{remove, sum_by}
use Rattle.std.proofs.lemmas.Bool.{cases_lt}
use Rattle.std.proofs.lemmas.Bool.Decides.{eqb_tells}
use Rattle.std.proofs.lemmas.List.{get_or-set_other, get_or-set_same, length-set}
use Rattle.std.proofs.lemmas.List.Sums.{sum_by-set}
use Rattle.std.proofs.lemmas.List.Edits.{length-remove}
use Rattle.std.proofs.lemmas.Option.{slice_get_within}
use Rattle.pssm_links.specs.declared.links.Slot.{Slot}
use Rattle.pssm_links.specs.inner.Rings.{count_of, count_in, row_of, less, more, moved, next_of, prev_of, Joins, IsEdge, IsPath, AreRings, CanMove}
use Rattle.pssm_links.proofs.Counting.{row-le, two-rows, count-at, count-remove, count-less, count-more, count-here, count-other}
use Rattle.pssm_links.proofs.Paths.{edge-before, edge-after, last-edge, last-apart, kept-path, path-less, put-path, path-more}

pub less-length : (rows : List (List ℕ)) (r i : ℕ) → length (less rows r i) ≡ length rows
less-length rows r i = length-set rows r (remove (row_of rows r) i)

-- the slot of a row is no end
pub no-end : {T : Type 0} (slots : List (Slot T)) (rows : List (List ℕ)) (k r i l : ℕ) → AreRings slots rows → r < length rows
    → slice_get (row_of rows r) i ≡ Some k → l < length rows → l ≢ k
no-end slots rows k r i l rings lt at end same =
    let there = count-at k (row_of rows r) i at in
    let le = row-le k rows r lt in
    let none : count_in k rows ≡ 0 = subst (λ z. count_in z rows ≡ 0) same (rings.apart l end) in
    omega (arith, there, le, none)

module _ {T : Type 0} (old new : List (Slot T)) (rows : List (List ℕ)) (k r i : ℕ) (rings : AreRings old rows) (lt : r < length rows)
    (at : slice_get (row_of rows r) i ≡ Some k) (joins : Joins old new (prev_of old k) (next_of old k)) where
  before : IsEdge old (prev_of old k) k
  before = edge-before old k r (row_of rows r) r i at (rings.rings r lt)

  after : IsEdge old k (next_of old k)
  after = edge-after old k r (row_of rows r) r i at (rings.rings r lt)

  is-once : count_of k (row_of rows r) ≤ 1
  is-once = let le = row-le k rows r lt in let once = rings.once k in omega (arith, le, once)

  pub less-none : count_in k (less rows r i) ≡ 0
  less-none =
      let fewer = count-less k rows r i k lt at in
      let here = count-here k k [] refl in
      let once = rings.once k in
      omega (arith, fewer, here, once)

  pub less-size : length (less rows r i) + sum_by length (less rows r i) + 1 ≤ length new
  less-size =
      let size = rings.size in
      let same = joins.size in
      let count = length-set rows r (remove (row_of rows r) i) in
      let row = sum_by-set length rows r (remove (row_of rows r) i) [] lt in
      let fewer = length-remove (row_of rows r) i (slice_get_within (row_of rows r) i k at) in
      omega (arith, size, same, count, row, fewer)

  less-ring : (l : ℕ) → l < length (less rows r i) → IsPath new l (row_of (less rows r i) l) l
  less-ring l end =
      let within : l < length rows = omega (arith, length-set rows r (remove (row_of rows r) i)) in
      let lk = no-end old rows k r i l rings lt at within in
      ⊎_elim
      (λ same.
      let e = get_or-set_same rows r (remove (row_of rows r) i) [] lt in
      let rk = no-end old rows k r i r rings lt at lt in
      subst
      (λ z. IsPath new z (row_of (less rows r i) z) z)
      (sym same.1)
      (subst
      (λ row. IsPath new r row r)
      (sym e)
      (path-less old new k (prev_of old k) (next_of old k) joins before after r (row_of rows r) r i rk rk is-once at (rings.rings r lt))))
      (λ other.
      let e = get_or-set_other rows r l (remove (row_of rows r) i) [] other.1 in
      let two = two-rows k rows r l lt within other.1 in
      let there = count-at k (row_of rows r) i at in
      let once = rings.once k in
      subst
      (λ row. IsPath new l row l)
      (sym e)
      (kept-path old new k (prev_of old k) (next_of old k) joins before after l (row_of rows l) l lk lk (omega (arith, two, there, once))
      (rings.rings l within)))
      (eqb_tells l r)

  pub less-rings : AreRings new (less rows r i)
  less-rings = record {
    rings = less-ring;
    once = λ j. let fewer = count-less j rows r i k lt at in let once = rings.once j in omega (arith, fewer, once);
    apart = λ l end.
        let fewer = count-less l rows r i k lt at in
        let none = rings.apart l (omega (arith, length-set rows r (remove (row_of rows r) i))) in
        omega (arith, fewer, none);
    within = λ j past.
        let fewer = count-less j rows r i k lt at in
        let size = joins.size in
        let none = rings.within j (omega (arith, past, size)) in
        omega (arith, fewer, none);
    size = let size = less-size in omega (arith, size);
    few = let few = rings.few in let size = joins.size in omega (arith, few, size);
  }

module _ {T : Type 0} (old between new : List (Slot T)) (rows : List (List ℕ)) (k to : ℕ) (rings : AreRings old rows) (lt : to < length rows)
    (none : count_in k rows ≡ 0) (apart : length rows ≤ k) (there : k < length old) (room : length rows + sum_by length rows + 1 ≤ length old)
    (one : Joins old between (prev_of old to) k) (two : Joins between new k to) where
  edge : IsEdge old (prev_of old to) to
  edge = last-edge old to (row_of rows to) to (rings.rings to lt)

  ring-at : (l : ℕ) → l < length rows → count_of k (row_of rows l) ≡ 0
  ring-at l end = let le = row-le k rows l end in omega (arith, le, none)

  ends-at : (l : ℕ) → l < length rows → count_of to (row_of rows l) ≡ 0
  ends-at l end = let le = row-le to rows l end in let free = rings.apart to lt in omega (arith, le, free)

  more-ring : (l : ℕ) → l < length (more rows k to) → IsPath new l (row_of (more rows k to) l) l
  more-ring l end =
      let within : l < length rows = omega (arith, length-set rows to (row_of rows to ++ k ∷ [])) in
      let lk : l ≢ k = λ same. omega (arith, same, within, apart) in
      let tk : to ≢ k = λ same. omega (arith, same, lt, apart) in
      let pk = last-apart old k to (row_of rows to) to tk (ring-at to lt) (rings.rings to lt) in
      ⊎_elim
      (λ same.
      let e = get_or-set_same rows to (row_of rows to ++ k ∷ []) [] lt in
      subst
      (λ z. IsPath new z (row_of (more rows k to) z) z)
      (sym same.1)
      (subst
      (λ row. IsPath new to row to)
      (sym e)
      (path-more old between new k (prev_of old to) to one two edge pk tk there to (row_of rows to) tk (ring-at to lt) (ends-at to lt) (rings.rings to lt))))
      (λ other.
      let e = get_or-set_other rows to l (row_of rows to ++ k ∷ []) [] other.1 in
      subst
      (λ row. IsPath new l row l)
      (sym e)
      (put-path old between new k (prev_of old to) to one two edge pk tk there l (row_of rows l) l lk lk other.1 (ring-at l within) (ends-at l within)
      (rings.rings l within)))
      (eqb_tells l to)

  pub more-rings : AreRings new (more rows k to)
  more-rings = record {
    rings = more-ring;
    once = λ j.
        let more = count-more j rows k to lt in
        let once = rings.once j in
        ⊎_elim
        (λ same.
        let zero : count_in j rows ≡ 0 = subst (λ z. count_in z rows ≡ 0) same.1 none in
        let here = count-here j k [] same.1 in
        omega (arith, more, zero, here))
        (λ other. let off = count-other j k [] other.1 in omega (arith, more, off, once))
        (eqb_tells k j);
    apart = λ l end.
        let within : l < length rows = omega (arith, length-set rows to (row_of rows to ++ k ∷ [])) in
        let more = count-more l rows k to lt in
        let free = rings.apart l within in
        let off = count-other l k [] (λ same. omega (arith, same, within, apart)) in
        omega (arith, more, free, off);
    within = λ j past.
        let more = count-more j rows k to lt in
        let first = one.size in
        let second = two.size in
        let free = rings.within j (omega (arith, past, first, second)) in
        let off = count-other j k [] (λ same. omega (arith, same, past, there, first, second)) in
        omega (arith, more, free, off);
    size =
        let count = length-set rows to (row_of rows to ++ k ∷ []) in
        let row = sum_by-set length rows to (row_of rows to ++ k ∷ []) [] lt in
        let longer = length-append (row_of rows to) (k ∷ []) in
        let first = one.size in
        let second = two.size in
        omega (arith, count, row, longer, first, second, room);
    few = let few = rings.few in let first = one.size in let second = two.size in omega (arith, few, first, second);
  }

module _ {T : Type 0} where
  -- the slot of a row and those beside it are there
  pub can-stand : (old : List (Slot T)) (rows : List (List ℕ)) (k r i to : ℕ) → CanMove old rows k r i to
      → (k < length old) × (prev_of old k < length old) × (next_of old k < length old)
  can-stand old rows k r i to can =
      let e = edge-before old k r (row_of rows r) r i can.place (can.rings.rings r can.from) in
      let f = edge-after old k r (row_of rows r) r i can.place (can.rings.rings r can.from) in
      (e.to, e.from, f.to)

  -- the last edge of a ring
  pub ring-edge : (slots : List (Slot T)) (rows : List (List ℕ)) (l : ℕ) → AreRings slots rows → l < length rows → IsEdge slots (prev_of slots l) l
  ring-edge slots rows l rings lt = last-edge slots l (row_of rows l) l (rings.rings l lt)

  -- the slots after the ends are those that stand in rows
  pub no-slot : (old : List (Slot T)) (rows : List (List ℕ)) (k r i to : ℕ) → CanMove old rows k r i to → length (less rows r i) ≤ k
  no-slot old rows k r i to can =
      let count = less-length rows r i in
      ⊎_elim
      (λ lt. absurd (no-end old rows k r i k can.rings can.from can.place lt refl))
      (λ le. omega (arith, le, count))
      (cases_lt k (length rows))

-- the rows, once the slot at a place of one has become the last of another
module _ (rows : List (List ℕ)) (k r i to : ℕ) (from : r < length rows) (into : to < length rows) (apart : to ≢ r) where
  pub moved-length : length (moved rows k r i to) ≡ length rows
  moved-length = length-set (less rows r i) to (row_of (less rows r i) to ++ k ∷ []) ∙ less-length rows r i

  pub row-to : row_of (moved rows k r i to) to ≡ row_of rows to ++ k ∷ []
  row-to =
      get_or-set_same (less rows r i) to (row_of (less rows r i) to ++ k ∷ []) [] (omega (arith, less-length rows r i, into))
      ∙ ap (λ row. row ++ k ∷ []) (get_or-set_other rows r to (remove (row_of rows r) i) [] apart)

  pub row-from : row_of (moved rows k r i to) r ≡ remove (row_of rows r) i
  row-from =
      get_or-set_other (less rows r i) to r (row_of (less rows r i) to ++ k ∷ []) [] (λ same. apart (sym same))
      ∙ get_or-set_same rows r (remove (row_of rows r) i) [] from

  pub row-other : (l : ℕ) → l ≢ r → l ≢ to → row_of (moved rows k r i to) l ≡ row_of rows l
  row-other l lr lt =
      get_or-set_other (less rows r i) to l (row_of (less rows r i) to ++ k ∷ []) [] lt
      ∙ get_or-set_other rows r l (remove (row_of rows r) i) [] lr

-- the slot of a row stands nowhere else
pub elsewhere : {T : Type 0} (slots : List (Slot T)) (rows : List (List ℕ)) (k r i l : ℕ) → AreRings slots rows → r < length rows
    → slice_get (row_of rows r) i ≡ Some k → l < length rows → l ≢ r → count_of k (row_of rows l) ≡ 0
elsewhere slots rows k r i l rings from at lt apart =
    let two = two-rows k rows r l from lt apart in
    let there = count-at k (row_of rows r) i at in
    let once = rings.once k in
    omega (arith, two, there, once)

pub removed-none : {T : Type 0} (slots : List (Slot T)) (rows : List (List ℕ)) (k r i : ℕ) → AreRings slots rows → r < length rows
    → slice_get (row_of rows r) i ≡ Some k → count_of k (remove (row_of rows r) i) ≡ 0
removed-none slots rows k r i rings from at =
    let fewer = count-remove k (row_of rows r) i k at in
    let here = count-here k k [] refl in
    let le = row-le k rows r from in
    let once = rings.once k in
    omega (arith, fewer, here, le, once)
