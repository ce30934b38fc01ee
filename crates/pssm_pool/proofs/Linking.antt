-- The pools as linked lists: what waits, and in which slots.
use Rattle.std.proofs.Common.{◌≡◌, ◌<◌, ◌≤◌, ◌++◌, ℕ, zero, suc, List, [], ◌∷◌, length, map, get_or, replicate, Option, Some, None, option_map, slice_get, refl, sym, ap, subst, ◌∙◌, ⊎_elim, arith}
use Rattle.std.proofs.Math.ListN.{set}
use Rattle.std.specs.List.{remove, sum_by}
use Rattle.std.proofs.lemmas.Bool.{cases_lt}
use Rattle.std.proofs.lemmas.List.{length-map, map-append, map-set}
use Rattle.std.proofs.lemmas.List.Sums.{sum_by-cons}
use Rattle.std.proofs.lemmas.Option.{slice_get-map, slice_get_within}
use Rattle.pssm_semantics.specs.declared.entry.ObjectId.{ObjectId}
use Rattle.pssm_links.specs.declared.slot.SlotId.{SlotId}
use Rattle.pssm_links.specs.Chained.{Linked, Chained, list_of, slot_at, value_at, IsSlotAt}
use Rattle.pssm_links.specs.Chained as linked
use Rattle.pssm_pool.specs.declared.pools.Waiting.{Waiting}
use Rattle.pssm_pool.specs.Waits.{Waits, waiting_for, slots_for, held_in, with_arrived, without, IsSlotOf, IsSlot, HaveSlots, HaveOwnSlots, StandsAt}
use Rattle.pssm_pool.specs.inner.Chaining.{waits_of, values_of}

some-at : {X : Type 0} (xs : List X) (k : ℕ) → k < length xs → (x : X) × (slice_get xs k ≡ Some x)
some-at [] k lt = absurd (omega arith)
some-at (x ∷ xs) zero lt = (x, refl)
some-at (x ∷ xs) (suc k) lt = some-at xs k (omega arith)

-- what is read off each value of each list
module _ {X : Type 0} (read : Linked Waiting → X) where
  abbrev pub each : List (List (Linked Waiting)) → List (List X)
  each lists = map (λ row. map read row) lists

  pub each-none : (n : ℕ) → each (replicate n []) ≡ replicate n []
  each-none zero = refl
  each-none (suc n) = ap (λ rows. [] ∷ rows) (each-none n)

  pub each-at : (lists : List (List (Linked Waiting))) (l : ℕ) → get_or (each lists) l [] ≡ map read (list_of lists l)
  each-at [] l = refl
  each-at (row ∷ rows) zero = refl
  each-at (row ∷ rows) (suc l) = each-at rows l

  pub each-held : (lists : List (List (Linked Waiting))) → sum_by length (each lists) ≡ sum_by length lists
  each-held [] = refl
  each-held (row ∷ rows) =
      let rest = each-held rows in
      let one = sum_by-cons length (map read row) (each rows) in
      let other = sum_by-cons length row rows in
      let same = length-map row read in
      omega (arith, rest, one, other, same)

  map-less : (row : List (Linked Waiting)) (k : ℕ) → map read (remove row k) ≡ remove (map read row) k
  map-less [] zero = refl
  map-less [] (suc k) = refl
  map-less (e ∷ es) zero = refl
  map-less (e ∷ es) (suc k) = ap (λ ws. read e ∷ ws) (map-less es k)

  pub each-more : (lists : List (List (Linked Waiting))) (l : ℕ) (e : Linked Waiting)
      → each (set lists l (list_of lists l ++ e ∷ [])) ≡ set (each lists) l (get_or (each lists) l [] ++ read e ∷ [])
  each-more lists l e =
      map-set (λ row. map read row) lists l (list_of lists l ++ e ∷ [])
      ∙ ap (λ row. set (each lists) l row)
      (map-append read (list_of lists l) (e ∷ []) ∙ ap (λ row. row ++ read e ∷ []) (sym (each-at lists l)))

  pub each-less : (lists : List (List (Linked Waiting))) (l k : ℕ)
      → each (set lists l (remove (list_of lists l) k)) ≡ set (each lists) l (remove (get_or (each lists) l []) k)
  each-less lists l k =
      map-set (λ row. map read row) lists l (remove (list_of lists l) k)
      ∙ ap (λ row. set (each lists) l row) (map-less (list_of lists l) k ∙ ap (λ row. remove row k) (sym (each-at lists l)))

  pub each-get : (lists : List (List (Linked Waiting))) (l k : ℕ) → slice_get (get_or (each lists) l []) k ≡ option_map read (slice_get (list_of lists l) k)
  each-get lists l k = ap (λ row. slice_get row k) (each-at lists l) ∙ slice_get-map read (list_of lists l) k

  pub each-length : (lists : List (List (Linked Waiting))) (l : ℕ) → length (get_or (each lists) l []) ≡ length (list_of lists l)
  each-length lists l = ap length (each-at lists l) ∙ length-map (list_of lists l) read

-- one slot of a list, as a walk along it finds it
module _ (lists : List (List (Linked Waiting))) (l k : ℕ) where
  pub value-here : (w : Waiting) → value_at lists l k ≡ Some w → slice_get (values_of lists l) k ≡ Some w
  value-here w at = slice_get-map (λ (e : Linked Waiting). e.value) (list_of lists l) k ∙ at

  pub place-within : (slot : SlotId) → IsSlotAt lists slot l k → k < length (list_of lists l)
  place-within slot at =
      let within = slice_get_within (map (λ (e : Linked Waiting). e.slot) (list_of lists l)) k slot (slice_get-map (λ (e : Linked Waiting). e.slot) (list_of lists l) k ∙ at) in
      omega (arith, within, length-map (list_of lists l) (λ (e : Linked Waiting). e.slot))

  pub past-end : slot_at lists l k ≡ None → length (values_of lists l) ≤ k
  past-end none =
      let same = length-map (list_of lists l) (λ (e : Linked Waiting). e.value) in
      ⊎_elim
      (λ lt.
      let at = some-at (list_of lists l) k lt in
      let found : slot_at lists l k ≡ Some at.0.slot = ap (λ (x : Option (Linked Waiting)). option_map (λ e. e.slot) x) at.1 in
      absurd (cc (none, found)))
      (λ le. omega (arith, le, same))
      (cases_lt k (length (list_of lists l)))

-- pools that are seen as a value
module _ (chains : Chained Waiting) (value : Waits) (is : waits_of chains ≡ value) where
  pub waiting-is : each (λ e. e.value) chains.lists ≡ value.waiting
  waiting-is = ap (λ (w : Waits). w.waiting) is

  pub slot-linked : (slot : SlotId) (o : ObjectId) (k : ℕ) → IsSlotOf value slot o k → IsSlotAt chains.lists slot o.0 k
  slot-linked slot o k at =
      let of-it : IsSlotOf (waits_of chains) slot o k = subst (λ w. IsSlotOf w slot o k) (sym is) at in
      sym (each-get (λ e. e.slot) chains.lists o.0 k) ∙ of-it.place

  pub linked-slot : (slot : SlotId) (o : ObjectId) (k : ℕ) → IsSlotAt chains.lists slot o.0 k → IsSlotOf value slot o k
  linked-slot slot o k at =
      let place : slice_get (slots_for (waits_of chains).slots o) k ≡ Some slot = each-get (λ e. e.slot) chains.lists o.0 k ∙ at in
      let within = slice_get_within (slots_for (waits_of chains).slots o) k slot place in
      let of-it : IsSlotOf (waits_of chains) slot o k = record {
        place = place;
        waits = omega (arith, within, each-length (λ e. e.slot) chains.lists o.0, each-length (λ e. e.value) chains.lists o.0);
      } in
      subst (λ w. IsSlotOf w slot o k) is of-it

  pub any-linked : (slot : SlotId) → IsSlot value slot → linked.IsSlot chains.lists slot
  any-linked slot at = let o : ObjectId = at.0 in (o.0, at.1, slot-linked slot at.0 at.1 at.2)

  pub stands : (o : ObjectId) (k : ℕ) (w : Waiting) → value_at chains.lists o.0 k ≡ Some w → StandsAt value.waiting o k w
  stands o k w at =
      subst (λ (v : Waits). StandsAt v.waiting o k w) is (each-get (λ e. e.value) chains.lists o.0 k ∙ at)

  pub values-are : (o : ObjectId) → values_of chains.lists o.0 ≡ waiting_for value.waiting o
  values-are o = sym (each-at (λ e. e.value) chains.lists o.0) ∙ ap (λ (v : Waits). waiting_for v.waiting o) is

  pub lists-count : length value.waiting ≡ length chains.lists
  lists-count = sym (ap (λ (ws : List (List Waiting)). length ws) waiting-is) ∙ length-map chains.lists (λ row. map (λ (e : Linked Waiting). e.value) row)

  pub object-there : (slot : SlotId) (o : ObjectId) (k : ℕ) → IsSlotOf value slot o k → o.0 < length chains.lists
  object-there slot o k at = listed chains.lists o.0 (slot-linked slot o k at)
    where
      listed : (lists : List (List (Linked Waiting))) (l : ℕ) → IsSlotAt lists slot l k → l < length lists
      listed [] l none = let clash : None ≡ Some slot = none in absurd (cc)
      listed (row ∷ rows) zero there = omega arith
      listed (row ∷ rows) (suc l) there = let lt = listed rows l there in omega (arith, lt)

  pub held-is : sum_by length chains.lists ≡ held_in value.waiting
  held-is = sym (each-held (λ e. e.value) chains.lists) ∙ ap (λ (v : Waits). held_in v.waiting) is

  pub left-is : (new : List (List (Linked Waiting))) (o : ObjectId) (k : ℕ) → new ≡ linked.without chains.lists o.0 k
      → each (λ e. e.value) new ≡ without value.waiting o k
  left-is new o k taken =
      ap (each (λ e. e.value)) taken ∙ each-less (λ e. e.value) chains.lists o.0 k ∙ ap (λ (v : Waits). without v.waiting o k) is

  pub more-is : (new : List (List (Linked Waiting))) (o : ObjectId) (slot : SlotId) (w : Waiting) → new ≡ linked.with_pushed chains.lists o.0 slot w
      → each (λ e. e.value) new ≡ with_arrived value.waiting o w
  more-is new o slot w come =
      ap (each (λ e. e.value)) come ∙ each-more (λ e. e.value) chains.lists o.0 (record { slot = slot; value = w })
      ∙ ap (λ (v : Waits). with_arrived v.waiting o w) is

  pub have-slots : HaveSlots value
  have-slots o k lt =
      let same = ap (λ (v : Waits). length (waiting_for v.waiting o)) is in
      let at = some-at (list_of chains.lists o.0) k (omega (arith, lt, same, each-length (λ e. e.value) chains.lists o.0)) in
      (at.0.slot, linked-slot at.0.slot o k (ap (λ (x : Option (Linked Waiting)). option_map (λ e. e.slot) x) at.1))

  pub have-own : linked.HaveOwnSlots chains.lists → HaveOwnSlots value
  have-own own slot o p k j one other =
      let same = own slot o.0 p.0 k j (slot-linked slot o k one) (slot-linked slot p j other) in
      (ap (λ n. let v : ObjectId = record { 0 = n } in v) same.0, same.1)
