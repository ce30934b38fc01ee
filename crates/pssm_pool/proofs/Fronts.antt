-- The fronts of the pools, while they go on, and while signals come and leave.
use Rattle.std.proofs.Common.{◌≡◌, ◌<◌, ◌≤◌, ◌+◌, ◌++◌, ◌⊎◌, inl, inr, ℕ, zero, suc, List, [], ◌∷◌, length, replicate, Option, Some, None, option_map, slice_get, refl, sym, ap, subst, ◌∙◌, ⊎_elim, arith}
use Rattle.std.proofs.Math.ListN.{set, length-set}
use Rattle.std.specs.List.{AllByRecursion, remove}
use Rattle.std.proofs.lemmas.Bool.{cases_lt}
use Rattle.std.proofs.lemmas.Bool.Decides.{eqb_tells}
use Rattle.std.proofs.lemmas.Option.{slice_get_within}
use Rattle.pssm_links.specs.declared.slot.SlotId.{SlotId}
use Rattle.pssm_links.specs.Chained.{Linked, list_of, slot_at, IsSlotAt, with_pushed, without}
use Rattle.pssm_pool.specs.declared.pools.Waiting.{Waiting}
use Rattle.pssm_pool.specs.declared.front.Kind.{Kind}
use Rattle.pssm_pool.specs.declared.front.Front.{Front}
use Rattle.pssm_pool.specs.Telling.{AreAlike}
use Rattle.pssm_pool.specs.inner.Fronts.{IsKnownBy, IsKindOf, AreKinds, IsEndAt, IsEnd, IsFront, AreFronts, IsEmpty, AreEmpty}

-- what stands in a list with one more at its end
module _ {X : Type 0} where
  pub get-old : (xs ys : List X) (k : ℕ) (x : X) → slice_get xs k ≡ Some x → slice_get (xs ++ ys) k ≡ Some x
  get-old [] ys k x e = let none : None ≡ Some x = e in absurd (cc)
  get-old (z ∷ xs) ys zero x e = e
  get-old (z ∷ xs) ys (suc k) x e = get-old xs ys k x e

  pub get-last : (xs : List X) (x : X) → slice_get (xs ++ x ∷ []) (length xs) ≡ Some x
  get-last [] x = refl
  get-last (z ∷ xs) x = get-last xs x

  pub get-more : (xs : List X) (x : X) (k : ℕ) (y : X) → slice_get (xs ++ x ∷ []) k ≡ Some y → (slice_get xs k ≡ Some y) ⊎ ((k ≡ length xs) × (x ≡ y))
  get-more [] x zero y e = inr (refl, (let same : Some x ≡ Some y = e in cc))
  get-more [] x (suc k) y e = let none : None ≡ Some y = e in absurd (cc)
  get-more (z ∷ xs) x zero y e = inl e
  get-more (z ∷ xs) x (suc k) y e = ⊎_elim (λ old. inl old) (λ new. inr (ap suc new.0, new.1)) (get-more xs x k y e)

  -- and without one
  pub get-less : (xs : List X) (k j : ℕ) → j < k → slice_get (remove xs k) j ≡ slice_get xs j
  get-less [] zero j lt = refl
  get-less [] (suc k) j lt = refl
  get-less (x ∷ xs) zero j lt = absurd (omega arith)
  get-less (x ∷ xs) (suc k) zero lt = refl
  get-less (x ∷ xs) (suc k) (suc j) lt = get-less xs k j (omega arith)

  -- and with one written
  pub get-set_same : (xs : List X) (k : ℕ) (y z : X) → slice_get (set xs k y) k ≡ Some z → y ≡ z
  get-set_same [] k y z e = let none : None ≡ Some z = e in absurd (cc)
  get-set_same (x ∷ xs) zero y z e = let same : Some y ≡ Some z = e in cc
  get-set_same (x ∷ xs) (suc k) y z e = get-set_same xs k y z e

  pub get-set_other : (xs : List X) (k j : ℕ) (y : X) → (j ≡ k → ⊥) → slice_get (set xs k y) j ≡ slice_get xs j
  get-set_other [] k j y apart = refl
  get-set_other (x ∷ xs) zero zero y apart = absurd (apart refl)
  get-set_other (x ∷ xs) zero (suc j) y apart = refl
  get-set_other (x ∷ xs) (suc k) zero y apart = refl
  get-set_other (x ∷ xs) (suc k) (suc j) y apart = get-set_other xs k j y (λ e. apart (omega (arith, e)))

-- the lists of which one is written
pub list-same : (lists : List (List (Linked Waiting))) (l : ℕ) (row : List (Linked Waiting)) → l < length lists → list_of (set lists l row) l ≡ row
list-same [] l row lt = absurd (omega arith)
list-same (x ∷ xs) zero row lt = refl
list-same (x ∷ xs) (suc l) row lt = list-same xs l row (omega arith)

pub list-other : (lists : List (List (Linked Waiting))) (l m : ℕ) (row : List (Linked Waiting)) → (m ≡ l → ⊥) → list_of (set lists l row) m ≡ list_of lists m
list-other [] l m row apart = refl
list-other (x ∷ xs) zero zero row apart = absurd (apart refl)
list-other (x ∷ xs) zero (suc m) row apart = refl
list-other (x ∷ xs) (suc l) zero row apart = refl
list-other (x ∷ xs) (suc l) (suc m) row apart = list-other xs l m row (λ e. apart (omega (arith, e)))

-- a value with its slot
pub slot-of : (lists : List (List (Linked Waiting))) (l k : ℕ) (e : Linked Waiting) (slot : SlotId) → slice_get (list_of lists l) k ≡ Some e → e.slot ≡ slot
    → IsSlotAt lists slot l k
slot-of lists l k e slot at is = ap (λ (x : Option (Linked Waiting)). option_map (λ e. e.slot) x) at ∙ ap Some is

pub entry-of : (lists : List (List (Linked Waiting))) (l k : ℕ) (slot : SlotId) → IsSlotAt lists slot l k
    → (e : Linked Waiting) × (slice_get (list_of lists l) k ≡ Some e) × (e.slot ≡ slot)
entry-of lists l k slot at = by (slice_get (list_of lists l) k) refl at
  where
    by : (found : Option (Linked Waiting)) → slice_get (list_of lists l) k ≡ found → option_map (λ (e : Linked Waiting). e.slot) found ≡ Some slot
        → (e : Linked Waiting) × (slice_get (list_of lists l) k ≡ Some e) × (e.slot ≡ slot)
    by None is none = let clash : None ≡ Some slot = none in absurd (cc)
    by (Some e) is same = (e, is, (let one : Some e.slot ≡ Some slot = same in cc))

pub value-is : (lists : List (List (Linked Waiting))) (l k : ℕ) (e : Linked Waiting) (w : Waiting) → slice_get (list_of lists l) k ≡ Some e
    → option_map (λ (e : Linked Waiting). e.value) (slice_get (list_of lists l) k) ≡ Some w → e.value ≡ w
value-is lists l k e w at is =
    let one : Some e.value ≡ Some w = sym (ap (λ (x : Option (Linked Waiting)). option_map (λ e. e.value) x) at) ∙ is in cc

-- no kinds of no signals
no-kinds : (row : List (Linked Waiting)) → AreKinds row [] 0
no-kinds row = record {
  stand = λ i kind at. let none : None ≡ Some kind = at in absurd (cc);
  ascend = λ i j one other lt at there. let none : None ≡ Some one = at in absurd (cc);
  known = λ j e lt at. absurd (omega arith);
}

pub front-empty : (row : List (Linked Waiting)) (front : Front) → IsEmpty front → IsFront row front
front-empty row front e = record {
  kinds = subst (λ (ks : List Kind). AreKinds row ks front.count) (sym e.kinds) (subst (λ n. AreKinds row [] n) (sym e.count) (no-kinds row));
  end = subst (λ (o : Option SlotId). IsEnd row front.count o) (sym e.end) e.count;
}

-- one signal more, of a kind that is known
pub known-kind : (row : List (Linked Waiting)) (kinds : List Kind) (count : ℕ) (e : Linked Waiting) → AreKinds row kinds count → slice_get row count ≡ Some e
    → IsKnownBy row kinds count e.value → AreKinds row kinds (count + 1)
known-kind row kinds count e were at by = record {
  stand = λ i kind listed.
      let was = were.stand i kind listed in
      record { first = was.first; before = (let lt = was.before in omega (arith, lt)); there = was.there; slot_is = was.slot_is };
  ascend = were.ascend;
  known = λ j x lt there.
      ⊎_elim
      (λ less. were.known j x less there)
      (λ most.
      let same : j ≡ count = omega (arith, lt, most) in
      let one : Some e ≡ Some x = sym at ∙ subst (λ n. slice_get row n ≡ Some x) same there in
      let alike : e ≡ x = cc in
      subst (λ n. IsKnownBy row kinds n x.value) (sym same) (subst (λ (y : Linked Waiting). IsKnownBy row kinds count y.value) alike by))
      (cases_lt j count);
}

-- one signal more, which is the first of its kind
module _ (row : List (Linked Waiting)) (kinds : List Kind) (count : ℕ) (e : Linked Waiting) (kind : Kind) (were : AreKinds row kinds count)
    (at : slice_get row count ≡ Some e) (place : kind.place ≡ count) (slot : e.slot ≡ kind.slot) where
  more-stand : (i : ℕ) (one : Kind) → slice_get (kinds ++ kind ∷ []) i ≡ Some one → IsKindOf row (count + 1) one
  more-stand i one listed =
      ⊎_elim
      (λ old.
      let was = were.stand i one old in
      record { first = was.first; before = (let lt = was.before in omega (arith, lt)); there = was.there; slot_is = was.slot_is })
      (λ new.
      subst (λ (k : Kind). IsKindOf row (count + 1) k) new.1
      (record {
        first = e;
        before = omega (arith, place);
        there = ap (λ n. slice_get row n) place ∙ at;
        slot_is = slot;
      }))
      (get-more kinds kind i one listed)

  more-ascend : (i j : ℕ) (one other : Kind) → i < j → slice_get (kinds ++ kind ∷ []) i ≡ Some one → slice_get (kinds ++ kind ∷ []) j ≡ Some other
      → one.place < other.place
  more-ascend i j one other lt here there =
      ⊎_elim
      (λ new_j.
      ⊎_elim
      (λ old_i. were.ascend i j one other lt old_i new_j)
      (λ last_i. let within = slice_get_within kinds j other new_j in absurd (omega (arith, within, lt, last_i.0)))
      (get-more kinds kind i one here))
      (λ last_j.
      ⊎_elim
      (λ old_i.
      let before = (were.stand i one old_i).before in
      let same : other.place ≡ count = ap (λ (k : Kind). k.place) (sym last_j.1) ∙ place in
      omega (arith, before, same))
      (λ last_i. absurd (omega (arith, lt, last_i.0, last_j.0)))
      (get-more kinds kind i one here))
      (get-more kinds kind j other there)

  more-known : (j : ℕ) (x : Linked Waiting) → j < count + 1 → slice_get row j ≡ Some x → IsKnownBy row (kinds ++ kind ∷ []) j x.value
  more-known j x lt there =
      ⊎_elim
      (λ less.
      let was = were.known j x less there in
      record {
        number = was.number;
        kind = was.kind;
        first = was.first;
        listed = get-old kinds (kind ∷ []) was.number was.kind was.listed;
        order = was.order;
        there = was.there;
        alike = was.alike;
      })
      (λ most.
      let same : j ≡ count = omega (arith, lt, most) in
      record {
        number = length kinds;
        kind = kind;
        first = x;
        listed = get-last kinds kind;
        order = omega (arith, place, most);
        there = ap (λ n. slice_get row n) (place ∙ sym same) ∙ there;
        alike = (refl, refl);
      })
      (cases_lt j count)

  pub new-kind : AreKinds row (kinds ++ kind ∷ []) (count + 1)
  new-kind = record { stand = more-stand; ascend = more-ascend; known = more-known }

-- the last signal of a front
pub front-end : (row : List (Linked Waiting)) (front : Front) (slot : SlotId) → IsFront row front → front.end ≡ Some slot → IsEndAt row front.count slot
front-end row front slot is at = subst (λ (o : Option SlotId). IsEnd row front.count o) at is.end

pub front-none : (row : List (Linked Waiting)) (front : Front) → IsFront row front → front.end ≡ None → front.count ≡ 0
front-none row front is at = subst (λ (o : Option SlotId). IsEnd row front.count o) at is.end

front-within : (row : List (Linked Waiting)) (front : Front) → IsFront row front → front.count ≤ length row
front-within row front is = by front.end refl
  where
    by : (end : Option SlotId) → front.end ≡ end → front.count ≤ length row
    by None none = let zero_is = front-none row front is none in omega (arith, zero_is)
    by (Some slot) some =
        let last = front-end row front slot is some in
        let within = slice_get_within row last.place last.last last.there in
        omega (arith, within, last.count_is)

-- a front of which the last signal is this one
pub front-more : (row : List (Linked Waiting)) (front : Front) (place : ℕ) (e : Linked Waiting) (slot : SlotId) → AreKinds row front.kinds.items front.count
    → front.count ≡ place + 1 → front.end ≡ Some slot → slice_get row place ≡ Some e → e.slot ≡ slot → IsFront row front
front-more row front place e slot kinds count end at is = record {
  kinds = kinds;
  end = subst (λ (o : Option SlotId). IsEnd row front.count o) (sym end)
      (record { place = place; last = e; count_is = count; there = at; slot_is = is });
}

-- what is known of the first signals is known of other lists that begin so
module _ (row other : List (Linked Waiting)) (front : Front) (is : IsFront row front)
    (same : (j : ℕ) → j < front.count → slice_get other j ≡ slice_get row j) where
  kinds-alike : AreKinds other front.kinds.items front.count
  kinds-alike = record {
    stand = λ i kind listed.
        let was = is.kinds.stand i kind listed in
        record { first = was.first; before = was.before; there = same kind.place was.before ∙ was.there; slot_is = was.slot_is };
    ascend = is.kinds.ascend;
    known = λ j e lt there.
        let was = is.kinds.known j e lt (sym (same j lt) ∙ there) in
        let before : was.kind.place < front.count = omega (arith, was.order, lt) in
        record {
          number = was.number;
          kind = was.kind;
          first = was.first;
          listed = was.listed;
          order = was.order;
          there = same was.kind.place before ∙ was.there;
          alike = was.alike;
        };
  }

  end-alike : (end : Option SlotId) → front.end ≡ end → IsEnd other front.count end
  end-alike None none = front-none row front is none
  end-alike (Some slot) some =
      let last = front-end row front slot is some in
      record {
        place = last.place;
        last = last.last;
        count_is = last.count_is;
        there = same last.place (omega (arith, last.count_is)) ∙ last.there;
        slot_is = last.slot_is;
      }

  pub front-alike : IsFront other front
  front-alike = record { kinds = kinds-alike; end = end-alike front.end refl }

pub front-arrived : (row : List (Linked Waiting)) (e : Linked Waiting) (front : Front) → IsFront row front → IsFront (row ++ e ∷ []) front
front-arrived row e front is = front-alike row (row ++ e ∷ []) front is
    (λ j lt. same j (omega (arith, lt, front-within row front is)))
  where
    same : (j : ℕ) → j < length row → slice_get (row ++ e ∷ []) j ≡ slice_get row j
    same j lt = old row j lt
      where
        old : (xs : List (Linked Waiting)) (j : ℕ) → j < length xs → slice_get (xs ++ e ∷ []) j ≡ slice_get xs j
        old [] j lt = absurd (omega arith)
        old (x ∷ xs) zero lt = refl
        old (x ∷ xs) (suc j) lt = old xs j (omega arith)

pub front-left : (row : List (Linked Waiting)) (k : ℕ) (front : Front) → IsFront row front → front.count ≤ k → IsFront (remove row k) front
front-left row k front is ahead = front-alike row (remove row k) front is (λ j lt. get-less row k j (omega (arith, lt, ahead)))

-- all fronts
module _ (lists : List (List (Linked Waiting))) (fronts : List Front) where
  pub fronts-empty : length fronts ≡ length lists → AreEmpty fronts → AreFronts lists fronts
  fronts-empty count all = record { count = count; each = λ l front at. front-empty (list_of lists l) front (at-place fronts l front all at) }
    where
      at-place : (fs : List Front) (l : ℕ) (front : Front) → AreEmpty fs → slice_get fs l ≡ Some front → IsEmpty front
      at-place [] l front all at = let none : None ≡ Some front = at in absurd (cc)
      at-place (f ∷ fs) zero front all at = let same : f ≡ front = cc in subst IsEmpty same all.0
      at-place (f ∷ fs) (suc l) front all at = at-place fs l front all.1 at

  module _ (l : ℕ) (lt : l < length lists) (are : AreFronts lists fronts) where
    pub fronts-arrived : (slot : SlotId) (w : Waiting) → AreFronts (with_pushed lists l slot w) fronts
    fronts-arrived slot w = record {
      count = are.count ∙ sym (length-set lists l (list_of lists l ++ record { slot = slot; value = w } ∷ []));
      each = λ m front at.
          ⊎_elim
          (λ here.
          let row : list_of (with_pushed lists l slot w) m ≡ list_of lists m ++ record { slot = slot; value = w } ∷ [] =
          subst (λ n. list_of (with_pushed lists l slot w) n ≡ list_of lists n ++ record { slot = slot; value = w } ∷ []) (sym here.1)
          (list-same lists l (list_of lists l ++ record { slot = slot; value = w } ∷ []) lt) in
          subst (λ (r : List (Linked Waiting)). IsFront r front) (sym row) (front-arrived (list_of lists m) (record { slot = slot; value = w }) front (are.each m front at)))
          (λ other.
          subst (λ (r : List (Linked Waiting)). IsFront r front)
          (sym (list-other lists l m (list_of lists l ++ record { slot = slot; value = w } ∷ []) (λ e. apart m l e other.1)))
          (are.each m front at))
          (eqb_tells m l);
    }
      where
        apart : (m l : ℕ) → m ≡ l → (m ≡ l → ⊥) → ⊥
        apart m l e not = not e

    pub fronts-left : (k : ℕ) (front : Front) → IsFront (list_of lists l) front → front.count ≤ k → AreFronts (without lists l k) (set fronts l front)
    fronts-left k front is ahead = record {
      count = length-set fronts l front ∙ are.count ∙ sym (length-set lists l (remove (list_of lists l) k));
      each = λ m other at.
          ⊎_elim
          (λ here.
          let there : slice_get (set fronts l front) l ≡ Some other = subst (λ n. slice_get (set fronts l front) n ≡ Some other) here.1 at in
          let same : front ≡ other = get-set_same fronts l front other there in
          let row : list_of (without lists l k) m ≡ remove (list_of lists l) k =
          subst (λ n. list_of (without lists l k) n ≡ remove (list_of lists l) k) (sym here.1) (list-same lists l (remove (list_of lists l) k) lt) in
          subst (λ (r : List (Linked Waiting)). IsFront r other) (sym row)
          (subst (λ (f : Front). IsFront (remove (list_of lists l) k) f) same (front-left (list_of lists l) k front is ahead)))
          (λ away.
          subst (λ (r : List (Linked Waiting)). IsFront r other) (sym (list-other lists l m (remove (list_of lists l) k) away.1))
          (are.each m other (sym (get-set_other fronts l m front away.1) ∙ at)))
          (eqb_tells m l);
    }

    -- an empty front stays
    pub fronts-stay : (k : ℕ) (front : Front) → slice_get fronts l ≡ Some front → front.count ≡ 0 → AreFronts (without lists l k) fronts
    fronts-stay k front there zero_is = record {
      count = are.count ∙ sym (length-set lists l (remove (list_of lists l) k));
      each = λ m other at.
          ⊎_elim
          (λ here.
          let at_l : slice_get fronts l ≡ Some other = subst (λ n. slice_get fronts n ≡ Some other) here.1 at in
          let same : Some front ≡ Some other = sym there ∙ at_l in
          let one : front ≡ other = cc in
          let none : other.count ≡ 0 = ap (λ (f : Front). f.count) (sym one) ∙ zero_is in
          let row : list_of (without lists l k) m ≡ remove (list_of lists l) k =
          subst (λ n. list_of (without lists l k) n ≡ remove (list_of lists l) k) (sym here.1) (list-same lists l (remove (list_of lists l) k) lt) in
          subst (λ (r : List (Linked Waiting)). IsFront r other) (sym row)
          (front-left (list_of lists l) k other (are.each l other at_l) (omega (arith, none))))
          (λ away.
          subst (λ (r : List (Linked Waiting)). IsFront r other) (sym (list-other lists l m (remove (list_of lists l) k) away.1))
          (are.each m other at))
          (eqb_tells m l);
    }

-- so many empty lists
pub length-empty : (n : ℕ) → length (let lists : List (List (Linked Waiting)) = replicate n [] in lists) ≡ n
length-empty zero = refl
length-empty (suc n) = ap suc (length-empty n)

-- more empty fronts
pub empty-more : (fronts : List Front) (front : Front) → AreEmpty fronts → IsEmpty front → AreEmpty (fronts ++ front ∷ [])
empty-more [] front all one = (one, tt)
empty-more (f ∷ fs) front all one = (all.0, empty-more fs front all.1 one)

-- So many of the fronts are empty.
abbrev pub AreEmptyTo : List Front → ℕ → Type 0
AreEmptyTo fronts n = (j : ℕ) (front : Front) → j < n → slice_get fronts j ≡ Some front → IsEmpty front

pub one-emptied : (fronts : List Front) (n : ℕ) (front : Front) → AreEmptyTo fronts n → IsEmpty front → AreEmptyTo (set fronts n front) (n + 1)
one-emptied fronts n front all one j other lt at =
    ⊎_elim
    (λ here.
    let there : slice_get (set fronts n front) n ≡ Some other = subst (λ k. slice_get (set fronts n front) k ≡ Some other) here.1 at in
    subst IsEmpty (get-set_same fronts n front other there) one)
    (λ away. all j other (let not = away.1 in omega (arith, lt, not)) (sym (get-set_other fronts n j front away.1) ∙ at))
    (eqb_tells j n)

pub all-emptied : (fronts : List Front) (n : ℕ) → length fronts ≤ n → AreEmptyTo fronts n → AreEmpty fronts
all-emptied [] n le all = tt
all-emptied (f ∷ fs) zero le all = absurd (omega arith)
all-emptied (f ∷ fs) (suc n) le all = (all 0 f (omega arith) refl, all-emptied fs n (omega arith) (λ j front lt at. all (suc j) front (omega arith) at))
