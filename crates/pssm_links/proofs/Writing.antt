-- The links and the values of the slots, once one slot is written.
use Rattle.std.proofs.Common.{◌≡◌, ◌≢◌, ◌<◌, ℕ, zero, suc, List, [], ◌∷◌, length, get_or, Option, Some, None, slice_get, refl, sym, ap, subst, ◌∙◌, ⊎_elim, arith}
use Rattle.std.proofs.Math.ListN.{set}
use Rattle.std.proofs.lemmas.Bool.Decides.{eqb_tells}
use Rattle.std.proofs.lemmas.List.{length-set}
use Rattle.std.proofs.lemmas.Option.{slice_get-get_or}
use Rattle.std.specs.Option.{option_map_or}
use Rattle.pssm_links.specs.declared.links.Slot.{Slot}
use Rattle.pssm_links.specs.inner.Rings.{next_of, prev_of, Joins, IsWritten}

pub get-set_same : {X : Type 0} (xs : List X) (k : ℕ) (y : X) → k < length xs → slice_get (set xs k y) k ≡ Some y
get-set_same [] k y lt = absurd (omega arith)
get-set_same (x ∷ xs) zero y lt = refl
get-set_same (x ∷ xs) (suc k) y lt = get-set_same xs k y (omega arith)

pub get-set_other : {X : Type 0} (xs : List X) (k j : ℕ) (y : X) → j ≢ k → slice_get (set xs k y) j ≡ slice_get xs j
get-set_other [] k j y apart = refl
get-set_other (x ∷ xs) zero zero y apart = absurd (apart refl)
get-set_other (x ∷ xs) zero (suc j) y apart = refl
get-set_other (x ∷ xs) (suc k) zero y apart = refl
get-set_other (x ∷ xs) (suc k) (suc j) y apart = get-set_other xs k j y (λ e. apart (omega (arith, e)))

module _ {T X : Type 0} (read : Slot T → X) (none : X) (slots : List (Slot T)) (at : ℕ) (y : Slot T) (lt : at < length slots) where
  written : option_map_or read (slice_get (set slots at y) at) none ≡ read y
  written = ap (λ o. option_map_or read o none) (get-set_same slots at y lt)

  other : (k : ℕ) → k ≢ at → option_map_or read (slice_get (set slots at y) k) none ≡ option_map_or read (slice_get slots k) none
  other k apart = ap (λ o. option_map_or read o none) (get-set_other slots at k y apart)

  kept : (d : Slot T) → read y ≡ read (get_or slots at d) → (k : ℕ)
      → option_map_or read (slice_get (set slots at y) k) none ≡ option_map_or read (slice_get slots k) none
  kept d same k =
      ⊎_elim
      (λ yes.
      let here : option_map_or read (slice_get slots at) none ≡ read (get_or slots at d) =
      ap (λ o. option_map_or read o none) (slice_get-get_or slots at d lt) in
      subst
      (λ j. option_map_or read (slice_get (set slots at y) j) none ≡ option_map_or read (slice_get slots j) none)
      (sym yes.1)
      (written ∙ same ∙ sym here))
      (λ no. other k no.1)
      (eqb_tells k at)

module _ {T : Type 0} where
  abbrev pub with_next : List (Slot T) → ℕ → ℕ → Slot T → List (Slot T)
  with_next slots a b d = set slots a (record { prev = (get_or slots a d).prev; next = b; value = (get_or slots a d).value })

  abbrev pub with_prev : List (Slot T) → ℕ → ℕ → Slot T → List (Slot T)
  with_prev slots b a d = set slots b (record { prev = a; next = (get_or slots b d).next; value = (get_or slots b d).value })

  abbrev pub with_value : List (Slot T) → ℕ → Option T → Slot T → List (Slot T)
  with_value slots k v d = set slots k (record { prev = (get_or slots k d).prev; next = (get_or slots k d).next; value = v })

  pub joins-set : (slots : List (Slot T)) (a b : ℕ) (d e : Slot T) → a < length slots → b < length slots
      → Joins slots (with_prev (with_next slots a b d) b a e) a b
  joins-set slots a b d e la lb =
      let x : Slot T = record { prev = (get_or slots a d).prev; next = b; value = (get_or slots a d).value } in
      let one = with_next slots a b d in
      let y : Slot T = record { prev = a; next = (get_or one b e).next; value = (get_or one b e).value } in
      let lo : b < length one = omega (arith, length-set slots a x, lb) in
      record {
        size = length-set one b y ∙ length-set slots a x;
        next = kept (λ s. s.next) 0 one b y lo e refl a ∙ written (λ s. s.next) 0 slots a x la;
        nexts = λ k apart. kept (λ s. s.next) 0 one b y lo e refl k ∙ other (λ s. s.next) 0 slots a x la k apart;
        prev = written (λ s. s.prev) 0 one b y lo;
        prevs = λ k apart. other (λ s. s.prev) 0 one b y lo k apart ∙ kept (λ s. s.prev) 0 slots a x la d refl k;
        values = λ k. kept (λ s. s.value) None one b y lo e refl k ∙ kept (λ s. s.value) None slots a x la d refl k;
      }

  enclosed : (slots : List (Slot T)) (a k b : ℕ) (d e : Slot T) → a < length slots → b < length slots → a < k
      → prev_of slots k ≡ a → next_of slots k ≡ b
      → (between : List (Slot T)) × Joins slots between a k × Joins between (with_prev (with_next slots a k d) b k e) k b
  enclosed slots a k b d e la lb apart prev next =
      let x : Slot T = record { prev = (get_or slots a d).prev; next = k; value = (get_or slots a d).value } in
      let one = with_next slots a k d in
      let y : Slot T = record { prev = k; next = (get_or one b e).next; value = (get_or one b e).value } in
      let lo : b < length one = omega (arith, length-set slots a x, lb) in (
        one,
        record {
          size = length-set slots a x;
          next = written (λ s. s.next) 0 slots a x la;
          nexts = λ j far. other (λ s. s.next) 0 slots a x la j far;
          prev = kept (λ s. s.prev) 0 slots a x la d refl k ∙ prev;
          prevs = λ j far. kept (λ s. s.prev) 0 slots a x la d refl j;
          values = λ j. kept (λ s. s.value) None slots a x la d refl j;
        },
        record {
          size = length-set one b y;
          next = kept (λ s. s.next) 0 one b y lo e refl k ∙ other (λ s. s.next) 0 slots a x la k (λ same. omega (arith, same, apart)) ∙ next;
          nexts = λ j far. kept (λ s. s.next) 0 one b y lo e refl j;
          prev = written (λ s. s.prev) 0 one b y lo;
          prevs = λ j far. other (λ s. s.prev) 0 one b y lo j far;
          values = λ j. kept (λ s. s.value) None one b y lo e refl j;
        },
      )

  -- the slot has its own links, and the two that lead to it are written
  pub enclosed-set : (slots : List (Slot T)) (a k b : ℕ) (d e : Slot T) → a < length slots → b < length slots → a < k
      → prev_of slots b ≡ a → prev_of slots k ≡ a → next_of slots k ≡ b
      → (between : List (Slot T)) × Joins slots between (prev_of slots b) k × Joins between (with_prev (with_next slots a k d) b k e) k b
  enclosed-set slots a k b d e la lb apart last prev next =
      subst (λ z. (between : List (Slot T)) × Joins slots between z k × Joins between (with_prev (with_next slots a k d) b k e) k b) (sym last) (enclosed slots a k b d e la lb apart prev next)

  pub written-set : (slots : List (Slot T)) (k : ℕ) (v : Option T) (d : Slot T) → k < length slots
      → IsWritten slots (with_value slots k v d) k v
  written-set slots k v d lt =
      let x : Slot T = record { prev = (get_or slots k d).prev; next = (get_or slots k d).next; value = v } in
      record {
        size = length-set slots k x;
        nexts = kept (λ s. s.next) 0 slots k x lt d refl;
        prevs = kept (λ s. s.prev) 0 slots k x lt d refl;
        value = written (λ s. s.value) None slots k x lt;
        values = other (λ s. s.value) None slots k x lt;
      }

  -- the slot that is read
  pub read-at : {X : Type 0} (read : Slot T → X) (none : X) (slots : List (Slot T)) (k : ℕ) (d : Slot T) → k < length slots
      → option_map_or read (slice_get slots k) none ≡ read (get_or slots k d)
  read-at read none slots k d lt = ap (λ o. option_map_or read o none) (slice_get-get_or slots k d lt)
