-- Slots, once there is one more.
use Rattle.std.proofs.Common.{◌≡◌, ◌≢◌, ◌<◌, ◌+◌, ◌^◌, ◌++◌, ℕ, zero, suc, List, [], ◌∷◌, length, Some, None, slice_get, refl, sym, ap, subst, ◌∙◌, ⊎_elim, length-append, arith}
use Rattle.std.proofs.lemmas.Bool.{cases_lt}
use Rattle.std.specs.Option.{option_map_or}
use Rattle.pssm_links.specs.declared.links.Slot.{Slot}
use Rattle.pssm_links.specs.inner.Rings.{row_of, IsEdge, IsPath, AreRings, AreEnds}

pub get-append_before : {X : Type 0} (xs : List X) (y : X) (k : ℕ) → k < length xs → slice_get (xs ++ y ∷ []) k ≡ slice_get xs k
get-append_before [] y k lt = absurd (omega arith)
get-append_before (x ∷ xs) y zero lt = refl
get-append_before (x ∷ xs) y (suc k) lt = get-append_before xs y k (omega arith)

pub get-append_apart : {X : Type 0} (xs : List X) (y : X) (k : ℕ) → k ≢ length xs → slice_get (xs ++ y ∷ []) k ≡ slice_get xs k
get-append_apart [] y zero apart = absurd (apart refl)
get-append_apart [] y (suc k) apart = refl
get-append_apart (x ∷ xs) y zero apart = refl
get-append_apart (x ∷ xs) y (suc k) apart = get-append_apart xs y k (λ same. apart (omega (arith, same)))

pub get-append_end : {X : Type 0} (xs : List X) (y : X) (k : ℕ) → k ≡ length xs → slice_get (xs ++ y ∷ []) k ≡ Some y
get-append_end [] y zero same = refl
get-append_end [] y (suc k) same = absurd (omega (arith, same))
get-append_end (x ∷ xs) y zero same = absurd (omega (arith, same))
get-append_end (x ∷ xs) y (suc k) same = get-append_end xs y k (omega (arith, same))

module _ {T X : Type 0} (read : Slot T → X) (none : X) (slots : List (Slot T)) (y : Slot T) where
  pub read-before : (k : ℕ) → k < length slots
      → option_map_or read (slice_get (slots ++ y ∷ []) k) none ≡ option_map_or read (slice_get slots k) none
  read-before k lt = ap (λ o. option_map_or read o none) (get-append_before slots y k lt)

  pub read-end : (k : ℕ) → k ≡ length slots → option_map_or read (slice_get (slots ++ y ∷ []) k) none ≡ read y
  read-end k same = ap (λ o. option_map_or read o none) (get-append_end slots y k same)

module _ {T : Type 0} where
  pub more-length : (slots : List (Slot T)) (y : Slot T) → length (slots ++ y ∷ []) ≡ length slots + 1
  more-length slots y = omega (arith, length-append slots (y ∷ []))

  pub ends-none : AreEnds {T = T} [] 0
  ends-none = record {
    size = refl;
    few = omega arith;
    next = λ l lt. absurd (omega (arith, lt));
    prev = λ l lt. absurd (omega (arith, lt));
    values = λ l lt. absurd (omega (arith, lt));
  }

  pub ends-more : (slots : List (Slot T)) (n : ℕ) → n < 2 ^ 32 → AreEnds slots n
      → AreEnds (slots ++ record { prev = n; next = n; value = None } ∷ []) (n + 1)
  ends-more slots n few ends =
      let y : Slot T = record { prev = n; next = n; value = None } in
      let size = ends.size in
      record {
        size = omega (arith, more-length slots y, size);
        few = omega (arith, few);
        next = λ l lt.
            ⊎_elim
            (λ before. read-before (λ s. s.next) 0 slots y l (omega (arith, before, size)) ∙ ends.next l before)
            (λ le. read-end (λ s. s.next) 0 slots y l (omega (arith, le, lt, size)) ∙ (let same : n ≡ l = omega (arith, le, lt) in same))
            (cases_lt l n);
        prev = λ l lt.
            ⊎_elim
            (λ before. read-before (λ s. s.prev) 0 slots y l (omega (arith, before, size)) ∙ ends.prev l before)
            (λ le. read-end (λ s. s.prev) 0 slots y l (omega (arith, le, lt, size)) ∙ (let same : n ≡ l = omega (arith, le, lt) in same))
            (cases_lt l n);
        values = λ l lt.
            ⊎_elim
            (λ before. read-before (λ s. s.value) None slots y l (omega (arith, before, size)) ∙ ends.values l before)
            (λ le. read-end (λ s. s.value) None slots y l (omega (arith, le, lt, size)))
            (cases_lt l n);
      }

  pub ends-pushed : (slots new : List (Slot T)) (y : Slot T) (n m : ℕ) → m ≡ n → n < 2 ^ 32 → y ≡ record { prev = n; next = n; value = None }
      → new ≡ slots ++ y ∷ [] → AreEnds slots m → AreEnds new (n + 1)
  ends-pushed slots new y n m same few is pushed ends =
      subst
      (λ zs. AreEnds zs (n + 1))
      (sym (pushed ∙ ap (λ z. slots ++ z ∷ []) is))
      (ends-more slots n few (subst (λ z. AreEnds slots z) same ends))

  edge-more : (slots : List (Slot T)) (y : Slot T) (a b : ℕ) → IsEdge slots a b → IsEdge (slots ++ y ∷ []) a b
  edge-more slots y a b e = record {
    next = read-before (λ s. s.next) 0 slots y a e.from ∙ e.next;
    prev = read-before (λ s. s.prev) 0 slots y b e.to ∙ e.prev;
    from = let le = e.from in omega (arith, le, more-length slots y);
    to = let le = e.to in omega (arith, le, more-length slots y);
  }

  path-grown : (slots : List (Slot T)) (y : Slot T) (a : ℕ) (ks : List ℕ) (b : ℕ) → IsPath slots a ks b → IsPath (slots ++ y ∷ []) a ks b
  path-grown slots y a [] b path = edge-more slots y a b path
  path-grown slots y a (k ∷ ks) b path = (edge-more slots y a k path.0, path-grown slots y k ks b path.1)

  -- the rings are as they were where there is one more slot
  pub rings-grown : (slots : List (Slot T)) (y : Slot T) (rows : List (List ℕ)) → length slots < 2 ^ 32 → AreRings slots rows
      → AreRings (slots ++ y ∷ []) rows
  rings-grown slots y rows few rings = record {
    rings = λ l lt. path-grown slots y l (row_of rows l) l (rings.rings l lt);
    once = rings.once;
    apart = rings.apart;
    within = λ k past. rings.within k (omega (arith, past, more-length slots y));
    size = let size = rings.size in omega (arith, size, more-length slots y);
    few = omega (arith, few, more-length slots y);
  }
