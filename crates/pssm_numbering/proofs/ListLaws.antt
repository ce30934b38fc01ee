-- Filters over the first numbers, and the places in them.
use Rattle.std.proofs.Common.{◌≡◌, ◌<◌, ◌≤◌, ◌+◌, ◌==◌, ℕ, zero, suc, Bool, true, false, cond, eqb, List, [], ◌∷◌, ◌++◌, length, map}
use Rattle.std.proofs.Common.{filter, get_or, Option, Some, None, Result, Ok, Err, IfOk}
use Rattle.std.proofs.Common.{refl, sym, ap, subst, ◌∙◌, ⊎_elim, arith, length-append, append-nil, zero-add}
use Rattle.std.specs.Prelude.{unwrap_or}
use Rattle.std.specs.List.{range_with_len}
use Rattle.std.proofs.lemmas.Bool.{cases_lt}
use Rattle.std.proofs.lemmas.List.{map-id, get_or_append_left}
use Rattle.std.proofs.Math.Seq.{get_or-append_seam}
use Rattle.std.proofs.lemmas.List.FromFn.{filter_of_map_range_with_len_more, map-range_with_len_more, length-map-range_with_len, get_or-map-range_with_len}
use Rattle.std.proofs.lemmas.List.Folds.{position_or_len_push}
use Rattle.std.proofs.lemmas.List.Sums.{passes_at_first}
use Rattle.pssm_numbering.specs.Numbering.{place_in}
use Rattle.pssm_numbering.specs.inner.Tables.{first_with, spot, found_place, AreListed}

-- ---- one number more

pub first_more : (q : ℕ → Bool) (n : ℕ) → first_with q (n + 1) ≡ first_with q n ++ cond (q n) (n ∷ []) []
first_more q n =
    ap (filter q) (sym (map-id (range_with_len 0 (n + 1))))
    ∙ filter_of_map_range_with_len_more q (λ (x : ℕ). x) 0 n n (zero-add n)
    ∙ ap (λ xs. filter q xs ++ cond (q n) (n ∷ []) []) (map-id (range_with_len 0 n))

pub first_taken : (q : ℕ → Bool) (n : ℕ) → q n ≡ true → first_with q (n + 1) ≡ first_with q n ++ n ∷ []
first_taken q n here = first_more q n ∙ ap (λ (b : Bool). first_with q n ++ cond b (n ∷ []) []) here

pub first_passed : (q : ℕ → Bool) (n : ℕ) → q n ≡ false → first_with q (n + 1) ≡ first_with q n
first_passed q n here = first_more q n ∙ ap (λ (b : Bool). first_with q n ++ cond b (n ∷ []) []) here ∙ append-nil (first_with q n)

-- the same, where the number more is a successor
up : (q : ℕ → Bool) (n : ℕ) → first_with q (suc n) ≡ first_with q (n + 1)
up q n = ap (first_with q) (let e : suc n ≡ n + 1 = omega arith in e)

pub taken_up : (q : ℕ → Bool) (n : ℕ) → q n ≡ true → first_with q (suc n) ≡ first_with q n ++ n ∷ []
taken_up q n here = up q n ∙ first_taken q n here

pub passed_up : (q : ℕ → Bool) (n : ℕ) → q n ≡ false → first_with q (suc n) ≡ first_with q n
passed_up q n here = up q n ∙ first_passed q n here

pub by_test : {P : Type 0} (b : Bool) → (b ≡ true → P) → (b ≡ false → P) → P
by_test true on off = on refl
by_test false on off = off refl

pub if_ok_both : {X E : Type 0} {O P Q : X → Type 0} (r : Result X E) → ((x : X) → O x → P x → Q x) → IfOk r O → IfOk r P → IfOk r Q
if_ok_both (Ok x) f o p = f x o p
if_ok_both (Err e) f o p = tt

one_longer : (xs : List ℕ) (n : ℕ) → length (xs ++ n ∷ []) ≡ length xs + 1
one_longer xs n = length-append xs (n ∷ [])

module _ (q : ℕ → Bool) where
  -- no more pass than there are
  pub first_length : (n : ℕ) → length (first_with q n) ≤ n
  first_length zero = omega arith
  first_length (suc n) =
      let before = first_length n in
      by_test (q n)
      (λ here. let e = ap length (taken_up q n here) ∙ one_longer (first_with q n) n in omega arith)
      (λ here. let e = ap length (passed_up q n here) in omega arith)

  -- what passes counts for what comes after it
  pub counts : (n j : ℕ) → j < n → q j ≡ true → length (first_with q j) < length (first_with q n)
  counts zero j less here = absurd (omega arith)
  counts (suc n) j less here =
      ⊎_elim
      (λ before. let old = counts n j before here in
      by_test (q n)
      (λ taken. let e = ap length (taken_up q n taken) ∙ one_longer (first_with q n) n in omega arith)
      (λ passed. let e = ap length (passed_up q n passed) in omega arith))
      (λ last. let same : j ≡ n = omega arith in
      let e = ap length (taken_up q n (ap q (sym same) ∙ here)) ∙ one_longer (first_with q n) n in
      let f = ap (λ k. length (first_with q k)) same in omega arith)
      (cases_lt j n)

  -- ---- places

  pushed : (xs : List ℕ) (n j : ℕ) → place_in (xs ++ n ∷ []) j ≡ cond (eqb (place_in xs j) (length xs)) (length xs + cond (n == j) 0 1) (place_in xs j)
  pushed xs n j = position_or_len_push (λ m. m == j) xs n

  other_number : (n j : ℕ) → (j ≡ n → ⊥) → (n == j) ≡ false
  other_number n j other = by_test (n == j) (λ same. absurd (other (let is : n ≡ j = grind (arith, same) in sym is))) (λ is. is)

  same_number : (n j : ℕ) → j ≡ n → (n == j) ≡ true
  same_number n j same = grind (arith, same)

  pushed_end : (xs : List ℕ) (n j : ℕ) → place_in xs j ≡ length xs → place_in (xs ++ n ∷ []) j ≡ length xs + cond (n == j) 0 1
  pushed_end xs n j end =
      pushed xs n j
      ∙ ap (λ (b : Bool). cond b (length xs + cond (n == j) 0 1) (place_in xs j)) (let is : eqb (place_in xs j) (length xs) ≡ true = grind (arith, end) in is)

  pushed_in : (xs : List ℕ) (n j : ℕ) → place_in xs j < length xs → place_in (xs ++ n ∷ []) j ≡ place_in xs j
  pushed_in xs n j less =
      pushed xs n j
      ∙ ap (λ (b : Bool). cond b (length xs + cond (n == j) 0 1) (place_in xs j)) (let is : eqb (place_in xs j) (length xs) ≡ false = grind (arith, less) in is)

  plus_nothing : (k : ℕ) → k + 0 ≡ k
  plus_nothing k = omega arith

  -- what is not there has its place past the end
  pub no_place : (n j : ℕ) → (j < n → q j ≡ true → ⊥) → place_in (first_with q n) j ≡ length (first_with q n)
  no_place zero j none = refl
  no_place (suc n) j none =
      let old = no_place n j (λ less here. none (omega arith) here) in
      by_test (q n)
      (λ taken. let e = taken_up q n taken in
      let other : j ≡ n → ⊥ = λ same. none (omega arith) (ap q same ∙ taken) in
      ap (λ xs. place_in xs j) e
      ∙ pushed_end (first_with q n) n j old
      ∙ ap (λ (b : Bool). length (first_with q n) + cond b 0 1) (other_number n j other)
      ∙ sym (ap length e ∙ one_longer (first_with q n) n))
      (λ passed. let e = passed_up q n passed in ap (λ xs. place_in xs j) e ∙ old ∙ sym (ap length e))

  -- the place of what passes: as many stand before it
  pub place_at : (n j : ℕ) → j < n → q j ≡ true → place_in (first_with q n) j ≡ length (first_with q j)
  place_at zero j less here = absurd (omega arith)
  place_at (suc n) j less here =
      ⊎_elim
      (λ before. let old = place_at n j before here in let more = counts n j before here in
      by_test (q n)
      (λ taken. ap (λ xs. place_in xs j) (taken_up q n taken) ∙ pushed_in (first_with q n) n j (omega arith) ∙ old)
      (λ passed. ap (λ xs. place_in xs j) (passed_up q n passed) ∙ old))
      (λ last. let same : j ≡ n = omega arith in
      let old = no_place n j (λ lt h. omega arith) in
      ap (λ xs. place_in xs j) (taken_up q n (ap q (sym same) ∙ here))
      ∙ pushed_end (first_with q n) n j old
      ∙ ap (λ (b : Bool). length (first_with q n) + cond b 0 1) (same_number n j same)
      ∙ plus_nothing (length (first_with q n))
      ∙ ap (λ k. length (first_with q k)) (sym same))
      (cases_lt j n)

-- What stands at a place: it is below the bound, it passes, and as many pass before it as its place says.
pub record StandsAt (q : ℕ → Bool) (n i x : ℕ) : Type 0 where
  pub less : x < n
  pub passes : q x ≡ true
  pub place : length (first_with q x) ≡ i

pub stands : (q : ℕ → Bool) (n i d : ℕ) → i < length (first_with q n) → StandsAt q n i (get_or (first_with q n) i d)
stands q zero i d less = absurd (omega arith)
stands q (suc n) i d less =
    by_test (q n)
    (λ taken. let e = taken_up q n taken in
    let l = ap length e ∙ one_longer (first_with q n) n in
    ⊎_elim
    (λ before. let old = stands q n i d before in
    subst (StandsAt q (suc n) i) (sym (ap (λ xs. get_or xs i d) e ∙ get_or_append_left (first_with q n) (n ∷ []) d i before)) (wider q n i _ old))
    (λ last. let same : i ≡ length (first_with q n) = omega arith in
    subst (StandsAt q (suc n) i)
    (sym (ap (λ xs. get_or xs i d) e
    ∙ ap (λ k. get_or (first_with q n ++ n ∷ []) k d) same
    ∙ get_or-append_seam (first_with q n) n [] d))
    (record { less = omega arith; passes = taken; place = sym same }))
    (cases_lt i (length (first_with q n))))
    (λ passed. let e = passed_up q n passed in
    let old = stands q n i d (let l = ap length e in omega arith) in
    subst (StandsAt q (suc n) i) (sym (ap (λ xs. get_or xs i d) e)) (wider q n i _ old))
  where
    wider : (q : ℕ → Bool) (n i x : ℕ) → StandsAt q n i x → StandsAt q (suc n) i x
    wider q n i x s = record { less = (let l = s.less in omega arith); passes = s.passes; place = s.place }

-- each stands at its own place
pub own_spot_of : (q : ℕ → Bool) (n i d : ℕ) → i < length (first_with q n) → place_in (first_with q n) (get_or (first_with q n) i d) ≡ i
own_spot_of q n i d less = let s = stands q n i d less in place_at q n (get_or (first_with q n) i d) s.less s.passes ∙ s.place

-- where the place of a number is in the list, there the number stands
pub stands_there : (xs : List ℕ) (m d : ℕ) → place_in xs m < length xs → get_or xs (place_in xs m) d ≡ m
stands_there xs m d less =
    let here : (get_or xs (place_in xs m) d == m) ≡ true = passes_at_first (λ (k : ℕ). k == m) xs d less in grind (arith, here)

-- ---- tables

spots_more : (q : ℕ → Bool) (n : ℕ) → map (spot q) (range_with_len 0 (n + 1)) ≡ map (spot q) (range_with_len 0 n) ++ spot q n ∷ []
spots_more q n = map-range_with_len_more (spot q) 0 n n (zero-add n)

pub spot_taken : (q : ℕ → Bool) (n : ℕ) → q n ≡ true → spot q n ≡ Some (length (first_with q n))
spot_taken q n here = ap (λ (b : Bool). cond b (Some (length (first_with q n))) None) here

pub spot_passed : (q : ℕ → Bool) (n : ℕ) → q n ≡ false → spot q n ≡ None
spot_passed q n here = ap (λ (b : Bool). cond b (Some (length (first_with q n))) None) here

module _ (q : ℕ → Bool) (n : ℕ) (list : List ℕ) (places : List (Option ℕ)) (h : AreListed q n list places) where
  pub listed_taken : q n ≡ true → AreListed q (n + 1) (list ++ n ∷ []) (places ++ Some (length list) ∷ [])
  listed_taken here = record {
    list = ap (λ xs. xs ++ n ∷ []) h.list ∙ sym (first_taken q n here);
    places = ap (λ xs. places ++ Some (length xs) ∷ []) h.list ∙ ap (λ xs. xs ++ Some (length (first_with q n)) ∷ []) h.places
        ∙ ap (λ o. map (spot q) (range_with_len 0 n) ++ o ∷ []) (sym (spot_taken q n here))
        ∙ sym (spots_more q n);
  }

  pub listed_passed : q n ≡ false → AreListed q (n + 1) list (places ++ None ∷ [])
  listed_passed here = record {
    list = h.list ∙ sym (first_passed q n here);
    places = ap (λ xs. xs ++ None ∷ []) h.places ∙ ap (λ o. map (spot q) (range_with_len 0 n) ++ o ∷ []) (sym (spot_passed q n here)) ∙ sym (spots_more q n);
  }

  pub listed_length : length list ≤ n
  listed_length = let e = ap length h.list in let l = first_length q n in omega arith

  pub places_length : length places ≡ n
  places_length = ap length h.places ∙ length-map-range_with_len (spot q) 0 n

  -- what is found is the place
  pub found_is_place : (j : ℕ) → j < n → found_place list places j ≡ place_in list j
  found_is_place j less =
      let at : get_or places j None ≡ spot q j = ap (λ xs. get_or xs j None) h.places ∙ get_or-map-range_with_len (spot q) 0 n j j None less (zero-add j) in
      let l = h.list in
      by_test (q j)
      (λ here. let s = spot_taken q j here in let p = place_at q n j less here in
      ap (λ o. unwrap_or o (length list)) (at ∙ s) ∙ sym p ∙ ap (λ xs. place_in xs j) (sym l))
      (λ here. let s = spot_passed q j here in let p = no_place q n j (λ lt is. absurd (cc)) in
      ap (λ o. unwrap_or o (length list)) (at ∙ s) ∙ ap length l ∙ sym p ∙ ap (λ xs. place_in xs j) (sym l))
