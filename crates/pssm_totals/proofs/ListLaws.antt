-- Lists whose items are different: sums over them, and what stands in them.
use Rattle.std.proofs.Common.{◌≡◌, ◌⊎◌, ◌≤◌, ℕ, zero, suc, List, [], ◌∷◌, ◌++◌, refl, sym, ap, subst, inl, inr, ⊎_elim, arith, Contains, sum_by}
use Rattle.std.specs.List.{AllPairs}
use Rattle.std.proofs.lemmas.Bool.{cases_eq}
use Rattle.std.proofs.lemmas.List.Elements.{Contains-append_left, Contains-append_right, Contains-append_cases, Contains-get_or}
use Rattle.std.proofs.lemmas.List.Sums.{sum_by-append, sum_by-cons}

module _ {X : Type 0} where
  pub nothing_in : (x : X) → Contains [] x → ⊥
  nothing_in x (k, lt, e) = omega arith

  pub the_one : (x y : X) → Contains (x ∷ []) y → y ≡ x
  the_one x y (zero, lt, e) = sym e
  the_one x y (suc k, lt, e) = absurd (omega arith)

  pub is_one : (x y : X) → y ≡ x → Contains (x ∷ []) y
  is_one x y e = (0, omega arith, sym e)

  -- an item of a list is the first one, or one behind it
  pub first_or_behind : (x : X) (xs : List X) (y : X) → Contains (x ∷ xs) y → (y ≡ x) ⊎ Contains xs y
  first_or_behind x xs y h = ⊎_elim (λ one. inl (the_one x y one)) (λ behind. inr behind) (Contains-append_cases (x ∷ []) xs y h)

  pub is_first : (x : X) (xs : List X) → Contains (x ∷ xs) x
  is_first x xs = (0, omega arith, refl)

  pub is_behind : (x : X) (xs : List X) (y : X) → Contains xs y → Contains (x ∷ xs) y
  is_behind x xs y h = Contains-append_right (x ∷ []) xs y h

  -- an item of a list with one more at the end
  pub in_more : (xs : List X) (x y : X) → Contains (xs ++ x ∷ []) y → Contains xs y ⊎ (y ≡ x)
  in_more xs x y h = ⊎_elim (λ l. inl l) (λ r. inr (the_one x y r)) (Contains-append_cases xs (x ∷ []) y h)

  -- where an item stands in a list
  pub split_at : (xs : List X) (x : X) → Contains xs x → (front : List X) × (back : List X) × (xs ≡ front ++ x ∷ back)
  split_at [] x h = absurd (nothing_in x h)
  split_at (y ∷ xs) x h =
      ⊎_elim
      (λ same. ([], xs, ap (λ z. z ∷ xs) (sym same)))
      (λ behind. let s = split_at xs x behind in (y ∷ s.0, s.1, ap (λ zs. y ∷ zs) s.2))
      (first_or_behind y xs x h)

  -- The items of the list are different.
  abbrev pub AreApart : List X → Type 0
  AreApart [] = Unit {0}
  AreApart (x ∷ xs) = (Contains xs x → ⊥) × AreApart xs

  pub apart_by_pairs : (xs : List X) → AllPairs (λ a b. a ≡ b → ⊥) xs → AreApart xs
  apart_by_pairs [] all = tt
  apart_by_pairs (x ∷ xs) all = (
    λ h. all 0 (suc h.0) x (omega arith) (let l = h.1 in omega arith) (sym h.2),
    apart_by_pairs xs (λ i j d lt l. all (suc i) (suc j) d (omega arith) (omega arith)),
  )

  pub pairs_by_apart : (xs : List X) → AreApart xs → AllPairs (λ a b. a ≡ b → ⊥) xs
  pairs_by_apart [] all i j d lt l = absurd (omega arith)
  pairs_by_apart (x ∷ xs) all zero zero d lt l = absurd (omega arith)
  pairs_by_apart (x ∷ xs) all (suc i) zero d lt l = absurd (omega arith)
  pairs_by_apart (x ∷ xs) all zero (suc j) d lt l = λ e. all.0 (subst (Contains xs) (sym e) (Contains-get_or xs j d (omega arith)))
  pairs_by_apart (x ∷ xs) all (suc i) (suc j) d lt l = pairs_by_apart xs all.1 i j d (omega arith) (omega arith)

  pub apart_more : (xs : List X) (x : X) → AreApart xs → (Contains xs x → ⊥) → AreApart (xs ++ x ∷ [])
  apart_more [] x all new = (nothing_in x, tt)
  apart_more (y ∷ xs) x all new = (
    λ h. ⊎_elim
        (λ old. all.0 old)
        (λ same. new (subst (Contains (y ∷ xs)) same (is_first y xs)))
        (in_more xs x y h),
    apart_more xs x all.1 (λ h. new (is_behind y xs x h)),
  )

  -- the two parts of a list of different items
  pub apart_front : (xs ys : List X) → AreApart (xs ++ ys) → AreApart xs
  apart_front [] ys all = tt
  apart_front (x ∷ xs) ys all = (λ h. all.0 (Contains-append_left xs ys x h), apart_front xs ys all.1)

  pub apart_back : (xs ys : List X) → AreApart (xs ++ ys) → AreApart ys
  apart_back [] ys all = all
  apart_back (x ∷ xs) ys all = apart_back xs ys all.1

  pub apart_both : (xs ys : List X) (x : X) → AreApart (xs ++ ys) → Contains xs x → Contains ys x → ⊥
  apart_both [] ys x all h g = nothing_in x h
  apart_both (y ∷ xs) ys x all h g =
      ⊎_elim
      (λ same. all.0 (Contains-append_right xs ys y (subst (Contains ys) same g)))
      (λ behind. apart_both xs ys x all.1 behind g)
      (first_or_behind y xs x h)

  -- different items that stand in another list have at most its sum
  pub sum_inside : (f : X → ℕ) (xs ys : List X) → AreApart xs → ((x : X) → Contains xs x → Contains ys x) → sum_by f xs ≤ sum_by f ys
  sum_inside f [] ys all inside = omega arith
  sum_inside f (x ∷ xs) ys all inside =
      let s = split_at ys x (inside x (is_first x xs)) in
      let less = sum_inside f xs (s.0 ++ s.1) all.1 (λ y h. others s.0 s.1 y h (subst (λ zs. Contains zs y) s.2 (inside y (is_behind x xs y h)))) in
      let whole : sum_by f ys ≡ sum_by f (s.0 ++ x ∷ s.1) = ap (sum_by f) s.2 in
      let parts = sum_by-append f s.0 (x ∷ s.1) in
      let both = sum_by-append f s.0 s.1 in
      let first = sum_by-cons f x xs in
      let there = sum_by-cons f x s.1 in
      omega arith
    where
      others : (front back : List X) (y : X) → Contains xs y → Contains (front ++ x ∷ back) y → Contains (front ++ back) y
      others front back y h g =
          ⊎_elim
          (λ before. Contains-append_left front back y before)
          (λ rest. ⊎_elim
          (λ same. absurd (all.0 (subst (Contains xs) same h)))
          (λ behind. Contains-append_right front back y behind)
          (first_or_behind x back y rest))
          (Contains-append_cases front (x ∷ back) y g)

-- a number stands in a list or does not
pub in_or_not : (xs : List ℕ) (x : ℕ) → Contains xs x ⊎ (Contains xs x → ⊥)
in_or_not [] x = inr (nothing_in x)
in_or_not (y ∷ xs) x =
    ⊎_elim
    (λ same. inl (subst (Contains (y ∷ xs)) (sym same) (is_first y xs)))
    (λ other. ⊎_elim
    (λ behind. inl (is_behind y xs x behind))
    (λ none. inr (λ h. ⊎_elim other none (first_or_behind y xs x h)))
    (in_or_not xs x))
    (cases_eq x y)
