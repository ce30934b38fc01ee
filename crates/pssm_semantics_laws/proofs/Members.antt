-- Which elements a list has, and what they are read as.
use Rattle.std.proofs.Common.{◌≡◌, ◌⊎◌, List, [], ◌∷◌, Contains, Option, Some, None, sym, ap, subst, inl, inr, ⊎_elim}
use Rattle.std.specs.List.{filter_map, cons_option}
use Rattle.std.proofs.lemmas.List.Elements.{Contains-append_left, Contains-append_right, Contains-append_cases}
use Rattle.pssm_model.proofs.ElementLaws.{nothing_in_nil}
use Rattle.pssm_model.proofs.RouteLaws.{is_one, in_one}

-- the first of a list, and the others
pub first_in : {X : Type 0} (x : X) (xs : List X) → Contains (x ∷ xs) x
first_in x xs = Contains-append_left (x ∷ []) xs x (in_one x)

pub later_in : {X : Type 0} (x : X) (xs : List X) (y : X) → Contains xs y → Contains (x ∷ xs) y
later_in x xs y h = Contains-append_right (x ∷ []) xs y h

pub in_cases : {X : Type 0} (x : X) (xs : List X) (y : X) → Contains (x ∷ xs) y → (y ≡ x) ⊎ Contains xs y
in_cases x xs y h = ⊎_elim (λ one. inl (is_one x y one)) inr (Contains-append_cases (x ∷ []) xs y h)

module _ {X Y : Type 0} (f : X → Option Y) where
  kept : (ys : List Y) (y : Y) (r : Option Y) → Contains ys y → Contains (cons_option r ys) y
  kept ys y (Some z) h = later_in z ys y h
  kept ys y None h = h

  added : (ys : List Y) (y : Y) (r : Option Y) → r ≡ Some y → Contains (cons_option r ys) y
  added ys y (Some z) e = let same : y ≡ z = cc in subst (λ x. Contains (x ∷ ys) y) same (first_in y ys)
  added ys y None e = absurd (let none : None ≡ Some y = e in cc)

  -- what an element is read as is among what the list is read as, and each of these is read off an element
  pub Contains-read : (xs : List X) (x : X) (y : Y) → Contains xs x → f x ≡ Some y → Contains (filter_map f xs) y
  Contains-read [] x y h e = absurd (nothing_in_nil x h)
  Contains-read (z ∷ zs) x y h e = elim (in_cases z zs x h) [
    | inl same ↦ added (filter_map f zs) y (f z) (subst (λ w. f w ≡ Some y) same e)
    | inr later ↦ kept (filter_map f zs) y (f z) (Contains-read zs x y later e)
  ]

  read_first : (ys : List Y) (y : Y) (r : Option Y) → Contains (cons_option r ys) y → (r ≡ Some y) ⊎ Contains ys y
  read_first ys y (Some z) h = ⊎_elim (λ same. inl (ap Some (sym same))) inr (in_cases z ys y h)
  read_first ys y None h = inr h

  pub Contains-of_read : (xs : List X) (y : Y) → Contains (filter_map f xs) y → (x : X) × Contains xs x × (f x ≡ Some y)
  Contains-of_read [] y h = absurd (nothing_in_nil y h)
  Contains-of_read (x ∷ xs) y h = elim (read_first (filter_map f xs) y (f x) h) [
    | inl here ↦ (x, first_in x xs, here)
    | inr later ↦ let found = Contains-of_read xs y later in (found.0, later_in x xs found.0 found.1, found.2)
  ]
