-- "Some element of one kind with only elements of another kind after it", of two lists in a row and of what a list is read as.
use Rattle.std.proofs.Common.{◌≡◌, ◌⊎◌, inl, inr, ⊎_elim, List, [], ◌∷◌, ◌++◌, Option, Some, None, refl, sym, ◌∙◌, ap, subst, append_assoc}
use Rattle.std.specs.List.{AllByRecursion, filter_map, cons_option}
use Rattle.pssm_semantics.proofs.Appended.{AllByRecursion-append, AllByRecursion-front, AllByRecursion-back, LastOf, LastOf-nil}

module _ {X : Type 0} (P Q : X → Type 0) where
  -- the first element of a list is the one, or a later one is
  pub LastOf-cons : (x : X) (xs : List X) → LastOf P Q (x ∷ xs) → LastOf P Q xs ⊎ (P x × AllByRecursion Q xs)
  LastOf-cons x xs ([], after, y, e, p, q) =
      let same : y ≡ x = cc in
      let rest : after ≡ xs = cc in
      inr (subst P same p, subst (AllByRecursion Q) rest q)
  LastOf-cons x xs (b ∷ bs, after, y, e, p, q) = let rest : xs ≡ bs ++ y ∷ after = cc in inl (bs, after, y, rest, p, q)

  pub LastOf-later : (x : X) (xs : List X) → LastOf P Q xs → LastOf P Q (x ∷ xs)
  LastOf-later x xs (before, after, y, e, p, q) = (x ∷ before, after, y, ap (λ ys. x ∷ ys) e, p, q)

  pub LastOf-first : (x : X) (xs : List X) → P x → AllByRecursion Q xs → LastOf P Q (x ∷ xs)
  LastOf-first x xs p q = ([], xs, x, refl, p, q)

  -- it stands in the second of two lists, or in the first with none in the second
  pub LastOf-append : (xs ys : List X) → LastOf P Q (xs ++ ys) → LastOf P Q ys ⊎ (LastOf P Q xs × AllByRecursion Q ys)
  LastOf-append [] ys h = inl h
  LastOf-append (x ∷ xs) ys h = elim (LastOf-cons x (xs ++ ys) h) [
    | inl later ↦ ⊎_elim (λ there. inl there) (λ (here, none). inr (LastOf-later x xs here, none)) (LastOf-append xs ys later)
    | inr (p, none) ↦ inr (LastOf-first x xs p (AllByRecursion-front Q xs ys none), AllByRecursion-back Q xs ys none)
  ]

  pub LastOf-behind : (xs ys : List X) → LastOf P Q ys → LastOf P Q (xs ++ ys)
  LastOf-behind [] ys h = h
  LastOf-behind (x ∷ xs) ys h = LastOf-later x (xs ++ ys) (LastOf-behind xs ys h)

  pub LastOf-before : (xs ys : List X) → LastOf P Q xs → AllByRecursion Q ys → LastOf P Q (xs ++ ys)
  LastOf-before xs ys (before, after, x, e, p, q) none =
      (before, after ++ ys, x, ap (λ zs. zs ++ ys) e ∙ append_assoc before (x ∷ after) ys, p, AllByRecursion-append Q after ys q none)

-- what the elements of a list are read as, where both kinds are read exactly
pub record Reads {X Y : Type 0} (f : X → Option Y) (P Q : X → Type 0) (P' Q' : Y → Type 0) : Type 0 where
  pub is : (x : X) → P x → (y : Y) × (f x ≡ Some y) × P' y
  pub of : (x : X) (y : Y) → f x ≡ Some y → P' y → P x
  pub spares : (x : X) (y : Y) → f x ≡ Some y → Q x → Q' y
  pub spared : (x : X) → ((y : Y) → f x ≡ Some y → Q' y) → Q x

module _ {X Y : Type 0} (f : X → Option Y) (P Q : X → Type 0) (P' Q' : Y → Type 0) (reads : Reads f P Q P' Q') where
  all_with : (x : X) (ys : List Y) (r : Option Y) → f x ≡ r → Q x → AllByRecursion Q' ys → AllByRecursion Q' (cons_option r ys)
  all_with x ys (Some y) e q all = (reads.spares x y e q, all)
  all_with x ys None e q all = all

  pub All-read : (xs : List X) → AllByRecursion Q xs → AllByRecursion Q' (filter_map f xs)
  All-read [] h = tt
  All-read (x ∷ xs) h = all_with x (filter_map f xs) (f x) refl h.0 (All-read xs h.1)

  all_without : (x : X) (ys : List Y) (r : Option Y) → f x ≡ r → AllByRecursion Q' (cons_option r ys) → Q x × AllByRecursion Q' ys
  all_without x ys (Some y) e all = (reads.spared x (λ z is. let same : y ≡ z = cc in subst Q' same all.0), all.1)
  all_without x ys None e all = (reads.spared x (λ z is. absurd (let none : None ≡ Some z = sym e ∙ is in cc)), all)

  pub All-of_read : (xs : List X) → AllByRecursion Q' (filter_map f xs) → AllByRecursion Q xs
  All-of_read [] h = tt
  All-of_read (x ∷ xs) h = let both = all_without x (filter_map f xs) (f x) refl h in (both.0, All-of_read xs both.1)

  later_read : (ys : List Y) (r : Option Y) → LastOf P' Q' ys → LastOf P' Q' (cons_option r ys)
  later_read ys (Some y) later = LastOf-later P' Q' y ys later
  later_read ys None later = later

  first_read : (x : X) (ys : List Y) (r : Option Y) → f x ≡ r → P x → AllByRecursion Q' ys → LastOf P' Q' (cons_option r ys)
  first_read x ys (Some y) e p none =
      let found = reads.is x p in
      let same : found.0 ≡ y = let is = found.1 in cc in
      LastOf-first P' Q' y ys (subst P' same found.2) none
  first_read x ys None e p none = let found = reads.is x p in absurd (let clash : None ≡ Some found.0 = sym e ∙ found.1 in cc)

  pub LastOf-read : (xs : List X) → LastOf P Q xs → LastOf P' Q' (filter_map f xs)
  LastOf-read [] h = absurd (LastOf-nil P Q h)
  LastOf-read (x ∷ xs) h = elim (LastOf-cons P Q x xs h) [
    | inl later ↦ later_read (filter_map f xs) (f x) (LastOf-read xs later)
    | inr (p, none) ↦ first_read x (filter_map f xs) (f x) refl p (All-read xs none)
  ]

  read_cases : (x : X) (ys : List Y) (r : Option Y) → f x ≡ r → LastOf P' Q' (cons_option r ys) → LastOf P' Q' ys ⊎ (P x × AllByRecursion Q' ys)
  read_cases x ys (Some y) e last = ⊎_elim (λ later. inl later) (λ (p, none). inr (reads.of x y e p, none)) (LastOf-cons P' Q' y ys last)
  read_cases x ys None e last = inl last

  pub LastOf-of_read : (xs : List X) → LastOf P' Q' (filter_map f xs) → LastOf P Q xs
  LastOf-of_read [] h = absurd (LastOf-nil P' Q' h)
  LastOf-of_read (x ∷ xs) h = elim (read_cases x (filter_map f xs) (f x) refl h) [
    | inl later ↦ LastOf-later P Q x xs (LastOf-of_read xs later)
    | inr (p, none) ↦ LastOf-first P Q x xs p (All-of_read xs none)
  ]
