-- The elements of a list of which something holds, as they are chosen one after another.
use Rattle.std.proofs.Common.{◌≡◌, ◌↔◌, ◌<◌, ◌≤◌, ◌+◌, ◌++◌, ℕ, List, [], ◌∷◌, ◌⊎◌, Contains, length, take, get_or, sym, subst, ⊎_elim}
use Rattle.std.proofs.lemmas.List.{take_more, take_all}
use Rattle.std.proofs.lemmas.List.Elements.{Contains-append_left, Contains-push, Contains-push_cases}
use Rattle.pssm_model.proofs.ElementLaws.{nothing_in_nil}

-- the first few elements of a list, and one more
module _ {X : Type 0} (xs : List X) (n : ℕ) (d : X) (lt : n < length xs) where
  pub seen_more : (x : X) → Contains (take n xs) x → Contains (take (n + 1) xs) x
  seen_more x h = subst (λ l. Contains l x) (sym (take_more xs n d lt)) (Contains-append_left (take n xs) (get_or xs n d ∷ []) x h)

  pub seen_last : Contains (take (n + 1) xs) (get_or xs n d)
  seen_last = subst (λ l. Contains l (get_or xs n d)) (sym (take_more xs n d lt)) (Contains-push (take n xs) (get_or xs n d))

  pub seen_cases : (x : X) → Contains (take (n + 1) xs) x → Contains (take n xs) x ⊎ (get_or xs n d ≡ x)
  seen_cases x h = Contains-push_cases (take n xs) (get_or xs n d) x (subst (λ l. Contains l x) (take_more xs n d lt) h)

module _ {X : Type 0} (P : X → Type 0) (xs : List X) where
  -- exactly those of the elements so far are chosen of which it holds
  abbrev pub AreChosen : ℕ → List X → Type 0
  AreChosen n chosen = (x : X) → Contains chosen x ↔ (Contains (take n xs) x × P x)

  pub chosen_none : (chosen : List X) → chosen ≡ [] → AreChosen 0 chosen
  chosen_none chosen e x = (λ h. absurd (nothing_in_nil x (subst (λ l. Contains l x) e h)), λ h. absurd (nothing_in_nil x h.0))

  chosen_push : (n : ℕ) (d : X) (chosen : List X) → n < length xs → AreChosen n chosen → P (get_or xs n d)
      → AreChosen (n + 1) (chosen ++ get_or xs n d ∷ [])
  chosen_push n d chosen lt h p x = (
    λ inside. ⊎_elim
        (λ was. (seen_more xs n d lt x ((h x).0 was).0, ((h x).0 was).1))
        (λ same. (subst (Contains (take (n + 1) xs)) same (seen_last xs n d lt), subst P same p))
        (Contains-push_cases chosen (get_or xs n d) x inside),
    λ is. ⊎_elim
        (λ was. Contains-append_left chosen (get_or xs n d ∷ []) x ((h x).1 (was, is.1)))
        (λ same. subst (Contains (chosen ++ get_or xs n d ∷ [])) same (Contains-push chosen (get_or xs n d)))
        (seen_cases xs n d lt x is.0),
  )

  pub chosen_more : (n : ℕ) (d : X) (chosen more : List X) → more ≡ chosen ++ get_or xs n d ∷ [] → n < length xs → AreChosen n chosen
      → P (get_or xs n d) → AreChosen (n + 1) more
  chosen_more n d chosen more e lt h p = subst (AreChosen (n + 1)) (sym e) (chosen_push n d chosen lt h p)

  chosen_skip : (n : ℕ) (d : X) (chosen : List X) → n < length xs → AreChosen n chosen → (P (get_or xs n d) → ⊥) → AreChosen (n + 1) chosen
  chosen_skip n d chosen lt h not x = (
    λ inside. (seen_more xs n d lt x ((h x).0 inside).0, ((h x).0 inside).1),
    λ is. ⊎_elim
        (λ was. (h x).1 (was, is.1))
        (λ same. absurd (not (subst P (sym same) is.1)))
        (seen_cases xs n d lt x is.0),
  )

  pub chosen_same : (n : ℕ) (d : X) (chosen more : List X) → more ≡ chosen → n < length xs → AreChosen n chosen → (P (get_or xs n d) → ⊥)
      → AreChosen (n + 1) more
  chosen_same n d chosen more e lt h not = subst (AreChosen (n + 1)) (sym e) (chosen_skip n d chosen lt h not)

  pub chosen_all : (n : ℕ) (chosen : List X) → length xs ≤ n → AreChosen n chosen → (x : X) → Contains chosen x ↔ (Contains xs x × P x)
  chosen_all n chosen le h = subst (λ l. (x : X) → Contains chosen x ↔ (Contains l x × P x)) (take_all n xs le) h
