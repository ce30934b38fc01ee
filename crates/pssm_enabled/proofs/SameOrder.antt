-- Ascending transitions with the same elements are the same.
use Rattle.std.proofs.Common.{◌≡◌, ◌⊎◌, ◌<◌, ◌∙◌, suc, List, [], ◌∷◌, Contains, refl, sym, ap, subst, inl, inr, ⊎_elim, arith}
use Rattle.std.proofs.lemmas.List.Elements.{Contains-append_right, Contains-append_cases}
use Rattle.pssm_model.specs.declared.ids.TransId.{TransId}
use Rattle.pssm_model.specs.Routes.{IsAscending}
use Rattle.pssm_model.proofs.ElementLaws.{nothing_in_nil}
use Rattle.pssm_model.proofs.RouteLaws.{is_one}

module _ {X : Type 0} where
  in_cons : (x : X) (xs : List X) (y : X) → Contains (x ∷ xs) y → (y ≡ x) ⊎ Contains xs y
  in_cons x xs y h = ⊎_elim (λ here. inl (is_one x y here)) (λ there. inr there) (Contains-append_cases (x ∷ []) xs y h)

  in_tail : (x : X) (xs : List X) (y : X) → Contains xs y → Contains (x ∷ xs) y
  in_tail x xs y h = Contains-append_right (x ∷ []) xs y h

  in_head : (x : X) (xs : List X) → Contains (x ∷ xs) x
  in_head x xs = (0, omega arith, refl)

head_below : (x : TransId) (xs : List TransId) (y : TransId) → IsAscending (x ∷ xs) → Contains xs y → x.0 < y.0
head_below x xs y p (k, lt, e) = subst (λ (z : TransId). x.0 < z.0) e (p 0 (suc k) y (omega arith) (omega arith))

tail_ascends : (x : TransId) (xs : List TransId) → IsAscending (x ∷ xs) → IsAscending xs
tail_ascends x xs p = λ i j d lt within. p (suc i) (suc j) d (omega arith) (omega arith)

tail_has : (x y : TransId) (xs ys : List TransId) → x ≡ y → IsAscending (x ∷ xs) → ((g : TransId) → Contains (x ∷ xs) g → Contains (y ∷ ys) g)
    → (g : TransId) → Contains xs g → Contains ys g
tail_has x y xs ys same p f g on =
    ⊎_elim
    (λ is. absurd (let lt = head_below x xs g p on in let e = ap (λ (s : TransId). s.0) (is ∙ sym same) in omega arith))
    (λ there. there)
    (in_cons y ys g (f g (in_tail x xs g on)))

pub ascending_same : (xs ys : List TransId) → IsAscending xs → IsAscending ys → ((g : TransId) → Contains xs g → Contains ys g) → ((g : TransId) → Contains ys g → Contains xs g)
    → xs ≡ ys
ascending_same [] [] p q f g = refl
ascending_same [] (y ∷ ys) p q f g = absurd (nothing_in_nil y (g y (in_head y ys)))
ascending_same (x ∷ xs) [] p q f g = absurd (nothing_in_nil x (f x (in_head x xs)))
ascending_same (x ∷ xs) (y ∷ ys) p q f g =
    let same : x ≡ y = ⊎_elim
    (λ is. is)
    (λ behind. ⊎_elim (λ is. sym is) (λ after. absurd (let a = head_below y ys x q behind in let b = head_below x xs y p after in omega arith)) (in_cons x xs y (g y (in_head y ys))))
    (in_cons y ys x (f x (in_head x xs))) in
    ap (λ z. z ∷ xs) same
    ∙ ap (λ zs. y ∷ zs) (ascending_same xs ys (tail_ascends x xs p) (tail_ascends y ys q) (tail_has x y xs ys same p f) (tail_has y x ys xs (sym same) q g))
