-- The last item of a list.
use Rattle.std.proofs.Common.{◌≡◌, List, [], ◌∷◌, ◌++◌, Some, None, refl, ap, subst, ◌∙◌, sym}
use Rattle.pssm_flat.proofs.Bind.{some_is}
use Rattle.pssm_flat.specs.inner.Outlines.{last_of}

pub last_of-push : {X : Type 0} (xs : List X) (x : X) → last_of (xs ++ x ∷ []) ≡ Some (xs, x)
last_of-push [] x = refl
last_of-push (y ∷ xs) x = rw (last_of-push xs x) refl

-- what a vector's `pop` says of its items
pub last_of-popped : {X : Type 0} (items others : List X) (x : X) → items ≡ others ++ x ∷ [] → Some (others, x) ≡ last_of items
last_of-popped items others x e = sym (ap last_of e ∙ last_of-push others x)

pub last_of-empty : {X : Type 0} (items : List X) → items ≡ [] → None ≡ last_of items
last_of-empty items e = sym (ap last_of e)

-- a list with a last item
pub record HasLast {X : Type 0} (xs others : List X) (x : X) : Type 0 where
  pub parts : xs ≡ others ++ x ∷ []

pub last_of-some : {X : Type 0} (y : X) (xs : List X) → (p : List X × X) × (last_of (y ∷ xs) ≡ Some p) × ((y ∷ xs) ≡ p.0 ++ p.1 ∷ [])
last_of-some y [] = (([], y), refl, refl)
last_of-some y (z ∷ xs) =
    let more = last_of-some z xs in
    ((y ∷ more.0.0, more.0.1), rw more.1 refl, ap (λ t. y ∷ t) more.2)

pub last_of-takes : {X : Type 0} (xs : List X) (p : List X × X) → last_of xs ≡ Some p → xs ≡ p.0 ++ p.1 ∷ []
last_of-takes [] p e = absurd cc
last_of-takes {X} (y ∷ xs) p e =
    let found = last_of-some y xs in
    let same : found.0 ≡ p = some_is found.0 p (sym found.1 ∙ e) in
    subst (λ (q : List X × X). (y ∷ xs) ≡ q.0 ++ q.1 ∷ []) same found.2
