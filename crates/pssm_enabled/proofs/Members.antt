-- Members of lists, and that routes can be told apart.
use Rattle.std.proofs.Common.{◌≡◌, ◌≢◌, ◌⊎◌, ◌<◌, ℕ, zero, suc, List, [], ◌∷◌, length, get_or, All, Contains, refl, ap, subst, inl, inr, ⊎_elim, arith}
use Rattle.std.proofs.lemmas.Bool.{cases_eq}
use Rattle.std.proofs.lemmas.List.Elements.{All-contains_itself, All-weaker}
use Rattle.pssm_model.specs.declared.ids.TransId.{TransId}
use Rattle.pssm_model.specs.declared.steps.Route.{Route}
use Rattle.pssm_model.proofs.ElementLaws.{same_transition, nothing_in_nil}
use Rattle.pssm_model.proofs.RouteLaws.{same_route}

-- what holds of all members holds at all places, and the other way round
pub all_of_members : {X : Type 0} (P : X → Type 0) (xs : List X) → ((x : X) → Contains xs x → P x) → All P xs
all_of_members P xs h = All-weaker (Contains xs) P h xs (All-contains_itself xs)

-- members of a list with one more at the front
pub in_front : {X : Type 0} (x : X) (xs : List X) → Contains (x ∷ xs) x
in_front x xs = (0, omega arith, refl)

pub in_rest : {X : Type 0} (x y : X) (xs : List X) → Contains xs y → Contains (x ∷ xs) y
in_rest x y xs h = let lt = h.1 in (suc h.0, omega arith, h.2)

pub front_or_rest : {X : Type 0} (x y : X) (xs : List X) → Contains (x ∷ xs) y → (x ≡ y) ⊎ Contains xs y
front_or_rest x y xs h = at h.0 h.1 h.2
  where
    at : (k : ℕ) → k < length (x ∷ xs) → get_or (x ∷ xs) k y ≡ y → (x ≡ y) ⊎ Contains xs y
    at zero lt e = inl e
    at (suc k) lt e = inr (k, omega (arith, lt), e)

-- lists can be told apart where their members can
pub same_or_other : {X : Type 0} (told : (x y : X) → (x ≡ y) ⊎ (x ≢ y)) (xs ys : List X) → (xs ≡ ys) ⊎ (xs ≢ ys)
same_or_other told [] [] = inl refl
same_or_other told [] (y ∷ ys) = inr (λ e. cc)
same_or_other told (x ∷ xs) [] = inr (λ e. cc)
same_or_other told (x ∷ xs) (y ∷ ys) =
    ⊎_elim
    (λ (same : x ≡ y). ⊎_elim (λ (e : xs ≡ ys). inl (cc)) (λ other. inr (λ e. other (let f : xs ≡ ys = cc in f))) (same_or_other told xs ys))
    (λ other. inr (λ e. other (let f : x ≡ y = cc in f)))
    (told x y)

pub transitions_told : (t u : TransId) → (t ≡ u) ⊎ (t ≢ u)
transitions_told t u =
    ⊎_elim (λ e. inl (same_transition t u e)) (λ n. inr (λ e. n (ap (λ (x : TransId). x.0) e))) (cases_eq t.0 u.0)

pub routes_told : (p q : Route) → (p ≡ q) ⊎ (p ≢ q)
routes_told p q =
    ⊎_elim
    (λ e. ⊎_elim
    (λ f. inl (same_route p q e f))
    (λ n. inr (λ same. n (ap (λ (r : Route). r.rest) same)))
    (same_or_other transitions_told p.rest q.rest))
    (λ n. inr (λ same. n (ap (λ (r : Route). r.starts) same)))
    (same_or_other transitions_told p.starts q.starts)

pub is_there_or_not : (routes : List Route) (q : Route) → Contains routes q ⊎ (Contains routes q → ⊥)
is_there_or_not [] q = inr (λ h. nothing_in_nil q h)
is_there_or_not (p ∷ routes) q =
    ⊎_elim
    (λ same. inl (subst (Contains (p ∷ routes)) same (in_front p routes)))
    (λ other. ⊎_elim
    (λ there. inl (in_rest p q routes there))
    (λ not. inr (λ h. ⊎_elim other not (front_or_rest p q routes h)))
    (is_there_or_not routes q))
    (routes_told p q)
