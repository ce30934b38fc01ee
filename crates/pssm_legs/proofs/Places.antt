-- The places of a list.
use Rattle.std.proofs.Common.{◌≡◌, ◌⊎◌, ◌<◌, ℕ, zero, suc, List, [], ◌∷◌, ◌++◌, length, slice_get, Some, Contains, refl, ap, ◌∙◌, inl, inr, ⊎_elim, arith}
use Rattle.std.proofs.lemmas.Option.{slice_get_within, slice_get-get_or, get_or_from_slice_get}
use Rattle.pssm_model.specs.declared.ids.TransId.{TransId}
use Rattle.pssm_legs.specs.LegsOf.{StandsBefore}

pub at_contains : {X : Type 0} (xs : List X) (k : ℕ) (x : X) → slice_get xs k ≡ Some x → Contains xs x
at_contains xs k x at = (k, slice_get_within xs k x at, get_or_from_slice_get xs k x x at)

pub contains_at : {X : Type 0} (xs : List X) (x : X) → Contains xs x → (k : ℕ) × (slice_get xs k ≡ Some x)
contains_at xs x h = (h.0, slice_get-get_or xs h.0 x h.1 ∙ ap Some h.2)

pub same_at : {X : Type 0} (xs : List X) (k : ℕ) (x y : X) → slice_get xs k ≡ Some x → slice_get xs k ≡ Some y → x ≡ y
same_at xs k x y e f = cc

-- with one more at the end
pub at_push_cases : {X : Type 0} (xs : List X) (x y : X) (k : ℕ) → slice_get (xs ++ x ∷ []) k ≡ Some y
    → (slice_get xs k ≡ Some y) ⊎ ((k ≡ length xs) × (y ≡ x))
at_push_cases [] x y zero e = inr (refl, cc)
at_push_cases [] x y (suc k) e = absurd (cc)
at_push_cases (z ∷ zs) x y zero e = inl e
at_push_cases (z ∷ zs) x y (suc k) e = ⊎_elim (λ old. inl old) (λ new. inr (ap suc new.0, new.1)) (at_push_cases zs x y k e)

pub at_push : {X : Type 0} (xs : List X) (x y : X) (k : ℕ) → slice_get xs k ≡ Some y → slice_get (xs ++ x ∷ []) k ≡ Some y
at_push [] x y k e = absurd (cc)
at_push (z ∷ zs) x y zero e = e
at_push (z ∷ zs) x y (suc k) e = at_push zs x y k e

pub at_end : {X : Type 0} (xs : List X) (x : X) → slice_get (xs ++ x ∷ []) (length xs) ≡ Some x
at_end [] x = refl
at_end (z ∷ zs) x = at_end zs x

-- what stands before another in a list with a first one: the first before one of the others, or both among the others
before_at : {X : Type 0} (x : X) (xs : List X) (t u : X) (i j : ℕ) → i < j → slice_get (x ∷ xs) i ≡ Some t → slice_get (x ∷ xs) j ≡ Some u
    → ((x ≡ t) × Contains xs u) ⊎ ((k l : ℕ) × (k < l) × (slice_get xs k ≡ Some t) × (slice_get xs l ≡ Some u))
before_at x xs t u zero zero lt e f = absurd (omega (arith, lt))
before_at x xs t u zero (suc j) lt e f = inl ((cc), at_contains xs j u f)
before_at x xs t u (suc i) zero lt e f = absurd (omega (arith, lt))
before_at x xs t u (suc i) (suc j) lt e f = inr (i, j, omega (arith, lt), e, f)

pub before_cases : (x : TransId) (xs : List TransId) (t u : TransId) → StandsBefore (x ∷ xs) t u → ((x ≡ t) × Contains xs u) ⊎ StandsBefore xs t u
before_cases x xs t u h = before_at x xs t u h.0 h.1 h.2 h.3 h.4

pub before_of : (x : TransId) (xs : List TransId) (t u : TransId) → ((x ≡ t) × Contains xs u) ⊎ StandsBefore xs t u → StandsBefore (x ∷ xs) t u
before_of x xs t u h =
    ⊎_elim
    (λ first. let at = contains_at xs u first.1 in (0, suc at.0, omega arith, ap Some first.0, at.1))
    (λ both. let lt = both.2 in (suc both.0, suc both.1, omega (arith, lt), both.3, both.4))
    h
