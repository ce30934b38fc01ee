-- Lists that contain many elements are long.
use Rattle.std.proofs.Common.{◌≡◌, ◌≤◌, ◌<◌, ◌+◌, ◌*◌, ◌++◌, ℕ, zero, suc, List, [], ◌∷◌, length, map, Contains, refl, sym, ap, subst, ⊎_elim, arith, length-append}
use Rattle.std.proofs.lemmas.List.Elements.{Contains-append_cases, Contains-append_left, Contains-append_right}
use Rattle.pssm_model.proofs.ElementLaws.{nothing_in_nil}
use Rattle.pssm_semantics_laws.proofs.Members.{first_in, later_in, in_cases}

-- what a list contains stands between two parts of it
split_at : {X : Type 0} (xs : List X) (x : X) → Contains xs x → (before after : List X) × (xs ≡ before ++ x ∷ after)
split_at [] x h = absurd (nothing_in_nil x h)
split_at (y ∷ ys) x h =
    ⊎_elim
    (λ (same : x ≡ y). ([], ys, ap (λ z. z ∷ ys) (sym same)))
    (λ later. (let parts = split_at ys x later in (y ∷ parts.0, parts.1, ap (λ zs. y ∷ zs) parts.2)))
    (in_cases y ys x h)

-- the other elements stand in these parts
in_parts : {X : Type 0} (before after : List X) (x y : X) → Contains (before ++ x ∷ after) y → (y ≡ x → ⊥) → Contains (before ++ after) y
in_parts before after x y h other =
    ⊎_elim
    (λ front. Contains-append_left before after y front)
    (λ back.
    ⊎_elim (λ same. absurd (other same)) (λ later. Contains-append_right before after y later) (in_cases x after y back))
    (Contains-append_cases before (x ∷ after) y h)

-- a list with all numbers below a bound has so many elements
pub long_from_all : (n : ℕ) (xs : List ℕ) → ((q : ℕ) → q < n → Contains xs q) → n ≤ length xs
long_from_all zero xs all = omega arith
long_from_all (suc n) xs all =
    let parts = split_at xs n (all n (omega arith)) in
    let rest = parts.0 ++ parts.1 in
    let others : (q : ℕ) → q < n → Contains rest q =
    λ q lt. in_parts parts.0 parts.1 n q (subst (λ ys. Contains ys q) parts.2 (all q (omega (arith, lt)))) (λ (same : q ≡ n). omega (arith, same, lt)) in
    let few = long_from_all n rest others in
    let a = ap (λ ys. length ys) parts.2 in
    let b = length-append parts.0 (n ∷ parts.1) in
    let c = length-append parts.0 parts.1 in
    omega (arith, few, a, b, c)

-- a number is three times one and less than three more
thirds : (q : ℕ) → (j k : ℕ) × (q ≡ 3 * j + k) × (k < 3)
thirds zero = (0, 0, refl, omega arith)
thirds (suc q) = next (thirds q)
  where
    next : (j k : ℕ) × (q ≡ 3 * j + k) × (k < 3) → (j k : ℕ) × (suc q ≡ 3 * j + k) × (k < 3)
    next (j, zero, e, lt) = (j, 1, omega (arith, e), omega arith)
    next (j, suc zero, e, lt) = (j, 2, omega (arith, e), omega arith)
    next (j, suc (suc zero), e, lt) = (suc j, 0, omega (arith, e), omega arith)
    next (j, suc (suc (suc k)), e, lt) = absurd (omega (arith, lt))

pub long_from_thirds : (n : ℕ) (xs : List ℕ) → ((j k : ℕ) → j < n → k < 3 → Contains xs (3 * j + k)) → 3 * n ≤ length xs
long_from_thirds n xs all =
    long_from_all (3 * n) xs
    (λ q lt.
    let at = thirds q in
    let e = at.2 in
    subst (λ p. Contains xs p) (sym at.2) (all at.0 at.1 (omega (arith, e, lt)) at.3))

-- what is made of the elements of a list
pub in_map : {X Y : Type 0} (f : X → Y) (xs : List X) (x : X) → Contains xs x → Contains (map f xs) (f x)
in_map f [] x h = absurd (nothing_in_nil x h)
in_map f (y ∷ ys) x h =
    ⊎_elim
    (λ (same : x ≡ y). subst (λ z. Contains (f y ∷ map f ys) (f z)) (sym same) (first_in (f y) (map f ys)))
    (λ later. later_in (f y) (map f ys) (f x) (in_map f ys x later))
    (in_cases y ys x h)
