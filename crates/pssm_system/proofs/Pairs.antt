-- The pairs of a list by its first element, and the elements of mapped lists.
use Rattle.std.proofs.Common.{◌≡◌, ◌++◌, suc, List, [], ◌∷◌, map, Contains, get_or, sym, subst, ⊎_elim, arith}
use Rattle.std.specs.Prelude.{AllPairs, All}
use Rattle.std.proofs.lemmas.List.Elements.{All-contains, Contains-get_or, Contains-append_cases}
use Rattle.std.proofs.lemmas.List.Kept.{AllPairs-cons}
use Rattle.pssm_model.proofs.ElementLaws.{nothing_in_nil}
use Rattle.pssm_semantics_laws.proofs.Members.{first_in, later_in, in_cases}

pub AllPairs-first : {X : Type 0} (R : X → X → Type 0) (x : X) (xs : List X) → AllPairs R (x ∷ xs) → (y : X) → Contains xs y → R x y
AllPairs-first R x xs pairs y inside =
    let all : All (R x) xs = λ k d lt. pairs 0 (suc k) d (omega arith) (omega arith) in
    All-contains (R x) xs y all inside

pub AllPairs-rest : {X : Type 0} (R : X → X → Type 0) (x : X) (xs : List X) → AllPairs R (x ∷ xs) → AllPairs R xs
AllPairs-rest R x xs pairs i j d before within = pairs (suc i) (suc j) d (omega arith) (omega arith)

-- a pair of a longer list
pub AllPairs-more : {X : Type 0} (R : X → X → Type 0) (x : X) (xs : List X) → ((y : X) → Contains xs y → R x y) → AllPairs R xs → AllPairs R (x ∷ xs)
AllPairs-more R x xs first rest = AllPairs-cons R x xs (λ k d lt. first (get_or xs k d) (Contains-get_or xs k d lt)) rest

-- the pairs of two lists one after the other
pub AllPairs-both : {X : Type 0} (R : X → X → Type 0) (xs ys : List X) → AllPairs R xs → AllPairs R ys → ((x y : X) → Contains xs x → Contains ys y → R x y)
    → AllPairs R (xs ++ ys)
AllPairs-both R [] ys front back across = back
AllPairs-both R (x ∷ xs) ys front back across =
    AllPairs-more R x (xs ++ ys)
    (λ y inside.
    ⊎_elim (λ near. AllPairs-first R x xs front y near) (λ far. across x y (first_in x xs) far) (Contains-append_cases xs ys y inside))
    (AllPairs-both R xs ys (AllPairs-rest R x xs front) back (λ z y near far. across z y (later_in x xs z near) far))

-- what is in a mapped list
pub in_mapped : {X Y : Type 0} (f : X → Y) (xs : List X) (y : Y) → Contains (map f xs) y → (x : X) × Contains xs x × (f x ≡ y)
in_mapped f [] y inside = absurd (nothing_in_nil y inside)
in_mapped f (x ∷ xs) y inside =
    ⊎_elim
    (λ first. (x, first_in x xs, sym first))
    (λ later. let at = in_mapped f xs y later in (at.0, later_in x xs at.0 at.1, at.2))
    (in_cases (f x) (map f xs) y inside)

pub mapped_in : {X Y : Type 0} (f : X → Y) (xs : List X) (x : X) → Contains xs x → Contains (map f xs) (f x)
mapped_in f [] x inside = absurd (nothing_in_nil x inside)
mapped_in f (z ∷ xs) x inside =
    ⊎_elim
    (λ first. subst (λ w. Contains (f z ∷ map f xs) (f w)) (sym first) (first_in (f z) (map f xs)))
    (λ later. later_in (f z) (map f xs) (f x) (mapped_in f xs x later))
    (in_cases z xs x inside)
