-- The first few elements of a list: what is among one more of them.
use Rattle.std.proofs.Common.{◌≡◌, ◌⊎◌, ◌+◌, ◌<◌, ℕ, List, [], ◌∷◌, length, get_or, take, Contains, arith, sym, subst}
use Rattle.std.proofs.lemmas.List.{take_more}
use Rattle.std.proofs.lemmas.List.Elements.{Contains-push, Contains-push_cases, Contains-append_left}

pub none_taken : {X : Type 0} (xs : List X) (y : X) → Contains (take 0 xs) y → ⊥
none_taken xs y h = absurd (omega (arith, h.1))

pub taken_cases : {X : Type 0} (xs : List X) (i : ℕ) (d y : X) → i < length xs → Contains (take (i + 1) xs) y
    → Contains (take i xs) y ⊎ (get_or xs i d ≡ y)
taken_cases {X} xs i d y lt h =
    Contains-push_cases (take i xs) (get_or xs i d) y (subst (λ (zs : List X). Contains zs y) (take_more xs i d lt) h)

pub taken_more : {X : Type 0} (xs : List X) (i : ℕ) (y : X) → i < length xs → Contains (take i xs) y → Contains (take (i + 1) xs) y
taken_more {X} xs i y lt h =
    subst (λ (zs : List X). Contains zs y) (sym (take_more xs i y lt)) (Contains-append_left (take i xs) (get_or xs i y ∷ []) y h)

pub taken_here : {X : Type 0} (xs : List X) (i : ℕ) (d : X) → i < length xs → Contains (take (i + 1) xs) (get_or xs i d)
taken_here {X} xs i d lt =
    subst (λ (zs : List X). Contains zs (get_or xs i d)) (sym (take_more xs i d lt)) (Contains-push (take i xs) (get_or xs i d))
