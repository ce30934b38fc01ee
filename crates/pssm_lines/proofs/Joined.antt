-- Parts with a byte between two.
use Rattle.std.proofs.Common.{◌≡◌, ℕ, suc, ◌-◌, ◌≤◌, List, [], ◌∷◌, ◌++◌, length, take, drop, get_or, append_assoc, Result, Ok, Err, sym, ap, ◌∙◌, arith}
use Rattle.std.specs.Prelude.{map, OnOk}
use Rattle.std.specs.List.{flat_map, join_with_byte}
use Rattle.std.proofs.lemmas.List.{take_all}
use Rattle.pssm_lines.proofs.Readers.{joined_parts}

-- all but the first, as a pattern takes them
abbrev pub others_of : {X : Type 0} → List X → List X
others_of xs = take (length xs - 1) (drop 1 xs)

-- the same where the first part is got from the parts
pub joined_at : {X : Type 0} (c : ℕ) (f : X → List ℕ) (xs : List X) (x : X) → 1 ≤ length xs → x ≡ get_or xs 0 x → join_with_byte c (map f xs) ≡ f x ++ flat_map (λ y. c ∷ f y) (others_of xs)
joined_at c f [] x some first = absurd (omega arith)
joined_at c f (y ∷ ys) x some first =
    joined_parts c f y ys ∙ ap (λ z. f z ++ flat_map (λ y. c ∷ f y) ys) (sym first)
    ∙ ap (λ zs. f x ++ flat_map (λ y. c ∷ f y) zs) (sym (take_all (suc (length ys) - 1) ys (omega arith)))

-- the same of a text, where the other parts may want memory
pub joined_on : {X E : Type 0} (c : ℕ) (f : X → List ℕ) (xs : List X) (x : X) (r : Result (Unit {0}) E) (old mid new : List ℕ) → 1 ≤ length xs → x ≡ get_or xs 0 x
    → mid ≡ old ++ f x → OnOk r (new ≡ mid ++ flat_map (λ y. c ∷ f y) (others_of xs)) → OnOk r (new ≡ old ++ join_with_byte c (map f xs))
joined_on c f xs x (Ok u) old mid new some first front others =
    others ∙ ap (λ t. t ++ flat_map (λ y. c ∷ f y) (others_of xs)) front ∙ append_assoc old (f x) (flat_map (λ y. c ∷ f y) (others_of xs)) ∙ ap (λ t. old ++ t) (sym (joined_at c f xs x some first))
joined_on c f xs x (Err e) old mid new some first front others = tt
