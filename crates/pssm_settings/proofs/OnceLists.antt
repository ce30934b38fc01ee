-- What a function gives of the elements of a list in another order.
use Rattle.std.proofs.Common.{◌≡◌, ℕ, List, [], ◌∷◌, map, set, get_or, refl, sym, ap, ◌∙◌, subst}
use Rattle.std.specs.List.{swap}
use Rattle.std.specs.List.Sorted.{IsPermutation, SwapsInRange, apply_swaps}
use Rattle.std.proofs.Math.ListN.{get_or-map}
use Rattle.std.proofs.lemmas.List.{map-set, length-map}

map_swap : {X Y : Type 0} (f : X → Y) (xs : List X) (i j : ℕ) → map f (swap xs i j) ≡ swap (map f xs) i j
map_swap f [] i j = refl
map_swap f (d ∷ ys) i j =
    map-set f (set (d ∷ ys) i (get_or (d ∷ ys) j d)) j (get_or (d ∷ ys) i d)
    ∙ ap (λ l. set l j (f (get_or (d ∷ ys) i d))) (map-set f (d ∷ ys) i (get_or (d ∷ ys) j d))
    ∙ ap (λ a. set (set (map f (d ∷ ys)) i a) j (f (get_or (d ∷ ys) i d))) (sym (get_or-map f (d ∷ ys) j d))
    ∙ ap (λ a. set (set (map f (d ∷ ys)) i (get_or (map f (d ∷ ys)) j (f d))) j a) (sym (get_or-map f (d ∷ ys) i d))

map_moves : {X Y : Type 0} (f : X → Y) (xs : List X) (moves : List (ℕ × ℕ)) → map f (apply_swaps xs moves) ≡ apply_swaps (map f xs) moves
map_moves f xs [] = refl
map_moves f xs (m ∷ moves) = map_swap f (apply_swaps xs moves) m.0 m.1 ∙ ap (λ l. swap l m.0 m.1) (map_moves f xs moves)

pub map_permuted : {X Y : Type 0} (f : X → Y) (xs ys : List X) → IsPermutation xs ys → IsPermutation (map f xs) (map f ys)
map_permuted f xs ys h = record {
  moves = h.moves;
  below = subst (λ n. SwapsInRange n h.moves) (sym (length-map xs f)) h.below;
  is = ap (map f) h.is ∙ map_moves f xs h.moves;
}
