-- The bytes of lines.
use Rattle.std.proofs.Common.{◌≡◌, ℕ, zero, suc, ◌+◌, ◌≤◌, List, [], ◌∷◌, ◌++◌, length, drop, Some, refl, sym, ap, ◌∙◌, append_assoc, arith}
use Rattle.std.specs.Prelude.{map, slice_get}
use Rattle.std.specs.List.{flat_map}
use Rattle.std.proofs.lemmas.List.{append-nil}
use Rattle.pssm_flat.specs.Text.{line, text_of, numbered}

pub text_of_append : (a b : List (List ℕ)) → text_of (a ++ b) ≡ text_of a ++ text_of b
text_of_append [] b = refl
text_of_append (l ∷ a) b = ap (λ t. line l ++ t) (text_of_append a b) ∙ sym (append_assoc (line l) (text_of a) (text_of b))

pub text_of_map : {X : Type 0} (f : X → List ℕ) (xs : List X) → text_of (map f xs) ≡ flat_map (λ x. line (f x)) xs
text_of_map f [] = refl
text_of_map f (x ∷ xs) = ap (λ t. line (f x) ++ t) (text_of_map f xs)

pub text_of_flat : {X : Type 0} (f : X → List (List ℕ)) (xs : List X) → text_of (flat_map f xs) ≡ flat_map (λ x. text_of (f x)) xs
text_of_flat f [] = refl
text_of_flat f (x ∷ xs) = text_of_append (f x) (flat_map f xs) ∙ ap (λ t. text_of (f x) ++ t) (text_of_flat f xs)

-- the items from one on
pub drop_at_item : {X : Type 0} (xs : List X) (n : ℕ) (x : X) → slice_get xs n ≡ Some x → drop n xs ≡ x ∷ drop (n + 1) xs
drop_at_item [] n x e = absurd cc
drop_at_item (y ∷ xs) zero x e = let same : y ≡ x = cc in ap (λ z. z ∷ xs) same
drop_at_item (y ∷ xs) (suc n) x e = let k : suc n + 1 ≡ suc (n + 1) = omega arith in drop_at_item xs n x e ∙ rw k refl

-- one more item is written
pub written_more : {X : Type 0} (f : ℕ → X → List (List ℕ)) (n : ℕ) (xs : List X) (x : X) (before after whole : List ℕ)
    → slice_get xs n ≡ Some x → after ≡ before ++ text_of (f n x) → before ++ text_of (numbered f n (drop n xs)) ≡ whole → after ++ text_of (numbered f (n + 1) (drop (n + 1) xs)) ≡ whole
written_more f n xs x before after whole at_n more so_far =
    let next : suc n ≡ n + 1 = omega arith in
    let others = drop (n + 1) xs in
    let split : text_of (numbered f n (x ∷ others)) ≡ text_of (f n x) ++ text_of (numbered f (n + 1) others) =
    text_of_append (f n x) (numbered f (suc n) others) ∙ ap (λ k. text_of (f n x) ++ text_of (numbered f k others)) next in
    ap (λ t. t ++ text_of (numbered f (n + 1) others)) more
    ∙ append_assoc before (text_of (f n x)) (text_of (numbered f (n + 1) others))
    ∙ ap (λ t. before ++ t) (sym split)
    ∙ ap (λ ys. before ++ text_of (numbered f n ys)) (sym (drop_at_item xs n x at_n))
    ∙ so_far

drop_past : {X : Type 0} (xs : List X) (n : ℕ) → length xs ≤ n → drop n xs ≡ []
drop_past [] zero le = refl
drop_past [] (suc n) le = refl
drop_past (x ∷ xs) zero le = absurd (omega arith)
drop_past (x ∷ xs) (suc n) le = drop_past xs n (omega arith)

-- all items are written
pub written_all : {X : Type 0} (f : ℕ → X → List (List ℕ)) (n : ℕ) (xs : List X) (before whole : List ℕ)
    → length xs ≤ n → before ++ text_of (numbered f n (drop n xs)) ≡ whole → before ≡ whole
written_all f n xs before whole le so_far =
    sym (append-nil before) ∙ ap (λ ys. before ++ text_of (numbered f n ys)) (sym (drop_past xs n le)) ∙ so_far

-- a line alone
pub text_of_one : (l : List ℕ) → line l ≡ text_of (l ∷ [])
text_of_one l = sym (append-nil (line l))

-- one more item is written, by a number that is counted elsewhere
pub written_next : {X : Type 0} (f : ℕ → X → List (List ℕ)) (n k : ℕ) (xs : List X) (x : X) (before after whole : List ℕ)
    → k ≡ n → slice_get xs n ≡ Some x → after ≡ before ++ text_of (f k x) → before ++ text_of (numbered f n (drop n xs)) ≡ whole → after ++ text_of (numbered f (n + 1) (drop (n + 1) xs)) ≡ whole
written_next f n k xs x before after whole same at_n more so_far =
    written_more f n xs x before after whole at_n (more ∙ ap (λ i. before ++ text_of (f i x)) same) so_far

-- the same of items of one line
pub written_line : {X : Type 0} (f : ℕ → X → List ℕ) (n k : ℕ) (xs : List X) (x : X) (before after whole : List ℕ)
    → k ≡ n → slice_get xs n ≡ Some x → after ≡ before ++ line (f k x) → before ++ text_of (numbered (λ i y. f i y ∷ []) n (drop n xs)) ≡ whole → after ++ text_of (numbered (λ i y. f i y ∷ []) (n + 1) (drop (n + 1) xs)) ≡ whole
written_line f n k xs x before after whole same at_n more so_far =
    written_next (λ i y. f i y ∷ []) n k xs x before after whole same at_n (more ∙ ap (λ t. before ++ t) (text_of_one (f k x))) so_far
