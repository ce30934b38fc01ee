-- Lists of elements, up to one and with one more.
use Rattle.std.proofs.Common.{◌≡◌, ◌<◌, ◌+◌, ℕ, List, [], ◌∷◌, ◌++◌, length, take, drop, get_or, sym, ◌∙◌, ap}
use Rattle.std.specs.List.{flat_map}
use Rattle.std.proofs.lemmas.List.{take_more, append-nil, append_assoc, take-append-drop}
use Rattle.std.proofs.lemmas.Grind.{flat_map-append}

-- the parts of one element more
pub flat_more : {A B : Type 0} (f : A → List B) (xs : List A) (i : ℕ) (x : A) → i < length xs → x ≡ get_or xs i x
    → flat_map f (take (i + 1) xs) ≡ flat_map f (take i xs) ++ f x
flat_more f xs i x lt is =
    ap (flat_map f) (take_more xs i x lt) ∙ flat_map-append f (take i xs) (get_or xs i x ∷ [])
    ∙ ap (λ ys. flat_map f (take i xs) ++ ys) (append-nil (f (get_or xs i x)))
    ∙ ap (λ y. flat_map f (take i xs) ++ f y) (sym is)

-- the parts of all elements, cut at one of them
pub flat_cut : {A B : Type 0} (f : A → List B) (xs : List A) (i : ℕ) (x : A) → i < length xs → x ≡ get_or xs i x
    → flat_map f xs ≡ flat_map f (take i xs) ++ (f x ++ flat_map f (drop (i + 1) xs))
flat_cut f xs i x lt is =
    ap (flat_map f) (sym (take-append-drop (i + 1) xs)) ∙ flat_map-append f (take (i + 1) xs) (drop (i + 1) xs)
    ∙ ap (λ ys. ys ++ flat_map f (drop (i + 1) xs)) (flat_more f xs i x lt is)
    ∙ append_assoc (flat_map f (take i xs)) (f x) (flat_map f (drop (i + 1) xs))

pub take_one_more : {A : Type 0} (xs : List A) (i : ℕ) (x : A) → i < length xs → x ≡ get_or xs i x → take (i + 1) xs ≡ take i xs ++ x ∷ []
take_one_more xs i x lt is = take_more xs i x lt ∙ ap (λ y. take i xs ++ y ∷ []) (sym is)

-- lists that grow by an element's part, and by a whole one
pub grown_more : {A B : Type 0} (f : A → List B) (xs : List A) (i : ℕ) (x : A) (old first now : List B) → i < length xs → x ≡ get_or xs i x
    → old ≡ first ++ flat_map f (take i xs) → now ≡ old ++ f x
    → now ≡ first ++ flat_map f (take (i + 1) xs)
grown_more f xs i x old first now lt is before grows =
    grows ∙ ap (λ ys. ys ++ f x) before ∙ append_assoc first (flat_map f (take i xs)) (f x) ∙ ap (λ ys. first ++ ys) (sym (flat_more f xs i x lt is))
