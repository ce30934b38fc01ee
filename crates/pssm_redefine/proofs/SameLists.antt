-- Lists that are the same: made alike, ascending with the same elements, or sorted with the same elements.
use Rattle.std.proofs.Common.{◌≡◌, ◌⊎◌, ◌<◌, ◌≤◌, ◌+◌, ◌==◌, ℕ, suc, Bool, true, false, cond, List, [], ◌∷◌, ◌++◌, map, get_or, Option, Some, None, refl, sym, ap, subst, ◌∙◌, inl, inr, ⊎_elim, arith, Contains}
use Rattle.std.specs.Prelude.{AllPairs, IsSorted, sum_by}
use Rattle.std.specs.List.{filter_map, flat_map, cons_option}
use Rattle.std.specs.Option.{option_map_or}
use Rattle.std.specs.Ordering.{is_lt}
use Rattle.std.proofs.lemmas.Bool.{eqb-true, eq-eqb}
use Rattle.std.proofs.lemmas.List.Sums.{sum_by-cons}
use Rattle.std.proofs.lemmas.List.Elements.{Contains-append_right, Contains-append_cases}
use Rattle.pssm_model.specs.declared.ids.SignalId.{SignalId}
use Rattle.pssm_heritage.proofs.ChainLaws.{the_one, nothing_in}
use Rattle.pssm_redefine.specs.declared.bodies.Place.{Place}
use Rattle.pssm_redefine.specs.Bodies.{place_order}

-- ---- made alike

pub map_same : {X Y : Type 0} (f g : X → Y) (xs : List X) → ((x : X) → f x ≡ g x) → map f xs ≡ map g xs
map_same f g [] h = refl
map_same f g (x ∷ xs) h = ap (λ y. y ∷ map f xs) (h x) ∙ ap (λ ys. g x ∷ ys) (map_same f g xs h)

pub flat_same : {X Y : Type 0} (f g : X → List Y) (xs : List X) → ((x : X) → f x ≡ g x) → flat_map f xs ≡ flat_map g xs
flat_same f g [] h = refl
flat_same f g (x ∷ xs) h = ap (λ ys. ys ++ flat_map f xs) (h x) ∙ ap (λ ys. g x ++ ys) (flat_same f g xs h)

pub filter_same : {X Y : Type 0} (f g : X → Option Y) (xs : List X) → ((x : X) → f x ≡ g x) → filter_map f xs ≡ filter_map g xs
filter_same f g [] h = refl
filter_same f g (x ∷ xs) h = ap (λ o. cons_option o (filter_map f xs)) (h x) ∙ ap (λ ys. cons_option (g x) ys) (filter_same f g xs h)

pub option_same : {X Y : Type 0} (f g : X → Y) (o : Option X) (d : Y) → ((x : X) → f x ≡ g x) → option_map_or f o d ≡ option_map_or g o d
option_same f g None d h = refl
option_same f g (Some x) d h = h x

pub somes_same : {X : Type 0} (xs ys : List X) → map Some xs ≡ map Some ys → xs ≡ ys
somes_same [] [] e = refl
somes_same [] (y ∷ ys) e = absurd (cc)
somes_same (x ∷ xs) [] e = absurd (cc)
somes_same (x ∷ xs) (y ∷ ys) e =
    let head : x ≡ y = cc in
    let tail : map Some xs ≡ map Some ys = cc in
    ap (λ z. z ∷ xs) head ∙ ap (λ zs. y ∷ zs) (somes_same xs ys tail)

-- ---- ascending

module _ {X : Type 0} where
  in_cons : (x : X) (xs : List X) (y : X) → Contains (x ∷ xs) y → (y ≡ x) ⊎ Contains xs y
  in_cons x xs y h = ⊎_elim (λ here. inl (the_one x y here)) (λ there. inr there) (Contains-append_cases (x ∷ []) xs y h)

  in_tail : (x : X) (xs : List X) (y : X) → Contains xs y → Contains (x ∷ xs) y
  in_tail x xs y h = Contains-append_right (x ∷ []) xs y h

  in_head : (x : X) (xs : List X) → Contains (x ∷ xs) x
  in_head x xs = (0, omega arith, refl)

abbrev IsAscending : List SignalId → Type 0
IsAscending signals = AllPairs (λ (g h : SignalId). g.0 < h.0) signals

head_below : (x : SignalId) (xs : List SignalId) (y : SignalId) → IsAscending (x ∷ xs) → Contains xs y → x.0 < y.0
head_below x xs y p (k, lt, e) = subst (λ (z : SignalId). x.0 < z.0) e (p 0 (suc k) y (omega arith) (omega arith))

tail_ascends : (x : SignalId) (xs : List SignalId) → IsAscending (x ∷ xs) → IsAscending xs
tail_ascends x xs p = λ i j d lt within. p (suc i) (suc j) d (omega arith) (omega arith)

tail_has : (x y : SignalId) (xs ys : List SignalId) → x ≡ y → IsAscending (x ∷ xs) → ((g : SignalId) → Contains (x ∷ xs) g → Contains (y ∷ ys) g)
    → (g : SignalId) → Contains xs g → Contains ys g
tail_has x y xs ys same p f g on =
    ⊎_elim
    (λ is. absurd (let lt = head_below x xs g p on in let e = ap (λ (s : SignalId). s.0) (is ∙ sym same) in omega arith))
    (λ there. there)
    (in_cons y ys g (f g (in_tail x xs g on)))

pub ascending_same : (xs ys : List SignalId) → IsAscending xs → IsAscending ys → ((g : SignalId) → Contains xs g → Contains ys g) → ((g : SignalId) → Contains ys g → Contains xs g)
    → xs ≡ ys
ascending_same [] [] p q f g = refl
ascending_same [] (y ∷ ys) p q f g = absurd (nothing_in y (g y (in_head y ys)))
ascending_same (x ∷ xs) [] p q f g = absurd (nothing_in x (f x (in_head x xs)))
ascending_same (x ∷ xs) (y ∷ ys) p q f g =
    let same : x ≡ y = ⊎_elim
    (λ is. is)
    (λ behind. ⊎_elim (λ is. sym is) (λ after. absurd (let a = head_below y ys x q behind in let b = head_below x xs y p after in omega arith)) (in_cons x xs y (g y (in_head y ys))))
    (in_cons y ys x (f x (in_head x xs))) in
    ap (λ z. z ∷ xs) same
    ∙ ap (λ zs. y ∷ zs) (ascending_same xs ys (tail_ascends x xs p) (tail_ascends y ys q) (tail_has x y xs ys same p f) (tail_has y x ys xs (sym same) q g))

-- ---- sorted

abbrev IsUpTo : Place → Place → Type 0
IsUpTo p q = (p.at < q.at) ⊎ ((p.at ≡ q.at) × (p.slot ≤ q.slot))

up_to : (p q : Place) → is_lt (place_order q p) ≡ false → IsUpTo p q
up_to p q e = grind arith

up_further : (p q r : Place) → IsUpTo p q → IsUpTo q r → IsUpTo p r
up_further p q r a b = grind arith

place_same : (p q : Place) → p.at ≡ q.at → p.slot ≡ q.slot → p ≡ q
place_same p q a s = ap (λ n. let r : Place = record { at = n; slot = p.slot } in r) a ∙ ap (λ n. let r : Place = record { at = q.at; slot = n } in r) s

up_both : (p q : Place) → IsUpTo p q → IsUpTo q p → p ≡ q
up_both p q a b = let at : p.at ≡ q.at = grind arith in let slot : p.slot ≡ q.slot = grind arith in place_same p q at slot

tail_sorted : (x : Place) (xs : List Place) → IsSorted place_order (x ∷ xs) → IsSorted place_order xs
tail_sorted x xs h = λ k d low lt.
    let next : suc k + 1 ≡ suc (k + 1) = omega arith in
    subst (λ j. is_lt (place_order (get_or (x ∷ xs) j d) (get_or xs k d)) ≡ false) next (h (suc k) d (omega arith) (omega arith))

least : (x : Place) (xs : List Place) (y : Place) → IsSorted place_order (x ∷ xs) → Contains (x ∷ xs) y → IsUpTo x y
least x [] y h on = let same = the_one x y on in subst (IsUpTo x) (sym same) (inr (refl, omega arith))
least x (z ∷ zs) y h on =
    ⊎_elim
    (λ is. subst (IsUpTo x) (sym is) (inr (refl, omega arith)))
    (λ there. up_further x z y (up_to x z (h 0 x (omega arith) (omega arith))) (least z zs y (tail_sorted x (z ∷ zs) h) there))
    (in_cons x (z ∷ zs) y on)

abbrev one_if : Bool → Bool → ℕ
one_if a b = cond a (cond b 1 0) 0

abbrev is_at : Place → Place → ℕ
is_at p q = one_if (q.at == p.at) (q.slot == p.slot)

at_itself : (p : Place) → is_at p p ≡ 1
at_itself p = ap (λ b. one_if b (p.slot == p.slot)) (eq-eqb p.at p.at refl) ∙ ap (λ b. one_if true b) (eq-eqb p.slot p.slot refl)

at_or_not : (p q : Place) → (q ≡ p) ⊎ (is_at p q ≡ 0)
at_or_not p q = split (q.at == p.at) (q.slot == p.slot) refl refl
  where
    split : (a b : Bool) → (q.at == p.at) ≡ a → (q.slot == p.slot) ≡ b → (q ≡ p) ⊎ (one_if a b ≡ 0)
    split true true e f = inl (place_same q p (eqb-true q.at p.at e) (eqb-true q.slot p.slot f))
    split true false e f = inr refl
    split false b e f = inr refl

found : (p : Place) (xs : List Place) → 1 ≤ sum_by (is_at p) xs → Contains xs p
found p [] some = absurd (omega arith)
found p (x ∷ xs) some =
    ⊎_elim
    (λ is. subst (Contains (x ∷ xs)) is (in_head x xs))
    (λ none. in_tail x xs p (found p xs (let c = sum_by-cons (is_at p) x xs in omega arith)))
    (at_or_not p x)

pub order_same : (xs ys : List Place) → IsSorted place_order xs → IsSorted place_order ys → ((f : Place → ℕ) → sum_by f xs ≡ sum_by f ys) → xs ≡ ys
order_same [] [] s t h = refl
order_same [] (y ∷ ys) s t h = absurd (let e = h (λ z. 1) in let c = sum_by-cons (λ (z : Place). 1) y ys in omega arith)
order_same (x ∷ xs) [] s t h = absurd (let e = h (λ z. 1) in let c = sum_by-cons (λ (z : Place). 1) x xs in omega arith)
order_same (x ∷ xs) (y ∷ ys) s t h =
    let first : Contains (x ∷ xs) y = found y (x ∷ xs) (let e = h (is_at y) in let c = sum_by-cons (is_at y) y ys in let one = at_itself y in omega arith) in
    let second : Contains (y ∷ ys) x = found x (y ∷ ys) (let e = h (is_at x) in let c = sum_by-cons (is_at x) x xs in let one = at_itself x in omega arith) in
    let same : x ≡ y = up_both x y (least x xs y s first) (least y ys x t second) in
    ap (λ z. z ∷ xs) same
    ∙ ap (λ zs. y ∷ zs) (order_same xs ys (tail_sorted x xs s) (tail_sorted y ys t) (λ f.
    let e = h f in let c = sum_by-cons f x xs in let d = sum_by-cons f y ys in let v = ap f same in omega arith))
