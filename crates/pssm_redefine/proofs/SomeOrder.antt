-- Lists that are put in order, signals that are united, and bodies in the order of the file.
use Rattle.std.proofs.Common.{◌≡◌, ◌<◌, ℕ, zero, suc, Bool, true, false, List, [], ◌∷◌, length, map, get_or, refl, sym, ap, subst, ◌∙◌, arith, add-one, Option, Some, None}
use Rattle.std.specs.Prelude.{◌==◌, IsPermutation, IsSorted, IsSome, All, unwrap_or}
use Rattle.std.specs.List.{dedup}
use Rattle.std.specs.Ordering.{is_lt, nat_cmp, ordering_reverse}
use Rattle.std.specs.Cmp.{IsTotalOrder}
use Rattle.std.specs.declared.cmp.Ordering.{Ordering}
use Rattle.std.specs.declared.cmp.Ordering.TheVariants.{Less, Equal, Greater}
use Rattle.std.proofs.lemmas.Cmp.{nat_cmp_total, on_total, then_total}
use Rattle.std.proofs.lemmas.List.Sorted.{IsPermutation-refl, IsPermutation-trans, IsPermutation-cons}
use Rattle.pssm_model.specs.declared.ids.SignalId.{SignalId}
use Rattle.pssm_model.specs.declared.draft_setting.Body.{Body}
use Rattle.pssm_redefine.specs.declared.bodies.Place.{Place}
use Rattle.pssm_redefine.specs.Bodies.{places_from, place_order, body_in, empty_body, IsOrder, AreBodies}
use Rattle.pssm_redefine.specs.Merging.{AreUnited}
use Rattle.pssm_redefine.proofs.BodyLaws.{places_given}
use Rattle.pssm_redefine.proofs.DeferLaws.{united_from}

-- ---- a list is put in order

module _ {X : Type 0} (cmp : X → X → Ordering) where
  -- the first of the list does not come before this one
  abbrev NotBefore : X → List X → Type 0
  NotBefore b [] = Unit {0}
  NotBefore b (y ∷ ys) = is_lt (cmp y b) ≡ false

  abbrev Ascends : List X → Type 0
  Ascends [] = Unit {0}
  Ascends (x ∷ xs) = NotBefore x xs × Ascends xs

  ascends_sorted : (xs : List X) → Ascends xs → (k : ℕ) (d : X) → suc k < length xs → is_lt (cmp (get_or xs (suc k) d) (get_or xs k d)) ≡ false
  ascends_sorted [] h k d lt = absurd (omega arith)
  ascends_sorted (x ∷ []) h k d lt = absurd (omega arith)
  ascends_sorted (x ∷ y ∷ xs) h zero d lt = h.0
  ascends_sorted (x ∷ y ∷ xs) h (suc k) d lt = ascends_sorted (y ∷ xs) h.1 k d (omega arith)

  is_sorted : (xs : List X) → Ascends xs → IsSorted cmp xs
  is_sorted xs h k d from lt =
      subst (λ n. is_lt (cmp (get_or xs n d) (get_or xs k d)) ≡ false) (sym (add-one k)) (ascends_sorted xs h k d (omega arith))

  -- an ascending list with one more
  record HasPut (x : X) (ys : List X) : Type 0 where
    more : List X
    same : IsPermutation (x ∷ ys) more
    up : Ascends more
    kept : (b : X) → is_lt (cmp x b) ≡ false → NotBefore b ys → NotBefore b more

  exchanged : (x y : X) (ys : List X) → IsPermutation (x ∷ y ∷ ys) (y ∷ x ∷ ys)
  exchanged x y ys = record { moves = (0, 1) ∷ []; below = (omega arith, omega arith, tt); is = refl }

  module _ (apart : (x y : X) → is_lt (cmp x y) ≡ true → is_lt (cmp y x) ≡ false) where
    put_before : (x y : X) (ys : List X) → Ascends (y ∷ ys) → HasPut x ys → (b : Bool) → is_lt (cmp y x) ≡ b → HasPut x (y ∷ ys)
    put_before x y ys h rest false e = record {
      more = x ∷ y ∷ ys;
      same = IsPermutation-refl (x ∷ y ∷ ys);
      up = (e, h);
      kept = λ b f g. f;
    }
    put_before x y ys h rest true e = record {
      more = y ∷ rest.more;
      same = IsPermutation-trans (x ∷ y ∷ ys) (y ∷ x ∷ ys) (y ∷ rest.more) (exchanged x y ys) (IsPermutation-cons y (x ∷ ys) rest.more rest.same);
      up = (rest.kept y (apart y x e) h.0, rest.up);
      kept = λ b f g. g;
    }

    put : (x : X) (ys : List X) → Ascends ys → HasPut x ys
    put x [] h = record {
      more = x ∷ [];
      same = IsPermutation-refl (x ∷ []);
      up = (tt, tt);
      kept = λ b f g. f;
    }
    put x (y ∷ ys) h = put_before x y ys h (put x ys h.1) (is_lt (cmp y x)) refl

    in_order : (xs : List X) → (ys : List X) × IsPermutation xs ys × Ascends ys
    in_order [] = ([], IsPermutation-refl [], tt)
    in_order (x ∷ xs) =
        let rest = in_order xs in
        let one = put x rest.0 rest.2 in
        (one.more, IsPermutation-trans (x ∷ xs) (x ∷ rest.0) one.more (IsPermutation-cons x xs rest.0 rest.1) one.same, one.up)

reversed_lt : (o p : Ordering) → o ≡ ordering_reverse p → is_lt o ≡ true → is_lt p ≡ false
reversed_lt o Less e lt = let f = ap is_lt e in absurd (cc)
reversed_lt o Equal e lt = refl
reversed_lt o Greater e lt = refl

pub some_sorted : {X : Type 0} (cmp : X → X → Ordering) → IsTotalOrder cmp → (xs : List X) → (ys : List X) × IsPermutation xs ys × IsSorted cmp ys
some_sorted cmp total xs =
    let found = in_order cmp (λ x y lt. reversed_lt (cmp x y) (cmp y x) (total.antisymm x y) lt) xs in
    (found.0, found.1, is_sorted cmp found.0 found.2)

-- ---- signals

pub some_united : (all : List SignalId) → (united : List SignalId) × AreUnited all united
some_united all =
    let found = some_sorted (λ (a b : SignalId). nat_cmp a.0 b.0) (on_total (λ (s : SignalId). s.0) nat_cmp_total) all in
    (dedup (λ (a b : SignalId). a.0 == b.0) found.0, united_from all found.0 (dedup (λ (a b : SignalId). a.0 == b.0) found.0) found.1 found.2 refl)

-- ---- bodies

place_total : IsTotalOrder place_order
place_total = then_total (on_total (λ (p : Place). p.at) nat_cmp_total) (on_total (λ (p : Place). p.slot) nat_cmp_total)

pub some_order : (slots : List (Option Body)) → (order : List Place) × IsOrder slots order
some_order slots =
    let found = some_sorted place_order place_total (places_from 0 slots) in
    (found.0, record { same = found.1; ascending = found.2 })

given : (o : Option Body) → IsSome o → Some (unwrap_or o empty_body) ≡ o
given None is = absurd (cc)
given (Some body) is = refl

bodies_at : (slots : List (Option Body)) (order : List Place) → All (λ (p : Place). IsSome (body_in slots p.slot)) order
    → (bodies : List Body) × (map Some bodies ≡ map (λ (p : Place). body_in slots p.slot) order)
bodies_at slots [] all = ([], refl)
bodies_at slots (p ∷ order) all =
    let rest = bodies_at slots order (λ k d lt. all (suc k) d (omega arith)) in
    let here = given (body_in slots p.slot) (all 0 p (omega arith)) in
    (unwrap_or (body_in slots p.slot) empty_body ∷ rest.0, ap (λ o. o ∷ map Some rest.0) here ∙ ap (λ os. body_in slots p.slot ∷ os) rest.1)

pub some_bodies : (slots : List (Option Body)) (order : List Place) → IsOrder slots order → (bodies : List Body) × AreBodies slots order bodies
some_bodies slots order h =
    let found = bodies_at slots order (places_given slots order h) in
    (empty_body ∷ found.0, ap (λ os. Some empty_body ∷ os) found.1)
