-- Where a name stands in a list, and behind some of its items.
use Rattle.std.proofs.Common.{◌≡◌, ℕ, zero, suc, ◌+◌, ◌<◌, ◌≤◌, Bool, true, false, not, ◌||◌, ltb, cond, List, [], ◌∷◌, length, drop, Option, Some, None, refl, sym, ap, subst, ◌∙◌, arith, is_some}
use Rattle.std.specs.Prelude.{position, IfSome, if◌then◌else◌}
use Rattle.std.specs.Option.{option_map}
use Rattle.std.specs.List.{position_or_len, list_any}
use Rattle.std.proofs.lemmas.Bool.{lt-ltb, le-ltb, ltb-true, ltb-false}
use Rattle.std.proofs.lemmas.List.{length-drop}

module _ {X : Type 0} (p : X → Bool) where
  first_passes : (x : X) (xs : List X) → p x ≡ true → position_or_len p (x ∷ xs) ≡ 0
  first_passes x xs is = ap (λ b. if not b then 1 + position_or_len p xs else 0) is

  first_fails : (x : X) (xs : List X) → p x ≡ false → position_or_len p (x ∷ xs) ≡ 1 + position_or_len p xs
  first_fails x xs is = ap (λ b. if not b then 1 + position_or_len p xs else 0) is

  -- ---- one that passes

  some_within : (xs : List X) → list_any p xs ≡ true → position_or_len p xs < length xs
  some_within [] e = absurd cc
  some_within (x ∷ xs) e = by (p x) refl (some_within xs) where
    by : (b : Bool) → p x ≡ b → (list_any p xs ≡ true → position_or_len p xs < length xs) → position_or_len p (x ∷ xs) < length (x ∷ xs)
    by true is rest = let first = first_passes x xs is in omega (arith, first)
    by false is rest =
        let less = rest (sym (ap (λ b. b || list_any p xs) is) ∙ e) in let first = first_fails x xs is in omega (arith, first, less)

  none_within : (xs : List X) → list_any p xs ≡ false → length xs ≤ position_or_len p xs
  none_within [] e = omega arith
  none_within (x ∷ xs) e = by (p x) refl (none_within xs) where
    by : (b : Bool) → p x ≡ b → (list_any p xs ≡ false → length xs ≤ position_or_len p xs) → length (x ∷ xs) ≤ position_or_len p (x ∷ xs)
    by true is rest = absurd (let whole : list_any p (x ∷ xs) ≡ true = ap (λ b. b || list_any p xs) is in let both : true ≡ false = sym whole ∙ e in cc)
    by false is rest =
        let more = rest (sym (ap (λ b. b || list_any p xs) is) ∙ e) in let first = first_fails x xs is in omega (arith, first, more)

  -- One has a place where one passes.
  pub place_any : (xs : List X) → is_some (position p xs) ≡ list_any p xs
  place_any xs = by (list_any p xs) refl where
    by : (b : Bool) → list_any p xs ≡ b → is_some (position p xs) ≡ list_any p xs
    by true e =
        ap (λ b. is_some (cond b (Some (position_or_len p xs)) None)) (lt-ltb (position_or_len p xs) (length xs) (some_within xs e)) ∙ sym e
    by false e =
        ap (λ b. is_some (cond b (Some (position_or_len p xs)) None)) (le-ltb (position_or_len p xs) (length xs) (none_within xs e)) ∙ sym e

  -- ---- behind the first ones

  later_length : (xs : List X) (n : ℕ) → n ≤ position_or_len p xs → position_or_len p (drop n xs) + n ≡ position_or_len p xs
  later_length xs zero le = omega arith
  later_length [] (suc n) le = absurd (omega (arith, le))
  later_length (x ∷ xs) (suc n) le = by (p x) refl (later_length xs n) where
    by : (b : Bool) → p x ≡ b → (n ≤ position_or_len p xs → position_or_len p (drop n xs) + n ≡ position_or_len p xs)
        → position_or_len p (drop n xs) + suc n ≡ position_or_len p (x ∷ xs)
    by true is rest = absurd (let first = first_passes x xs is in omega (arith, first, le))
    by false is rest = let first = first_fails x xs is in let more = rest (omega (arith, first, le)) in omega (arith, first, more)

  later_place : (xs : List X) (n : ℕ) → n ≤ length xs → n ≤ position_or_len p xs
      → option_map (λ k. k + n) (position p (drop n xs)) ≡ position p xs
  later_place xs n within le = by (ltb (position_or_len p xs) (length xs)) refl where
    same : position_or_len p (drop n xs) + n ≡ position_or_len p xs
    same = later_length xs n le

    size : length (drop n xs) + n ≡ length xs
    size = omega (arith, length-drop n xs, within)

    by : (b : Bool) → ltb (position_or_len p xs) (length xs) ≡ b → option_map (λ k. k + n) (position p (drop n xs)) ≡ position p xs
    by true e =
        let less = ltb-true (position_or_len p xs) (length xs) e in
        let inside = lt-ltb (position_or_len p (drop n xs)) (length (drop n xs)) (omega (arith, less, same, size)) in
        rw (inside, e) (ap Some same)
    by false e =
        let more = ltb-false (position_or_len p xs) (length xs) e in
        let past = le-ltb (position_or_len p (drop n xs)) (length (drop n xs)) (omega (arith, more, same, size)) in
        rw (past, e) refl

  reached : (xs : List X) (n : ℕ) → n ≤ length xs → IfSome (position p xs) (λ k. n ≤ k) → n ≤ position_or_len p xs
  reached xs n within known = by (ltb (position_or_len p xs) (length xs)) refl where
    by : (b : Bool) → ltb (position_or_len p xs) (length xs) ≡ b → n ≤ position_or_len p xs
    by true e = subst (λ b. IfSome (cond b (Some (position_or_len p xs)) None) (λ k. n ≤ k)) e known
    by false e = let past = ltb-false (position_or_len p xs) (length xs) e in omega (arith, past, within)

  -- Where none passes, none does so behind the first n.
  pub none_later : (xs : List X) (n : ℕ) → n ≤ length xs → position p xs ≡ None → option_map (λ k. k + n) (position p (drop n xs)) ≡ None
  none_later xs n within none =
      later_place xs n within (reached xs n within (subst (λ o. IfSome o (λ k. n ≤ k)) (sym none) tt)) ∙ none

  -- Where the first that passes stands behind the first n, it is the first there.
  pub some_later : (xs : List X) (n k : ℕ) → n ≤ length xs → position p xs ≡ Some k → n ≤ k → option_map (λ k. k + n) (position p (drop n xs)) ≡ Some k
  some_later xs n k within some le =
      later_place xs n within (reached xs n within (subst (λ o. IfSome o (λ k. n ≤ k)) (sym some) le)) ∙ some
