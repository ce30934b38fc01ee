-- The ids that a value holds, taken one behind another.
use Rattle.std.proofs.Common.{◌≡◌, ◌<◌, ◌+◌, ℕ, suc, Bool, true, false, cond, not, List, [], ◌∷◌, length, take, drop, filter, refl, sym, ap, subst, ◌∙◌, arith}
use Rattle.std.specs.List.{prefix_len, slice_split, onto_first}
use Rattle.std.proofs.lemmas.Bool.{cond-true}
use Rattle.std.proofs.lemmas.List.Folds.{length-prefix_len}
use Rattle.pssm_spelling.specs.SpellingReading.{EndsRun}
use Rattle.pssm_spelling.proofs.SpellingLaws.{ends_after}
use Rattle.pssm_values.specs.Blanks.{is_blank}
use Rattle.pssm_values.specs.Ids.{is_some_text, ids_in}

module _ (p : ℕ → Bool) where
  -- what does not part
  abbrev stays : ℕ → Bool
  stays c = not (p c)

  -- the parts that are not empty
  abbrev held : List ℕ → List (List ℕ)
  held xs = filter is_some_text (slice_split p xs)

  -- the parts behind the first, where that has ended
  abbrev others : List ℕ → List (List ℕ)
  others [] = []
  others (c ∷ cs) = slice_split p cs

  first_part : (xs : List ℕ) → slice_split p xs ≡ take (prefix_len stays xs) xs ∷ others (drop (prefix_len stays xs) xs)
  first_part [] = refl
  first_part (x ∷ xs) = by_head (p x) refl (first_part xs) where
    by_head : (t : Bool) → p x ≡ t → slice_split p xs ≡ take (prefix_len stays xs) xs ∷ others (drop (prefix_len stays xs) xs)
        → cond t ([] ∷ slice_split p xs) (onto_first x (slice_split p xs)) ≡ take (cond (not t) (1 + prefix_len stays xs) 0) (x ∷ xs) ∷ others (drop (cond (not t) (1 + prefix_len stays xs) 0) (x ∷ xs))
    by_head true here more = refl
    by_head false here more = let n : 1 + prefix_len stays xs ≡ suc (prefix_len stays xs) = omega arith in rw (n, more) refl

  -- Empty parts do not count.
  held_others : (t : List ℕ) → EndsRun stays t → filter is_some_text (others t) ≡ held t
  held_others [] ends = refl
  held_others (c ∷ cs) ends = by_head (p c) refl ends where
    by_head : (t : Bool) → p c ≡ t → not t ≡ false → filter is_some_text (slice_split p cs) ≡ filter is_some_text (cond t ([] ∷ slice_split p cs) (onto_first c (slice_split p cs)))
    by_head true here ends = refl
    by_head false here ends = absurd cc

  past_parting : (xs : List ℕ) → held xs ≡ held (drop (prefix_len p xs) xs)
  past_parting [] = refl
  past_parting (x ∷ xs) = by_head (p x) refl (past_parting xs) where
    by_head : (t : Bool) → p x ≡ t → held xs ≡ held (drop (prefix_len p xs) xs) → filter is_some_text (cond t ([] ∷ slice_split p xs) (onto_first x (slice_split p xs))) ≡ held (drop (cond t (1 + prefix_len p xs) 0) (x ∷ xs))
    by_head true here more = let n : 1 + prefix_len p xs ≡ suc (prefix_len p xs) = omega arith in rw n more
    by_head false here more = rw here refl

  some_text : (xs : List ℕ) → 0 < length xs → is_some_text xs ≡ true
  some_text [] some = absurd (omega arith)
  some_text (x ∷ xs) some = refl

  held_first : (xs : List ℕ) → 0 < prefix_len stays xs → held xs ≡ take (prefix_len stays xs) xs ∷ held (drop (prefix_len stays xs) xs)
  held_first xs some =
      let n = prefix_len stays xs in
      let len : length (take n xs) ≡ n = length-prefix_len stays xs in
      ap (filter is_some_text) (first_part xs)
      ∙ cond-true (is_some_text (take n xs)) (take n xs ∷ filter is_some_text (others (drop n xs))) (filter is_some_text (others (drop n xs))) (some_text (take n xs) (omega arith))
      ∙ ap (λ (more : List (List ℕ)). take n xs ∷ more) (held_others (drop n xs) (ends_after stays xs))

  none_held : (xs : List ℕ) → EndsRun p xs → prefix_len stays xs ≡ 0 → held xs ≡ []
  none_held [] ends none = refl
  none_held (c ∷ cs) ends none = absurd (let n : cond (not (p c)) (1 + prefix_len stays cs) 0 ≡ 1 + prefix_len stays cs = cond-true (not (p c)) (1 + prefix_len stays cs) 0 (rw ends refl) in omega arith)

pub no_ids : (value : List ℕ) → length value ≡ 0 → ids_in value ≡ []
no_ids [] none = refl
no_ids (c ∷ cs) none = absurd (omega arith)

pub nothing_held : (value text : List ℕ) (n : ℕ) → text ≡ drop (prefix_len is_blank value) value → n ≡ prefix_len (λ c. not (is_blank c)) text → n ≡ 0 → ids_in value ≡ []
nothing_held value text n behind len none =
    past_parting is_blank value ∙ ap ids_in (sym behind)
    ∙ none_held is_blank text (subst (EndsRun is_blank) (sym behind) (ends_after is_blank value)) (sym len ∙ none)

pub first_held : (value text id rest : List ℕ) (n : ℕ) → text ≡ drop (prefix_len is_blank value) value → n ≡ prefix_len (λ c. not (is_blank c)) text → (n ≡ 0 → ⊥) → id ≡ take n text → rest ≡ drop n text → ids_in value ≡ id ∷ ids_in rest
first_held value text id rest n behind len some front back =
    let is : prefix_len (λ c. not (is_blank c)) text ≡ n = sym len in
    let held : ids_in text ≡ take (prefix_len (λ c. not (is_blank c)) text) text ∷ ids_in (drop (prefix_len (λ c. not (is_blank c)) text) text) = held_first is_blank text (omega arith) in
    past_parting is_blank value ∙ ap ids_in (sym behind) ∙ held
    ∙ ap (λ (k : ℕ). take k text ∷ ids_in (drop k text)) is
    ∙ ap (λ (w : List ℕ). w ∷ ids_in (drop n text)) (sym front) ∙ ap (λ (r : List ℕ). id ∷ ids_in r) (sym back)
