-- The only word of a text is `else` exactly where the text is `else` among blanks.
use Rattle.std.proofs.Common.{◌≡◌, ◌∙◌, ◌&&◌, ℕ, zero, suc, Bool, true, false, cond, not, List, [], ◌∷◌, ◌++◌, take, drop, filter, refl, sym, ap, arith, append_assoc}
use Rattle.std.specs.Prelude.{codes, IsTrue, ◌↔◌, bytes_eq}
use Rattle.std.specs.Option.{option_map_or}
use Rattle.std.specs.List.{prefix_len, list_all, slice_split, onto_first}
use Rattle.std.proofs.lemmas.Bool.{and_parts}
use Rattle.std.proofs.lemmas.Bool.Decides.{same_from_decides}
use Rattle.std.proofs.lemmas.List.{take-append-drop}
use Rattle.std.proofs.lemmas.Slice.Eq.{bytes_eq-Decides}
use Rattle.pssm_spelling.proofs.SpellingLaws.{passes_front}
use Rattle.pssm_values.specs.Blanks.{is_blank}
use Rattle.pssm_values.specs.Guards.{SaysElse}
use Rattle.pssm_values.specs.Ids.{is_some_text, ids_in, only}
use Rattle.pssm_values.proofs.IdLaws.{nothing_held, first_held}
use Rattle.pssm_parts.specs.Texts.{says_else}

-- ---- blanks

blanks_hold_none : (xs : List ℕ) → list_all is_blank xs ≡ true → ids_in xs ≡ []
blanks_hold_none [] all = refl
blanks_hold_none (x ∷ xs) all =
    let parts = and_parts (is_blank x) (list_all is_blank xs) all in
    ap (λ (b : Bool). filter is_some_text (cond b ([] ∷ slice_split is_blank xs) (onto_first x (slice_split is_blank xs)))) parts.0 ∙ blanks_hold_none xs parts.1

are_blanks : (xs : List ℕ) → ids_in xs ≡ [] → list_all is_blank xs ≡ true
are_blanks [] none = refl
are_blanks (x ∷ xs) none = by_head (are_blanks xs) (is_blank x) refl none where
  some_part : (parts : List (List ℕ)) → filter is_some_text (onto_first x parts) ≡ [] → ⊥
  some_part [] none = cc
  some_part (part ∷ parts) none = cc

  by_head : (ids_in xs ≡ [] → list_all is_blank xs ≡ true) → (t : Bool) → is_blank x ≡ t → filter is_some_text (cond t ([] ∷ slice_split is_blank xs) (onto_first x (slice_split is_blank xs))) ≡ [] → (is_blank x && list_all is_blank xs) ≡ true
  by_head others true here none = ap (λ (b : Bool). b && list_all is_blank xs) here ∙ others none
  by_head others false here none = absurd (some_part (slice_split is_blank xs) none)

-- ---- `else`

behind_blanks : (before text : List ℕ) → list_all is_blank before ≡ true → ids_in (before ++ text) ≡ ids_in text
behind_blanks [] text all = refl
behind_blanks (x ∷ xs) text all =
    let parts = and_parts (is_blank x) (list_all is_blank xs) all in
    ap (λ (b : Bool). filter is_some_text (cond b ([] ∷ slice_split is_blank (xs ++ text)) (onto_first x (slice_split is_blank (xs ++ text))))) parts.0 ∙ behind_blanks xs text parts.1

before_blanks : (behind : List ℕ) → list_all is_blank behind ≡ true → ids_in (codes "else" ++ behind) ≡ codes "else" ∷ []
before_blanks [] all = refl
before_blanks (x ∷ xs) all =
    let parts = and_parts (is_blank x) (list_all is_blank xs) all in
    ap (λ (b : Bool). filter is_some_text (onto_first 101 (onto_first 108 (onto_first 115 (onto_first 101 (cond b ([] ∷ slice_split is_blank xs) (onto_first x (slice_split is_blank xs)))))))) parts.0
    ∙ ap (λ (l : List (List ℕ)). codes "else" ∷ l) (blanks_hold_none xs parts.1)

-- The only of these words is `else`.
abbrev is_else : List (List ℕ) → Bool
is_else words = option_map_or (λ (word : List ℕ). bytes_eq word (codes "else")) (only words) false

among_blanks : (text : List ℕ) → SaysElse text → says_else text ≡ true
among_blanks text says =
    ap is_else (ap ids_in (says.parts ∙ append_assoc says.before (codes "else") says.behind) ∙ behind_blanks says.before (codes "else" ++ says.behind) says.blanks.0 ∙ before_blanks says.behind says.blanks.1)

module _ (text : List ℕ) where
  -- what no blank is
  abbrev stays : ℕ → Bool
  stays c = not (is_blank c)

  -- the text behind its first blanks
  abbrev rest : List ℕ
  rest = drop (prefix_len is_blank text) text

  -- how long its first word is
  abbrev n : ℕ
  n = prefix_len stays rest

  by_words : (words : List (List ℕ)) → ids_in (drop n rest) ≡ words → is_else (take n rest ∷ words) ≡ true → SaysElse text
  by_words (other ∷ more) held is = absurd cc
  by_words [] held is =
      let word : take n rest ≡ codes "else" = (bytes_eq-Decides (take n rest) (codes "else")).0 is in
      record {
        before = take (prefix_len is_blank text) text;
        behind = drop n rest;
        parts = sym (take-append-drop (prefix_len is_blank text) text)
            ∙ ap (λ (t : List ℕ). take (prefix_len is_blank text) text ++ t) (sym (take-append-drop n rest) ∙ ap (λ (t : List ℕ). t ++ drop n rest) word)
            ∙ sym (append_assoc (take (prefix_len is_blank text) text) (codes "else") (drop n rest));
        blanks = (passes_front is_blank text, are_blanks (drop n rest) held);
      }

  by_length : (k : ℕ) → n ≡ k → says_else text ≡ true → SaysElse text
  by_length zero none is = absurd (let no : says_else text ≡ false = ap is_else (nothing_held text rest n refl refl none) in cc)
  by_length (suc k) some is =
      let held : ids_in text ≡ take n rest ∷ ids_in (drop n rest) = first_held text rest (take n rest) (drop n rest) n refl refl (λ none. omega (arith, none, some)) refl refl in
      by_words (ids_in (drop n rest)) refl (sym (ap is_else held) ∙ is)

only_word : (text : List ℕ) → says_else text ≡ true → SaysElse text
only_word text is = by_length text (n text) refl is

pub one_else : (text : List ℕ) (r : Bool) → IsTrue r ↔ SaysElse text → r ≡ says_else text
one_else text r tells = same_from_decides r (says_else text) (tells.0, tells.1) (only_word text, among_blanks text)
