-- Clean names are spelled as names.
use Rattle.std.proofs.Common.{◌≡◌, ℕ, Bool, true, false, ◌||◌, List, [], ◌∷◌, map, refl, ap, ◌∙◌}
use Rattle.std.specs.List.{list_all}
use Rattle.std.proofs.lemmas.Bool.{cond-true, cond-false, and_from}
use Rattle.pssm_spelling.specs.Spelling.{begins_name, continues_name, is_name_text}
use Rattle.pssm_spelling.specs.SpellingReading.{is_digit}
use Rattle.pssm_values.specs.Names.{clean_byte, needs_front, cleaned}

-- names go on with clean bytes
goes_on : (c : ℕ) → continues_name (clean_byte c) ≡ true
goes_on c = by_test (continues_name c) refl where
  by_test : (t : Bool) → continues_name c ≡ t → continues_name (clean_byte c) ≡ true
  by_test true is = ap continues_name (cond-true (continues_name c) c 95 is) ∙ is
  by_test false is = ap continues_name (cond-false (continues_name c) c 95 is)

go_on : (cs : List ℕ) → list_all continues_name (map clean_byte cs) ≡ true
go_on [] = refl
go_on (c ∷ cs) = and_from (continues_name (clean_byte c)) (list_all continues_name (map clean_byte cs)) (goes_on c) (go_on cs)

-- and begin with those that are no digits
begins : (c : ℕ) → is_digit c ≡ false → begins_name (clean_byte c) ≡ true
begins c no_digit = by_test (continues_name c) refl where
  by_test : (t : Bool) → continues_name c ≡ t → begins_name (clean_byte c) ≡ true
  by_test true is = ap begins_name (cond-true (continues_name c) c 95 is) ∙ by_letter (begins_name c) refl where
    by_letter : (b : Bool) → begins_name c ≡ b → begins_name c ≡ true
    by_letter true e = e
    by_letter false e = absurd (let no : (begins_name c || is_digit c) ≡ false = rw (e, no_digit) refl in cc)
  by_test false is = ap begins_name (cond-false (continues_name c) c 95 is)

pub is_spelled : (name : List ℕ) → is_name_text (cleaned name) ≡ true
is_spelled name = by_front (needs_front name) refl where
  by_front : (t : Bool) → needs_front name ≡ t → is_name_text (cleaned name) ≡ true
  by_front true e = ap is_name_text (cond-true (needs_front name) (95 ∷ map clean_byte name) (map clean_byte name) e) ∙ go_on name
  by_front false e = ap is_name_text (cond-false (needs_front name) (95 ∷ map clean_byte name) (map clean_byte name) e) ∙ plain name e where
    plain : (cs : List ℕ) → needs_front cs ≡ false → is_name_text (map clean_byte cs) ≡ true
    plain [] e = absurd cc
    plain (c ∷ cs) e = and_from (begins_name (clean_byte c)) (list_all continues_name (map clean_byte cs)) (begins c e) (go_on cs)
