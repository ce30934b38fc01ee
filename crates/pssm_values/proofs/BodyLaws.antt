-- Languages, and what was seen of languages and bodies.
use Rattle.std.proofs.Common.{◌≡◌, ◌<◌, ◌≤◌, ◌+◌, ℕ, Bool, true, false, cond, eqb, ltb, not, List, [], ◌∷◌, ◌++◌, length, map, Option, Some, None, refl, sym, ap, ◌∙◌, arith, length-append, eq-eqb}
use Rattle.std.specs.Char.{to_ascii_lowercase}
use Rattle.std.specs.Prelude.{codes, IsTrue, ◌↔◌, position}
use Rattle.std.specs.List.{prefix_len}
use Rattle.std.proofs.lemmas.Bool.{cond-true, cond-false, ltb-true, ltb-false, lt-ltb, le-ltb, ne_eqb}
use Rattle.std.proofs.lemmas.List.Folds.{prefix_len-append}
use Rattle.std.proofs.lemmas.List.Sums.{prefix_len-le-length}
use Rattle.std.proofs.lemmas.Slice.Eq.{bytes_eq-Decides}
use Rattle.std.proofs.lemmas.Bool.Decides.{same_from_decides}
use Rattle.pssm_values.specs.declared.bodies.BodyChoice.{BodyChoice}
use Rattle.pssm_values.specs.Bodies.{is_language, HasSeen}
use Rattle.pssm_values.specs.inner.Noted.{noted}

pub same_letters : (language : List ℕ) (r : Bool) → IsTrue r ↔ (map to_ascii_lowercase language ≡ map to_ascii_lowercase (codes "pssm")) → r ≡ is_language language
same_letters language r tells =
    same_from_decides r (is_language language) (tells.0, tells.1) (bytes_eq-Decides (map to_ascii_lowercase language) (codes "pssm"))

-- The first place that passes, with one element more behind the others.
module _ {X : Type 0} (p : X → Bool) (xs : List X) (x : X) where
  abbrev fails : X → Bool
  fails y = not (p y)

  abbrev run : ℕ
  run = prefix_len fails xs

  within : {n l : ℕ} → n < l → cond (ltb n l) (Some n) None ≡ Some n
  within {n} {l} less = cond-true (ltb n l) (Some n) None (lt-ltb n l less)

  outside : {n l : ℕ} → l ≤ n → cond (ltb n l) (Some n) None ≡ None
  outside {n} {l} more = cond-false (ltb n l) (Some n) None (le-ltb n l more)

  pub first_goes_on : position p (xs ++ x ∷ []) ≡ noted (position p xs) (length xs) (p x)
  first_goes_on = by_run (ltb run (length xs)) refl where
    longer : length (xs ++ x ∷ []) ≡ length xs + 1
    longer = length-append xs (x ∷ [])

    -- an earlier one passes
    by_run : (t : Bool) → ltb run (length xs) ≡ t → position p (xs ++ x ∷ []) ≡ noted (position p xs) (length xs) (p x)
    by_run true e =
        let less : run < length xs = ltb-true run (length xs) e in
        let ends : prefix_len fails (xs ++ x ∷ []) ≡ run = prefix_len-append fails xs (x ∷ []) ∙ cond-false (eqb run (length xs)) (length xs + prefix_len fails (x ∷ [])) run (ne_eqb run (length xs) (λ same. omega arith)) in
        ap (λ (n : ℕ). cond (ltb n (length (xs ++ x ∷ []))) (Some n) None) ends ∙ within (let l = longer in omega (arith, l))
        ∙ sym (ap (λ (o : Option ℕ). noted o (length xs) (p x)) (within less))
    -- none does
    by_run false e =
        let whole : run ≡ length xs = let most = prefix_len-le-length fails xs in let least = ltb-false run (length xs) e in omega arith in
        let ends : prefix_len fails (xs ++ x ∷ []) ≡ length xs + prefix_len fails (x ∷ []) = prefix_len-append fails xs (x ∷ []) ∙ cond-true (eqb run (length xs)) (length xs + prefix_len fails (x ∷ [])) run (eq-eqb run (length xs) whole) in
        ap (λ (n : ℕ). cond (ltb n (length (xs ++ x ∷ []))) (Some n) None) ends
        ∙ by_last (p x) refl ∙ sym (ap (λ (o : Option ℕ). noted o (length xs) (p x)) (outside (omega arith)))
      where
        by_last : (b : Bool) → p x ≡ b → cond (ltb (length xs + cond (not (p x)) 1 0) (length (xs ++ x ∷ []))) (Some (length xs + cond (not (p x)) 1 0)) None ≡ cond (p x) (Some (length xs)) None
        by_last true is = let n : length xs + 0 ≡ length xs = omega arith in rw (is, n) (within (let l = longer in omega (arith, l)))
        by_last false is = rw is (outside (let l = longer in omega (arith, l)))

-- With one language more.
pub seen_more : (choice : BodyChoice) (languages : List (List ℕ)) (bodies : ℕ) (language : List ℕ) (passes : Bool) (place : Option ℕ) → passes ≡ is_language language → place ≡ noted choice.pssm choice.languages passes
    → HasSeen choice languages bodies → HasSeen (record { languages = choice.languages + 1; pssm = place; bodies = choice.bodies }) (languages ++ language ∷ []) bodies
seen_more choice languages bodies language passes place is first seen = record {
  languages_counted = ap (λ (n : ℕ). n + 1) seen.languages_counted ∙ sym (length-append languages (language ∷ []));
  first = first ∙ ap (noted choice.pssm choice.languages) is ∙ ap (λ (o : Option ℕ). noted o choice.languages (is_language language)) seen.first
      ∙ ap (λ (n : ℕ). noted (position is_language languages) n (is_language language)) seen.languages_counted ∙ sym (first_goes_on is_language languages language);
  bodies_counted = seen.bodies_counted;
}
