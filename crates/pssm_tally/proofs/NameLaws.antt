-- One more name, and each name once.
use Rattle.std.proofs.Common.{◌≡◌, ℕ, Bool, true, false, ◌||◌, List, [], ◌∷◌, ◌++◌, refl, sym, ap, ap₂, ◌∙◌, bytes_eq, if◌then◌else◌}
use Rattle.std.specs.List.{list_any}
use Rattle.std.specs.Cmp.Lexicographic.{bytes_decides}
use Rattle.std.proofs.lemmas.List.Folds.{list_any-append}
use Rattle.indexmap.specs.IndexSet.{insert_key}
use Rattle.pssm_tally.specs.inner.Distinct.{AreSameNames}

or_false : (b : Bool) → (b || false) ≡ b
or_false true = refl
or_false false = refl

-- A name behind others is among those that are kept once.
pub one_more : (names distinct next : List (List ℕ)) (key name : List ℕ) → AreSameNames names distinct → key ≡ name
    → next ≡ insert_key bytes_eq distinct key → AreSameNames (names ++ name ∷ []) next
one_more names distinct next key name same is put n = by (list_any (bytes_eq key) distinct) refl where
  next_is : (there : Bool) → list_any (bytes_eq key) distinct ≡ there → next ≡ (if there then distinct else distinct ++ key ∷ [])
  next_is there e = put ∙ ap (λ b. if b then distinct else distinct ++ key ∷ []) e

  held : list_any (bytes_eq key) distinct ≡ true → (b : Bool) → bytes_eq n name ≡ b
      → list_any (bytes_eq n) names ≡ (list_any (bytes_eq n) names || (bytes_eq n name || false))
  held there false e = sym (ap (λ c. list_any (bytes_eq n) names || (c || false)) e ∙ or_false (list_any (bytes_eq n) names))
  held there true e =
      let one : list_any (bytes_eq n) names ≡ true =
      sym (same n) ∙ ap (λ (m : List ℕ). list_any (bytes_eq m) distinct) ((bytes_decides n name).0 e ∙ sym is) ∙ there in
      one ∙ sym (ap (λ c. c || (bytes_eq n name || false)) one)

  by : (there : Bool) → list_any (bytes_eq key) distinct ≡ there → list_any (bytes_eq n) next ≡ list_any (bytes_eq n) (names ++ name ∷ [])
  by true e =
      ap (list_any (bytes_eq n)) (next_is true e) ∙ same n ∙ held e (bytes_eq n name) refl ∙ sym (list_any-append (bytes_eq n) names (name ∷ []))
  by false e =
      ap (list_any (bytes_eq n)) (next_is false e) ∙ list_any-append (bytes_eq n) distinct (key ∷ [])
      ∙ ap₂ (λ (b : Bool) (m : List ℕ). b || (bytes_eq n m || false)) (same n) is
      ∙ sym (list_any-append (bytes_eq n) names (name ∷ []))
