-- The machines of the classes of a file, and its variables.
use Rattle.std.proofs.Common.{◌≡◌, ◌<◌, ◌+◌, ℕ, zero, suc, true, false, List, [], ◌∷◌, ◌++◌, length, map, get_or, refl, sym, ap, subst, ◌∙◌, ⊎_elim, arith, length-append}
use Rattle.std.proofs.lemmas.Bool.{cases_lt}
use Rattle.std.proofs.Math.Seq.{get_or-append_seam}
use Rattle.std.specs.List.{All}
use Rattle.std.proofs.lemmas.List.{length-map, get_or_append_left, get_or_read}
use Rattle.pssm_numbering.specs.Numbering.{ModelFile, role_at, classes, is_class, place_in}
use Rattle.pssm_numbering.specs.Meanings.{is_variable}
use Rattle.pssm_numbering.proofs.ListLaws.{first_taken, first_passed, stands_there}
use Rattle.pssm_limits.specs.inner.Variables.{machine_at, machines_at, AreVariables}
use Rattle.pssm_limits.proofs.ListLaws.{class_there}

get_map : {X : Type 0} (f : X → ℕ) (xs : List X) (k : ℕ) (d : X) (e : ℕ) → k < length xs → get_or (map f xs) k e ≡ f (get_or xs k d)
get_map f [] k d e lt = absurd (omega arith)
get_map f (x ∷ xs) zero d e lt = refl
get_map f (x ∷ xs) (suc k) d e lt = get_map f xs k d e (omega arith)

module _ (file : ModelFile) (held : List ℕ) (same : held ≡ machines_at file) (p : ℕ) (within : p < length file.doc) (class : is_class (role_at file p) ≡ true) where
  pub held_there : place_in (classes file) p < length held
  held_there =
      let there = class_there file p within class in
      let width = ap length same ∙ length-map (classes file) (machine_at file) in
      omega arith

  pub held_at : get_or held (place_in (classes file) p) 0 ≡ machine_at file p
  held_at =
      let there = class_there file p within class in
      ap (λ xs. get_or xs (place_in (classes file) p) 0) same
      ∙ get_map (machine_at file) (classes file) (place_in (classes file) p) 0 0 there
      ∙ ap (machine_at file) (stands_there (classes file) p 0 there)

-- what is read at the place of a class is its machine
pub held_read : (numbered file : ModelFile) → numbered ≡ file → (held : List ℕ) → held ≡ machines_at file → (p place read : ℕ) → p < length file.doc
    → is_class (role_at file p) ≡ true → place ≡ place_in (classes numbered) p → read ≡ get_or held place read → read ≡ machine_at file p
held_read numbered file same held are p place read within class at here =
    let at_place : place ≡ place_in (classes file) p = at ∙ ap (λ f. place_in (classes f) p) same in
    let there = held_there file held are p within class in
    get_or_read held place read (omega arith) here 0 ∙ ap (λ k. get_or held k 0) at_place ∙ held_at file held are p within class

all_more : (P : ℕ → Type 0) (xs : List ℕ) (n : ℕ) → All P xs → P n → All P (xs ++ n ∷ [])
all_more P xs n all here = λ k d lt.
    ⊎_elim
    (λ before. subst P (sym (get_or_append_left xs (n ∷ []) d k before)) (all k d before))
    (λ last. let width = length-append xs (n ∷ []) in
    let same : k ≡ length xs = omega arith in
    subst P (sym (ap (λ j. get_or (xs ++ n ∷ []) j d) same ∙ get_or-append_seam xs n [] d)) here)
    (cases_lt k (length xs))

pub variables_start : (file : ModelFile) → AreVariables file 0 []
variables_start file = (refl, λ k d lt. absurd (omega arith))

pub variable_taken : (file : ModelFile) (n : ℕ) (found : List ℕ) → AreVariables file n found → n < length file.doc → is_variable file n ≡ true
    → AreVariables file (n + 1) (found ++ n ∷ [])
variable_taken file n found are within here =
    (ap (λ xs. xs ++ n ∷ []) are.0 ∙ sym (first_taken (is_variable file) n here), all_more (λ m. m < length file.doc) found n are.1 within)

pub variable_passed : (file : ModelFile) (n : ℕ) (found : List ℕ) → AreVariables file n found → is_variable file n ≡ false → AreVariables file (n + 1) found
variable_passed file n found are here = (are.0 ∙ sym (first_passed (is_variable file) n here), are.1)
