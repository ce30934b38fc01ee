-- Elements of a list are within the file, and lists with one element more.
use Rattle.std.proofs.Common.{◌≡◌, ◌<◌, ◌≤◌, ◌+◌, ℕ, Bool, true, false, cond, List, [], ◌∷◌, ◌++◌, length, map, filter, take, get_or, Fits, w8, w32, refl, ap, ◌∙◌, arith}
use Rattle.std.specs.List.{All}
use Rattle.std.specs.Prelude.{not, ◌==◌}
use Rattle.std.proofs.lemmas.List.{map-append}
use Rattle.std.proofs.lemmas.List.Sums.{prefix_len-le-length}
use Rattle.std.proofs.lemmas.List.Elements.{filter_more, All-from_get_or, All-filter}
use Rattle.pssm_roles.specs.declared.role.Role.{Role}
use Rattle.pssm_numbering.specs.Numbering.{ModelFile, with_role, children_with, is_number, parent_of, place_in, classes, machines, is_attribute, is_parameter, is_machine}
use Rattle.pssm_numbering.specs.Meanings.{variables, is_variable}
use Rattle.pssm_numbering.specs.inner.Tables.{has_role}
use Rattle.pssm_numbering.proofs.ListLaws.{stands, first_length}

-- ---- within a file

pub with_role_within : (is : Role → Bool) (file : ModelFile) → All (λ n. n < length file.doc) (with_role is file)
with_role_within is file = All-from_get_or (λ n. n < length file.doc) (with_role is file) 0 (λ i less. let s = stands (has_role is file) (length file.doc) i 0 less in s.less)

pub with_role_few : (is : Role → Bool) (file : ModelFile) → length (with_role is file) ≤ length file.doc
with_role_few is file = first_length (has_role is file) (length file.doc)

pub children_within : (is : Role → Bool) (file : ModelFile) (p : ℕ) → All (λ n. n < length file.doc) (children_with is file p)
children_within is file p = All-filter (λ n. is_number p (parent_of file n)) (λ n. n < length file.doc) (with_role is file) (with_role_within is file)

pub variables_within : (file : ModelFile) (c : ℕ) → All (λ n. n < length file.doc) (variables file c)
variables_within file c = All-filter (is_variable file) (λ n. n < length file.doc) (children_with is_attribute file c) (children_within is_attribute file c)

-- ---- one more

mapped_if : {X Y : Type 0} (f : X → Y) (b : Bool) (x : X) → map f (cond b (x ∷ []) []) ≡ cond b (f x ∷ []) []
mapped_if f true x = refl
mapped_if f false x = refl

pub kept_more : {X Y : Type 0} (f : X → Y) (p : X → Bool) (xs : List X) (i : ℕ) (d : X) → i < length xs
    → map f (filter p (take (i + 1) xs)) ≡ map f (filter p (take i xs)) ++ cond (p (get_or xs i d)) (f (get_or xs i d) ∷ []) []
kept_more f p xs i d less =
    ap (map f) (filter_more p xs i d less)
    ∙ map-append f (filter p (take i xs)) (cond (p (get_or xs i d)) (get_or xs i d ∷ []) [])
    ∙ ap (λ ys. map f (filter p (take i xs)) ++ ys) (mapped_if f (p (get_or xs i d)) (get_or xs i d))

-- ---- places

pub place_short : (xs : List ℕ) (n : ℕ) → place_in xs n ≤ length xs
place_short xs n = prefix_len-le-length (λ m. not (m == n)) xs

-- the place of a class fits a byte
pub class_fits : (file numbered : ModelFile) (n place : ℕ) → numbered ≡ file → length (classes file) ≤ 64 → place ≡ place_in (classes numbered) n → Fits w8 place
class_fits file numbered n place same few at =
    let short = place_short (classes numbered) n in
    let lengths = ap (λ (f : ModelFile). length (classes f)) same in
    omega arith

-- so does the count of a signal's parameters
pub count_fits : (counted : ℕ) (list : List ℕ) (file : ModelFile) (n : ℕ) → list ≡ children_with is_parameter file n → length (children_with is_parameter file n) ≤ 8 → counted ≡ length list → Fits w8 counted
count_fits counted list file n is few at = let l = ap (λ (xs : List ℕ). length xs) is in omega arith

-- the number of machines is one of elements
pub machines_fit : (file numbered : ModelFile) (list : List ℕ) → numbered ≡ file → length file.doc ≤ 16777216 → list ≡ machines numbered → Fits w32 (length list)
machines_fit file numbered list same few is =
    let l = ap (λ (xs : List ℕ). length xs) is in
    let lengths = ap (λ (f : ModelFile). length (machines f)) same in
    let less = with_role_few is_machine file in
    omega arith
