-- The lists of a file, and maps over their first items.
use Rattle.std.proofs.Common.{◌≡◌, ◌<◌, ◌≤◌, ◌+◌, ℕ, zero, suc, Bool, true, List, [], ◌∷◌, ◌++◌, length, map, take, get_or, Some, refl, sym, ap, ◌∙◌, arith}
use Rattle.std.specs.Prelude.{slice_get}
use Rattle.std.proofs.lemmas.Option.{slice_get-get_or}
use Rattle.pssm_numbering.specs.Numbering.{ModelFile, role_at, machines, classes, is_machine, is_class, place_in, with_role}
use Rattle.pssm_numbering.proofs.ListLaws.{first_length, place_at, counts}
use Rattle.pssm_roles.specs.declared.role.Role.{Role}

pub few_machines : (file : ModelFile) → length (machines file) ≤ length file.doc
few_machines file = first_length (λ n. is_machine (role_at file n)) (length file.doc)

-- an element of a kind has its place in the list of the kind
pub has_place : (is : Role → Bool) (file : ModelFile) (n : ℕ) → n < length file.doc → is (role_at file n) ≡ true
    → place_in (with_role is file) n < length (with_role is file)
has_place is file n less here =
    let q : ℕ → Bool = λ m. is (role_at file m) in
    let at = place_at q (length file.doc) n less here in
    let more = counts q (length file.doc) n less here in
    omega arith

pub machine_there : (file : ModelFile) (n : ℕ) → n < length file.doc → is_machine (role_at file n) ≡ true → place_in (machines file) n < length (machines file)
machine_there = has_place is_machine

pub class_there : (file : ModelFile) (n : ℕ) → n < length file.doc → is_class (role_at file n) ≡ true → place_in (classes file) n < length (classes file)
class_there = has_place is_class

module _ {X : Type 0} where
  take_next : (xs : List X) (k : ℕ) (x : X) → slice_get xs k ≡ Some x → take (suc k) xs ≡ take k xs ++ x ∷ []
  take_next [] k x at = absurd cc
  take_next (y ∷ xs) zero x at = let same : y ≡ x = cc in ap (λ z. z ∷ []) same
  take_next (y ∷ xs) (suc k) x at = ap (λ zs. y ∷ zs) (take_next xs k x at)

  -- one item more
  pub take_more : (xs : List X) (k : ℕ) (x : X) → slice_get xs k ≡ Some x → take (k + 1) xs ≡ take k xs ++ x ∷ []
  take_more xs k x at = ap (λ j. take j xs) (let e : k + 1 ≡ suc k = omega arith in e) ∙ take_next xs k x at

  pub item_at : (xs : List X) (k : ℕ) → k < length xs → (x : X) × (slice_get xs k ≡ Some x)
  item_at [] k lt = absurd (omega arith)
  item_at (x ∷ xs) zero lt = (x, refl)
  item_at (x ∷ xs) (suc k) lt = item_at xs k (omega arith)

  pub take_all : (xs : List X) (k : ℕ) → length xs ≤ k → take k xs ≡ xs
  take_all [] zero le = refl
  take_all [] (suc k) le = refl
  take_all (x ∷ xs) zero le = absurd (omega arith)
  take_all (x ∷ xs) (suc k) le = ap (λ zs. x ∷ zs) (take_all xs k (omega arith))

module _ {X Y : Type 0} (f : X → Y) where
  pub map_more : (xs : List X) (x : X) → map f (xs ++ x ∷ []) ≡ map f xs ++ f x ∷ []
  map_more [] x = refl
  map_more (y ∷ xs) x = ap (λ zs. f y ∷ zs) (map_more xs x)

  -- one item more is noted
  pub noted_more : (xs : List X) (k : ℕ) (found : List Y) (note : Y) → k < length xs → found ≡ map f (take k xs)
      → ((x : X) → slice_get xs k ≡ Some x → note ≡ f x) → found ++ note ∷ [] ≡ map f (take (k + 1) xs)
  noted_more xs k found note lt before new =
      let item = item_at xs k lt in
      ap (λ zs. zs ++ note ∷ []) before ∙ ap (λ y. map f (take k xs) ++ y ∷ []) (new item.0 item.1) ∙ sym (map_more (take k xs) item.0)
      ∙ sym (ap (map f) (take_more xs k item.0 item.1))

-- the item that is read at a place is one item more
pub taken_read : (held all : List ℕ) → held ≡ all → (k d : ℕ) → k < length held → take (k + 1) all ≡ take k all ++ get_or held k d ∷ []
taken_read held all same k d lt =
    ap (take (k + 1)) (sym same) ∙ take_more held k (get_or held k d) (slice_get-get_or held k d lt) ∙ ap (λ xs. take k xs ++ get_or held k d ∷ []) same

pub map_both : {X Y Z : Type 0} (f : X → Y) (g : Y → Z) (xs : List X) → map g (map f xs) ≡ map (λ x. g (f x)) xs
map_both f g [] = refl
map_both f g (x ∷ xs) = ap (λ zs. g (f x) ∷ zs) (map_both f g xs)
