-- Lists and their images, and elements that are numbered one after another.
use Rattle.std.proofs.Common.{◌≡◌, ℕ, suc, List, [], ◌∷◌, length, map, Some, refl, sym, ap, ◌∙◌, arith, slice_get}
use Rattle.std.specs.List.{AllByRecursion}
use Rattle.std.proofs.lemmas.List.Elements.{All-from_recursion, recursion_from_All}
use Rattle.pssm_spelling.specs.Spelling.{IsName}
use Rattle.pssm_semantics.specs.declared.setting.Program.{Program}
use Rattle.pssm_semantics.specs.Proper.{IsShortName, AreNames}
use Rattle.pssm_bodies.specs.Programs.{AllNumbered}
use Rattle.pssm_settings.specs.Names.{AreDistinctNames}
use Rattle.pssm_settings.proofs.FlatLists.{each_with}

-- ---- images

pub map_map : {X Y Z : Type 0} (g : Y → Z) (f : X → Y) (xs : List X) → map g (map f xs) ≡ map (λ x. g (f x)) xs
map_map g f [] = refl
map_map g f (x ∷ xs) = ap (λ zs. g (f x) ∷ zs) (map_map g f xs)

-- What keeps a rule as an image keeps it.
pub of_mapped : {X Y : Type 0} (P : Y → Type 0) (f : X → Y) (xs : List X) → AllByRecursion P (map f xs) → AllByRecursion (λ x. P (f x)) xs
of_mapped P f [] all = tt
of_mapped P f (x ∷ xs) all = (all.0, of_mapped P f xs all.1)

-- Two lists that agree place by place in what is told of their elements.
pub same_told : {X Y Z : Type 0} (f : X → Z) (g : Y → Z) (xs : List X) (ys : List Y) → length xs ≡ length ys
    → ((k : ℕ) (x : X) → slice_get xs k ≡ Some x → (y : Y) × (slice_get ys k ≡ Some y) × (f x ≡ g y)) → map f xs ≡ map g ys
same_told f g [] [] all each = refl
same_told f g [] (y ∷ ys) all each = absurd (omega arith)
same_told f g (x ∷ xs) [] all each = absurd (omega arith)
same_told {Y = Y} f g (x ∷ xs) (y ∷ ys) all each =
    let first = each 0 x refl in
    let found : Some y ≡ Some first.0 = first.1 in
    let there : y ≡ first.0 = cc (found) in
    let here : f x ≡ g y = first.2 ∙ sym (ap g there) in
    let rest = same_told f g xs ys (omega arith) (λ k. each (suc k)) in
    ap (λ z. z ∷ map f xs) here ∙ ap (λ zs. g y ∷ zs) rest

-- ---- names

-- Distinct names are names of a setting.
pub short_names : (names : List (List ℕ)) → AreDistinctNames names → AreNames names
short_names names distinct = (
  All-from_recursion IsShortName names
      (each_with IsName IsShortName names (λ name named. named.short) (recursion_from_All IsName names distinct.names_are)),
  distinct.apart,
)

-- ---- numbered elements

-- A rule that numbering an element keeps, or leads to another, does so for all.
pub after_numbered : {E : Type 0} (Step : Program → E → E → Program → Type 0) (P Q : E → Type 0)
    → ((before : Program) (from to : E) (behind : Program) → Step before from to behind → P from → Q to)
    → (before : Program) (from to : List E) (behind : Program) → AllNumbered Step before from to behind → AllByRecursion P from → AllByRecursion Q to
after_numbered Step P Q one before [] [] behind numbered all = tt
after_numbered Step P Q one before [] (y ∷ ys) behind numbered all = absurd numbered
after_numbered Step P Q one before (x ∷ xs) [] behind numbered all = absurd numbered
after_numbered Step P Q one before (x ∷ xs) (y ∷ ys) behind numbered all =
    (one before x y numbered.0 numbered.1 all.0, after_numbered Step P Q one numbered.0 xs ys behind numbered.2 all.1)
