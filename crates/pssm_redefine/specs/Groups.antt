-- The forms of each element, gathered by its number.
use Rattle.std.specs.Prelude.{◌≡◌, ◌<◌, ℕ, ◌==◌, List, [], map, filter, length, slice_index_or}
use Rattle.pssm_model.specs.declared.draft_setting.ElementRef.{ElementRef}
use Rattle.pssm_redefine.specs.declared.groups.Numbered.{Numbered}

-- the elements with this number
abbrev pub forms_of : List Numbered → ℕ → List ElementRef
forms_of numbered k = map (λ (n : Numbered). n.element) (filter (λ (n : Numbered). n.number == k) numbered)

-- the list at a number
abbrev pub list_at : List (List ElementRef) → ℕ → List ElementRef
list_at lists k = slice_index_or lists k []

-- At each number below this one stand its forms.
pub record AreGroups (count : ℕ) (numbered : List Numbered) (groups : List (List ElementRef)) : Type 0 where
  pub all : length groups ≡ count
  pub forms : (k : ℕ) → k < count → list_at groups k ≡ forms_of numbered k
