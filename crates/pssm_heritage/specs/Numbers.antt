-- The elements of the flattened machine, their numbers, and their later forms.
use Rattle.std.specs.Prelude.{◌≡◌, ℕ, List, [], ◌∷◌, map, Some, slice_get}
use Rattle.std.specs.List.{range_with_len, flat_map}
use Rattle.std.specs.Option.{option_map_or}
use Rattle.pssm_model.specs.declared.draft_setting.ElementRef.{ElementRef}
use Rattle.pssm_model.specs.declared.draft_setting.Draft.{Draft}
use Rattle.pssm_heritage.specs.declared.kinds.ElementKind.{ElementKind}
use Rattle.pssm_heritage.specs.Elements.{count_in}
use Rattle.pssm_heritage.specs.Becoming.{Became}

-- the elements of a kind that a machine has of its own, in the order of its list
abbrev pub own_elements : Draft → ElementKind → ℕ → List ElementRef
own_elements draft kind m =
    map (λ i. let e : ElementRef = record { machine = m; element = i } in e) (range_with_len 0 (option_map_or (count_in kind) (slice_get draft.machines m) 0))

-- those of all machines of a chain, in its order
abbrev pub elements_of : Draft → ElementKind → List ℕ → List ElementRef
elements_of draft kind machines = flat_map (own_elements draft kind) machines

-- The second list is what of the first one meets the condition, in its order.
pub data IsSiftedBy (Meets : ElementRef → Type 0) : List ElementRef → List ElementRef → Type 0 where
  nothing : IsSiftedBy Meets [] []
  taken : {e : ElementRef} {es left : List ElementRef} → Meets e → IsSiftedBy Meets es left → IsSiftedBy Meets (e ∷ es) (e ∷ left)
  passed : {e : ElementRef} {es left : List ElementRef} → (Meets e → ⊥) → IsSiftedBy Meets es left → IsSiftedBy Meets (e ∷ es) left

-- the elements of the flattened machine, each by its first form: inherited ones first, in their order (UML 2.5.1 14.3.3)
abbrev pub AreFirstForms : Draft → ElementKind → List ℕ → List ElementRef → Type 0
AreFirstForms draft kind machines firsts = IsSiftedBy (λ e. Became draft kind e e) (elements_of draft kind machines) firsts

-- The element has this number in the flattened machine: it became the first form that stands there.
abbrev pub HasNumber : Draft → ElementKind → List ElementRef → ElementRef → ℕ → Type 0
HasNumber draft kind firsts e n = (first : ElementRef) × (slice_get firsts n ≡ Some first) × Became draft kind e first
