-- Marks have numbers in the order in which they are first named (this profile's choice).
use Rattle.std.specs.Prelude.{◌≡◌, ℕ, List, [], ◌∷◌, ◌++◌, length, take, Option, Some, None, position, bytes_eq}
use Rattle.pssm_model.specs.declared.ids.MarkId.{MarkId}

-- the number of a mark: that of the first such name, or the next one where it is named for the first time
abbrev pub number_or : Option ℕ → ℕ → ℕ
number_or (Some k) next = k
number_or None next = next

abbrev pub mark_number : List (List ℕ) → List ℕ → ℕ
mark_number marks name = number_or (position (λ m. bytes_eq m name) marks) (length marks)

abbrev pub mark_of : List (List ℕ) → List ℕ → MarkId
mark_of marks name = record { 0 = mark_number marks name }

-- the marks when it has been named
abbrev pub grown : Option ℕ → List (List ℕ) → List ℕ → List (List ℕ)
grown (Some k) marks name = marks
grown None marks name = marks ++ name ∷ []

abbrev pub with_mark : List (List ℕ) → List ℕ → List (List ℕ)
with_mark marks name = grown (position (λ m. bytes_eq m name) marks) marks name

-- The marks that were there stand where they stood; there may be more behind them.
abbrev pub KeepsMarks : List (List ℕ) → List (List ℕ) → Type 0
KeepsMarks marks more = take (length marks) more ≡ marks
