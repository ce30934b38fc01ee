-- The numbers of elements in the flattened machine, as they are given out machine by machine.
use Rattle.std.specs.Prelude.{◌≡◌, ◌⊎◌, ◌<◌, ◌==◌, ℕ, List, [], ◌∷◌, ◌++◌, length, take, Contains, Option, Some, None, option_and_then, slice_get, slice_index_or, slice_set, cond}
use Rattle.std.specs.Option.{option_map_or}
use Rattle.pssm_model.specs.declared.draft_setting.ElementRef.{ElementRef}
use Rattle.pssm_model.specs.declared.draft_setting.Draft.{Draft}
use Rattle.pssm_heritage.specs.declared.kinds.ElementKind.{ElementKind}
use Rattle.pssm_heritage.specs.Chains.{IsChain}
use Rattle.pssm_heritage.specs.Elements.{count_in, IsElement, redefined}
use Rattle.pssm_heritage.specs.Becoming.{Became}
use Rattle.pssm_heritage.specs.Numbers.{own_elements, elements_of, IsSiftedBy, HasNumber}

-- The machines are those of a machine, from the one that extends none.
pub record AreChain (draft : Draft) (machines : List ℕ) : Type 0 where
  pub last : ℕ
  pub chain : IsChain draft last machines

-- the element with this place in the list of the machine at place k of the chain
abbrev pub element_at : List ℕ → ℕ → ℕ → ElementRef
element_at machines k i = record { machine = slice_index_or machines k 0; element = i }

-- how many elements of the kind a machine has
abbrev pub own_count : Draft → ElementKind → ℕ → ℕ
own_count draft kind m = option_map_or (count_in kind) (slice_get draft.machines m) 0

-- The element stands before place i of the machine at place k of the chain.
pub record IsVisited (draft : Draft) (kind : ElementKind) (machines : List ℕ) (k i : ℕ) (e : ElementRef) : Type 0 where
  pub element : IsElement draft kind e
  pub before : Contains (take k machines) e.machine ⊎ ((e.machine ≡ slice_index_or machines k 0) × (e.element < i))

-- the number that is noted for an element
abbrev pub look : List (List ℕ) → ElementRef → Option ℕ
look rows e = option_and_then (λ row. slice_get row e.element) (slice_get rows e.machine)

-- the number that is noted for what an element redefines in another machine
abbrev pub above : Draft → ElementKind → List (List ℕ) → ElementRef → Option ℕ
above draft kind rows e = option_and_then (λ (f : ElementRef). cond (f.machine == e.machine) None (look rows f)) (redefined draft kind e)

-- the numbers with one more, for a machine
abbrev pub with_number : List (List ℕ) → ℕ → ℕ → List (List ℕ)
with_number rows m number = slice_set rows m (slice_index_or rows m [] ++ number ∷ [])

-- the elements that were visited, in their order
abbrev pub visited_elements : Draft → ElementKind → List ℕ → ℕ → ℕ → List ElementRef
visited_elements draft kind machines k i = elements_of draft kind (take k machines) ++ take i (own_elements draft kind (slice_index_or machines k 0))

-- Numbers are noted for what was visited, and they are right.
pub record IsNumbering (draft : Draft) (kind : ElementKind) (machines : List ℕ) (k i : ℕ) (rows : List (List ℕ)) (firsts : List ElementRef) : Type 0 where
  pub width : length rows ≡ length draft.machines
  pub row : k < length machines → length (slice_index_or rows (slice_index_or machines k 0) []) ≡ i
  pub sound : (e : ElementRef) (n : ℕ) → look rows e ≡ Some n → IsVisited draft kind machines k i e × HasNumber draft kind firsts e n
  pub all : (e : ElementRef) → IsVisited draft kind machines k i e → (n : ℕ) × (look rows e ≡ Some n)
  pub single : (n : ℕ) (f : ElementRef) → slice_get firsts n ≡ Some f → look rows f ≡ Some n
  pub order : IsSiftedBy (λ e. Became draft kind e e) (visited_elements draft kind machines k i) firsts

-- How the next element is numbered: as what it redefines above, or newly.
pub data IsNumbered (draft : Draft) (kind : ElementKind) (rows : List (List ℕ)) (firsts : List ElementRef) (e : ElementRef) (n : ℕ) (more : List ElementRef) : Type 0 where
  inherits : above draft kind rows e ≡ Some n → more ≡ firsts → IsNumbered draft kind rows firsts e n more
  begins : above draft kind rows e ≡ None → n ≡ length firsts → more ≡ firsts ++ e ∷ [] → IsNumbered draft kind rows firsts e n more
