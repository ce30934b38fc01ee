-- What a tally knows: the names of the signals, active classes and objects that stand before an element.
use Rattle.std.specs.Prelude.{◌≡◌, ℕ, List, map, Option, Some, None}
use Rattle.pssm_xml.specs.Documents.{Element}
use Rattle.pssm_profile.specs.Kinds.{Kind, signals, classes, objects, IsOfKind, AreBefore, name_of}
use Rattle.pssm_tally.specs.declared.counted_kind.CountedKind.{CountedKind}
use Rattle.pssm_tally.specs.declared.counted_kind.CountedKind.TheVariants as counted
use Rattle.pssm_tally.specs.declared.tally.Tally.{Tally}

-- the kind that a value stands for
abbrev pub kind_meant : CountedKind → Kind
kind_meant counted.Signal = signals
kind_meant counted.Class = classes
kind_meant counted.Object = objects

-- The element is of this kind; where there is none, it is of no kind.
abbrev pub HasKind : List Element → ℕ → Option CountedKind → Type 0
HasKind doc n None = (kind : Kind) → IsOfKind doc kind n → ⊥
HasKind doc n (Some kind) = IsOfKind doc (kind_meant kind) n

-- the names of a kind that a tally holds
abbrev pub names_held : Tally → CountedKind → List (List ℕ)
names_held tally counted.Signal = tally.signals
names_held tally counted.Class = tally.classes
names_held tally counted.Object = tally.objects

-- These are the names of all that are of the kind before the element, in order.
pub record AreNamesBefore (doc : List Element) (kind : Kind) (n : ℕ) (names : List (List ℕ)) : Type 0 where
  pub numbers : List ℕ
  pub all : AreBefore (IsOfKind doc kind) n numbers
  pub named : names ≡ map (name_of doc) numbers

-- The tally holds, for each kind, the names of all that are of it before the element.
abbrev pub CountsTo : List Element → ℕ → Tally → Type 0
CountsTo doc n tally = (kind : CountedKind) → AreNamesBefore doc (kind_meant kind) n (names_held tally kind)
