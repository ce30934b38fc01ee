-- Elements of a draft with which nothing is wrong, and the tables that are made of them.
use Rattle.std.specs.Prelude.{◌≡◌, ◌≤◌, ◌<◌, ℕ, List, length, slice_index_or, Some}
use Rattle.pssm_model.specs.declared.elements.DraftMachine.{DraftMachine}
use Rattle.pssm_model.specs.declared.elements.Owner.{Owner}
use Rattle.pssm_model.specs.declared.elements.Element.{Element}
use Rattle.pssm_model.specs.declared.elements.Element.TheVariants as elements
use Rattle.pssm_model.specs.declared.elements.Shape.{Shape}
use Rattle.pssm_model.specs.declared.shape.PlaceKind.{PlaceKind}
use Rattle.pssm_model.specs.declared.shape.PlaceKind.TheVariants as places
use Rattle.pssm_model.specs.Forest.{owner_of, HasRegionsAbove}
use Rattle.pssm_model.specs.Shapes.{place_of, MayHaveOwner, IsShallow, HasBadEnd, IsPastLimit, IsWrongBy, IsNamedBy}

-- Nothing is wrong with the element.
pub record IsFaultless (m : DraftMachine) (e : Element) : Type 0 where
  pub owner : (p : Owner) → owner_of m (place_of e) ≡ Some p → MayHaveOwner m e p × IsShallow m (place_of e)
  pub ends : HasBadEnd m e → ⊥
  pub limit : IsPastLimit m e → ⊥

-- The fault names the element, and says what is wrong with it.
abbrev pub IsFaultOf : DraftMachine → Element → Shape → Type 0
IsFaultOf m e fault = IsWrongBy m fault × IsNamedBy fault e

-- the region or vertex of a number
abbrev pub place_element : PlaceKind → ℕ → Element
place_element places.Regions n = elements.Region (record { 0 = n })
place_element places.Vertices n = elements.Vertex (record { 0 = n })

-- the transition of a number
abbrev pub transition_element : ℕ → Element
transition_element n = elements.Transition (record { 0 = n })

-- how many regions or vertices there are
abbrev pub place_count : DraftMachine → PlaceKind → ℕ
place_count m places.Regions = length m.regions
place_count m places.Vertices = length m.vertices

-- Nothing is wrong with the elements below this number.
abbrev pub AreFaultless : DraftMachine → (ℕ → Element) → ℕ → Type 0
AreFaultless m element_at n = (k : ℕ) → k < n → IsFaultless m (element_at k)

-- Nothing is wrong with the elements below this number, and with this one there is.
pub record IsFirstFault (m : DraftMachine) (element_at : ℕ → Element) (fault : Shape) : Type 0 where
  pub number : ℕ
  pub before : AreFaultless m element_at number
  pub here : IsFaultOf m (element_at number) fault

-- This many regions stand on the owner chain, at most 32.
abbrev pub IsShallowBy : DraftMachine → Owner → ℕ → Type 0
IsShallowBy m p n = (n ≤ 32) × HasRegionsAbove m p n

-- The list has the depths of the places with the first numbers.
abbrev pub AreDepthsOf : DraftMachine → PlaceKind → List ℕ → Type 0
AreDepthsOf m kind depths = (k : ℕ) → k < length depths → IsShallowBy m (place_of (place_element kind k)) (slice_index_or depths k 0)

-- The element has a number past the limit of its kind.
abbrev pub IsNumberedPast : Element → Type 0
IsNumberedPast (elements.Region r) = 1024 ≤ r.0
IsNumberedPast (elements.Vertex v) = 4096 ≤ v.0
IsNumberedPast (elements.Transition t) = 8192 ≤ t.0
