-- What is stored of elements while they are read.
use Rattle.std.specs.Prelude.{◌≡◌, ◌<◌, ◌≤◌, ◌+◌, ℕ, List, ◌++◌, map, length, Some, None, slice_get, IfSome}
use Rattle.std.specs.List.{AllByRecursion}
use Rattle.pssm_xml.specs.declared.span.Span.{Span}
use Rattle.pssm_xml.specs.declared.elements.Node.{Node}
use Rattle.pssm_xml.specs.declared.elements.Pair.{Pair}
use Rattle.pssm_xml.specs.Pieces.{Attribute}
use Rattle.pssm_xml.specs.Documents.{Element}
use Rattle.pssm_xml.specs.inner.Trees.{attribute_of, element_of, IsStoredPair, IsStoredNode}

-- the elements that are stored so
abbrev pub elements_of : List Node → List Pair → List ℕ → List Element
elements_of nodes pairs bytes = map (element_of pairs bytes) nodes

-- The links of a node lead nowhere yet.
pub record IsUnlinked (node : Node) : Type 0 where
  pub child : node.first_child ≡ None
  pub sibling : node.next_sibling ≡ None

-- what is known of a node with this number
pub record IsKept (pairs len n : ℕ) (node : Node) : Type 0 where
  pub stored : IsStoredNode pairs len node
  pub before : IfSome node.parent (λ p. p < n)
  pub unlinked : IsUnlinked node

-- what is known of all that is stored
pub record AreStored (nodes : List Node) (pairs : List Pair) (bytes : List ℕ) : Type 0 where
  pub nodes_kept : (n : ℕ) (node : Node) → slice_get nodes n ≡ Some node → IsKept (length pairs) (length bytes) n node
  pub pairs_kept : (n : ℕ) (pair : Pair) → slice_get pairs n ≡ Some pair → IsStoredPair (length bytes) pair
  pub few : length nodes ≤ 16777216

-- The text was put behind the old bytes.
pub record IsPut (old text new : List ℕ) (span : Span) : Type 0 where
  pub grown : new ≡ old ++ text
  pub from : span.from ≡ length old
  pub to : span.to ≡ length old + length text

-- The attributes were put behind the old bytes and pairs.
pub record ArePut (old : List ℕ) (pairs : List Pair) (attributes : List Attribute) (new : List ℕ) (new_pairs : List Pair) : Type 0 where
  pub more : List ℕ
  pub added : List Pair
  pub grown : new ≡ old ++ more
  pub extended : new_pairs ≡ pairs ++ added
  pub stored : AllByRecursion (IsStoredPair (length new)) added
  pub spelled : map (attribute_of new) added ≡ attributes
