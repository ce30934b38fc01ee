-- How elements are stored: their names, values and texts are spans of one list of bytes.
use Rattle.std.specs.Prelude.{◌≡◌, ◌<◌, ◌≤◌, ℕ, suc, List, map, length, Option, Some, None, slice_range, slice_get, option_map, find, bytes_eq, IfSome}
use Rattle.pssm_xml.specs.declared.span.Span.{Span}
use Rattle.pssm_xml.specs.declared.elements.Node.{Node}
use Rattle.pssm_xml.specs.declared.elements.Pair.{Pair}
use Rattle.pssm_xml.specs.declared.elements.Elements.TheInside.{Inside}
use Rattle.pssm_xml.specs.Pieces.{Attribute}
use Rattle.pssm_xml.specs.Documents.{Element}
use Rattle.pssm_xml.specs.Elements.{IsNextChild, IsParent}

-- what a span holds
abbrev pub in_span {ℓ} : {X : Type ℓ} → List X → Span → List X
in_span all span = slice_range all span.from span.to

-- the attribute that is stored so
abbrev pub attribute_of : List ℕ → Pair → Attribute
attribute_of bytes pair = record { name = in_span bytes pair.name; value = in_span bytes pair.value }

-- the value of the first attribute with this name
abbrev pub value_among : List ℕ → List Attribute → Option (List ℕ)
value_among name attributes = option_map (λ (a : Attribute). a.value) (find (λ (a : Attribute). bytes_eq a.name name) attributes)

-- the element that is stored so
abbrev pub element_of : List Pair → List ℕ → Node → Element
element_of pairs bytes node = record {
  at = node.at;
  parent = node.parent;
  name = in_span bytes node.name;
  attributes = map (attribute_of bytes) (in_span pairs node.attributes);
  text = in_span bytes node.text;
}

-- The span lies in a list of this length.
pub record LiesIn (len : ℕ) (span : Span) : Type 0 where
  pub ordered : span.from ≤ span.to
  pub within : span.to ≤ len

-- Name and value of an attribute lie in the bytes.
pub record IsStoredPair (len : ℕ) (pair : Pair) : Type 0 where
  pub name : LiesIn len pair.name
  pub value : LiesIn len pair.value

-- Name, attributes and text of an element lie in what is stored.
pub record IsStoredNode (pairs len : ℕ) (node : Node) : Type 0 where
  pub name : LiesIn len node.name
  pub attributes : LiesIn pairs node.attributes
  pub text : LiesIn len node.text

-- the elements that are stored so
abbrev pub elements_in : Inside → List Element
elements_in tree = map (element_of tree.pairs.items tree.bytes.items) tree.nodes.items

-- The links of an element lead to its first child and to the next child of its parent.
pub record IsLinked (doc : List Element) (n : ℕ) (node : Node) : Type 0 where
  pub child : IsNextChild doc n 0 node.first_child
  pub sibling : (p : ℕ) → IsParent doc p n → IsNextChild doc p (suc n) node.next_sibling
  pub root : node.parent ≡ None → node.next_sibling ≡ None
  pub before : IfSome node.parent (λ p. p < n)

-- what is known of all that is stored
pub record IsStored (tree : Inside) : Type 0 where
  pub nodes : (n : ℕ) (node : Node) → slice_get tree.nodes.items n ≡ Some node → IsStoredNode (length tree.pairs.items) (length tree.bytes.items) node
  pub pairs : (n : ℕ) (pair : Pair) → slice_get tree.pairs.items n ≡ Some pair → IsStoredPair (length tree.bytes.items) pair
  pub linked : (n : ℕ) (node : Node) → slice_get tree.nodes.items n ≡ Some node → IsLinked (elements_in tree) n node
  pub few : length tree.nodes.items ≤ 16777216
