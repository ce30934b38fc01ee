-- What is known of elements that are stored.
use Rattle.std.proofs.Common.{◌≡◌, ℕ, List, Option, Some, None, sym, ◌∙◌, ap, subst, Bor}
use Rattle.std.specs.Option.{option_copied}
use Rattle.std.specs.Prelude.{slice_get, option_map, MatchOption}
use Rattle.std.proofs.lemmas.Option.{slice_get-map}
use Rattle.pssm_xml.specs.declared.elements.Node.{Node}
use Rattle.pssm_xml.specs.declared.elements.Elements.TheInside.{Inside}
use Rattle.pssm_xml.specs.Documents.{Element}
use Rattle.pssm_xml.specs.Elements.{HasValue, HasNoValue, IsRoot, attribute_value}
use Rattle.pssm_xml.specs.inner.Trees.{elements_in, element_of, IsStored, IsLinked}

-- the element that a node stands for
pub element_at : (tree : Inside) (n : ℕ) (node : Node) → slice_get tree.nodes.items n ≡ Some node
    → slice_get (elements_in tree) n ≡ Some (element_of tree.pairs.items tree.bytes.items node)
element_at tree n node is =
    slice_get-map (element_of tree.pairs.items tree.bytes.items) tree.nodes.items n ∙ ap (option_map (element_of tree.pairs.items tree.bytes.items)) is

-- what is known of the node with this number
pub linked_at : (tree : Inside) (nodes : List Node) (doc : List Element) (n : ℕ) (node : Node) → IsStored tree → elements_in tree ≡ doc → nodes ≡ tree.nodes.items
    → slice_get nodes n ≡ Some node → IsLinked doc n node
linked_at tree nodes doc n node stored view is at =
    let P : List Element → Type 0 = λ d. IsLinked d n node in subst P view (stored.linked n node (ap (λ all. slice_get all n) (sym is) ∙ at))

-- the element with this number
pub element_in : (tree : Inside) (nodes : List Node) (doc : List Element) (n : ℕ) (node : Node) → elements_in tree ≡ doc → nodes ≡ tree.nodes.items
    → slice_get nodes n ≡ Some node → slice_get doc n ≡ Some (element_of tree.pairs.items tree.bytes.items node)
element_in tree nodes doc n node view is at =
    ap (λ all. slice_get all n) (sym view) ∙ element_at tree n node (ap (λ all. slice_get all n) (sym is) ∙ at)

-- An element without a parent is the root.
pub root_alone : (doc : List Element) (n : ℕ) (node : Node) (e : Element) → IsLinked doc n node → slice_get doc n ≡ Some e → e.parent ≡ node.parent → IsRoot doc n
    → node.next_sibling ≡ None
root_alone doc n node e linked at same root = let first = root.1 in let none = root.2 in
    let one : Some e ≡ Some root.0 = sym at ∙ first in let equal : e ≡ root.0 = cc in
    linked.root (sym same ∙ ap (λ (x : Element). x.parent) equal ∙ none)

-- what a look-up has answered, as a value of the element
pub has_value : (doc : List Element) (n : ℕ) (name : List ℕ) (e : Element) (r : Option (Bor (List ℕ))) → slice_get doc n ≡ Some e → option_copied r ≡ attribute_value name e
    → MatchOption r (HasNoValue doc n name) (λ v. HasValue doc n name v.now)
has_value doc n name e None at is = (e, at, sym is)
has_value doc n name e (Some v) at is = rw at (sym is)
