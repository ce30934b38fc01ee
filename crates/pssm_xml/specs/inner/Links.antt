-- How the links between nodes are made, from the last node to the first.
use Rattle.std.specs.Prelude.{◌≡◌, ◌<◌, ◌≤◌, ℕ, suc, List, map, length, Option, Some, None, slice_get, slice_set, option_and_then, IfSome}
use Rattle.pssm_xml.specs.declared.elements.Node.{Node}

-- The element with this number stands in the one with the other.
abbrev pub StandsIn : List Node → ℕ → ℕ → Type 0
StandsIn nodes p m = option_and_then (λ (x : Node). x.parent) (slice_get nodes m) ≡ Some p

-- the first child from this number on; none where there is none
abbrev pub IsNextIn : List Node → ℕ → ℕ → Option ℕ → Type 0
IsNextIn nodes p low None = (m : ℕ) → low ≤ m → StandsIn nodes p m → ⊥
IsNextIn nodes p low (Some child) = (low ≤ child) × StandsIn nodes p child × ((m : ℕ) → low ≤ m → m < child → StandsIn nodes p m → ⊥)

-- the node without its links
abbrev pub unlinked : Node → Node
unlinked node = record node { first_child = None; next_sibling = None }

-- No links are made yet, and each parent stands before its children.
pub record IsStart (nodes : List Node) : Type 0 where
  pub child : (n : ℕ) (node : Node) → slice_get nodes n ≡ Some node → node.first_child ≡ None
  pub sibling : (n : ℕ) (node : Node) → slice_get nodes n ≡ Some node → node.next_sibling ≡ None
  pub early : (n : ℕ) (node : Node) → slice_get nodes n ≡ Some node → IfSome node.parent (λ p. p < n)

-- The links of the node with this number are made.
abbrev pub LinksParent : List Node → ℕ → Node → Option ℕ → List Node → Type 0
LinksParent old n node None new = new ≡ old
LinksParent old n node (Some p) new =
    (above : Node) × (slice_get old p ≡ Some above)
    × (new ≡ slice_set (slice_set old n (record node { next_sibling = above.first_child })) p (record above { first_child = Some n }))

-- The links of all nodes from this number on are made.
pub record AreLinkedFrom (old nodes : List Node) (low : ℕ) : Type 0 where
  pub within : low ≤ length old
  pub same : map unlinked nodes ≡ map unlinked old
  pub firsts : (p : ℕ) (node : Node) → slice_get nodes p ≡ Some node → IsNextIn old p low node.first_child
  pub nexts : (m : ℕ) (node : Node) → low ≤ m → slice_get nodes m ≡ Some node → (p : ℕ) → node.parent ≡ Some p → IsNextIn old p (suc m) node.next_sibling
  pub roots : (m : ℕ) (node : Node) → slice_get nodes m ≡ Some node → node.parent ≡ None → node.next_sibling ≡ None

-- All links are made.
abbrev pub AreLinked : List Node → List Node → Type 0
AreLinked old nodes = AreLinkedFrom old nodes 0
