-- Links are made from the last node to the first.
use Rattle.std.proofs.Common.{◌≡◌, ◌≢◌, ◌<◌, ◌≤◌, ◌⊎◌, inl, inr, ℕ, zero, suc, ◌+◌, List, [], ◌∷◌, length, map, Option, Some, None, refl, sym, ◌∙◌, ap, subst, arith}
use Rattle.std.specs.Prelude.{slice_get, option_and_then, option_map, IfSome}
use Rattle.std.proofs.Math.ListN.{set}
use Rattle.std.specs.List.{slice_index_or}
use Rattle.std.proofs.lemmas.Option.{slice_get_within, slice_get-map, slice_get_read}
use Rattle.std.proofs.lemmas.List.{length-map}
use Rattle.std.proofs.lemmas.Bool.{cases_eq}
use Rattle.pssm_xml.specs.declared.elements.Node.{Node}
use Rattle.pssm_xml.specs.declared.elements.Pair.{Pair}
use Rattle.pssm_xml.specs.Documents.{Element}
use Rattle.pssm_xml.specs.Elements.{IsParent, IsNextChild}
use Rattle.pssm_xml.specs.inner.Trees.{element_of, IsLinked, IsStoredNode}
use Rattle.pssm_xml.specs.inner.Stores.{elements_of, AreStored}
use Rattle.pssm_xml.specs.inner.Links.{StandsIn, IsNextIn, unlinked, IsStart, LinksParent, AreLinkedFrom}

-- ---- what is read after a write

abbrev IsSet : List Node → ℕ → Node → ℕ → Node → Type 0
IsSet xs k y m x = ((m ≡ k) × (x ≡ y)) ⊎ ((m ≢ k) × (slice_get xs m ≡ Some x))

set_read : (xs : List Node) (k : ℕ) (y : Node) (m : ℕ) (x : Node) → slice_get (set xs k y) m ≡ Some x → IsSet xs k y m x
set_read [] k y m x e = absurd cc
set_read (z ∷ xs) zero y zero x e = let same : y ≡ x = cc in inl (refl, sym same)
set_read (z ∷ xs) zero y (suc m) x e = inr (λ w. absurd (omega (arith, w)), e)
set_read (z ∷ xs) (suc k) y zero x e = inr (λ w. absurd (omega (arith, w)), e)
set_read (z ∷ xs) (suc k) y (suc m) x e = elim (set_read xs k y m x e) as (λ _. IsSet (z ∷ xs) (suc k) y (suc m) x) [
  | inl here ↦ inl (ap suc here.0, here.1)
  | inr other ↦ inr (λ w. other.0 (omega (arith, w)), other.1)
]

set_same : (f : Node → Node) (xs : List Node) (k : ℕ) (x y : Node) → slice_get xs k ≡ Some x → f y ≡ f x → map f (set xs k y) ≡ map f xs
set_same f [] k x y at e = refl
set_same f (z ∷ xs) zero x y at e = let same : z ≡ x = cc in ap (λ w. w ∷ map f xs) (e ∙ ap f (sym same))
set_same f (z ∷ xs) (suc k) x y at e = ap (λ t. f z ∷ t) (set_same f xs k x y at e)

-- a node by its number, with its links or without
get_unlinked : (old nodes : List Node) → map unlinked nodes ≡ map unlinked old → (m : ℕ) (node : Node) → slice_get nodes m ≡ Some node
    → (x : Node) × (slice_get old m ≡ Some x) × (unlinked node ≡ unlinked x)
get_unlinked [] [] e m node at = absurd cc
get_unlinked [] (y ∷ nodes) e m node at = absurd cc
get_unlinked (x ∷ old) [] e m node at = absurd cc
get_unlinked (x ∷ old) (y ∷ nodes) e zero node at =
    let head : unlinked y ≡ unlinked x = cc in let same : y ≡ node = cc in (x, refl, ap unlinked (sym same) ∙ head)
get_unlinked (x ∷ old) (y ∷ nodes) e (suc m) node at = let tail : map unlinked nodes ≡ map unlinked old = cc in get_unlinked old nodes tail m node at

parent_same : (x y : Node) → unlinked x ≡ unlinked y → x.parent ≡ y.parent
parent_same x y e = ap (λ (n : Node). n.parent) e

-- ---- one child more in front

next_here : (old : List Node) (q k : ℕ) → StandsIn old q k → IsNextIn old q k (Some k)
next_here old q k stands = (omega arith, stands, λ m low less s. absurd (omega arith))

above : (m k : ℕ) → k ≤ m → (m ≡ k → ⊥) → suc k ≤ m
above m k low apart = omega (arith, apart)

next_lower : (old : List Node) (p k : ℕ) (r : Option ℕ) → (StandsIn old p k → ⊥) → IsNextIn old p (suc k) r → IsNextIn old p k r
next_lower old p k None other none = λ m low s.
    elim (cases_eq m k) as (λ _. ⊥) [ inl same ↦ other (subst (λ (n : ℕ). StandsIn old p n) same s) | inr apart ↦ none m (above m k low apart) s ]
next_lower old p k (Some child) other next = (
  let l = next.0 in omega (arith, l),
  next.1,
  λ m low less s. elim (cases_eq m k) as (λ _. ⊥) [
    | inl same ↦ other (subst (λ (n : ℕ). StandsIn old p n) same s)
    | inr apart ↦ next.2 m (above m k low apart) less s
  ],
)

some_is : (p q : ℕ) → Some p ≡ Some q → p ≡ q
some_is p q e = cc

stands_of : (old : List Node) (k : ℕ) (x : Node) (o : Option ℕ) → slice_get old k ≡ Some x → x.parent ≡ o → option_and_then (λ (y : Node). y.parent) (slice_get old k) ≡ o
stands_of old k x o at is = ap (option_and_then (λ (y : Node). y.parent)) at ∙ is

-- ---- one step

set_other : (xs : List Node) (k : ℕ) (y : Node) (m : ℕ) → (m ≡ k → ⊥) → slice_get (set xs k y) m ≡ slice_get xs m
set_other [] k y m apart = refl
set_other (z ∷ xs) zero y zero apart = absurd (apart refl)
set_other (z ∷ xs) zero y (suc m) apart = refl
set_other (z ∷ xs) (suc k) y zero apart = refl
set_other (z ∷ xs) (suc k) y (suc m) apart = set_other xs k y m (λ e. apart (ap suc e))

link_none : (old nodes : List Node) (k : ℕ) (node : Node) → AreLinkedFrom old nodes (suc k) → slice_get nodes k ≡ Some node → node.parent ≡ None → AreLinkedFrom old nodes k
link_none old nodes k node l at root =
    let was = get_unlinked old nodes l.same k node at in
    let none : option_and_then (λ (y : Node). y.parent) (slice_get old k) ≡ None = stands_of old k was.0 None was.1 (sym (parent_same node was.0 was.2) ∙ root) in
    record {
      within = let w = l.within in omega (arith, w);
      same = l.same;
      firsts = λ p x e. next_lower old p k x.first_child (λ s. let wrong : None ≡ Some p = sym none ∙ s in absurd cc) (l.firsts p x e);
      nexts = λ m x low e p has. elim (cases_eq m k) as (λ _. IsNextIn old p (suc m) x.next_sibling) [
        | inl same ↦
            let twice : Some x ≡ Some node = sym e ∙ ap (slice_get nodes) same ∙ at in
            let equal : x ≡ node = cc in
            let wrong : Some p ≡ None = sym has ∙ ap (λ (n : Node). n.parent) equal ∙ root in absurd cc
        | inr apart ↦ l.nexts m x (omega (arith, low, apart)) e p has
      ];
      roots = l.roots;
    }

-- where a node stands after both writes
abbrev IsNew : List Node → ℕ → Node → ℕ → Node → ℕ → Node → Type 0
IsNew nodes k y q z m x = ((m ≡ q) × (x ≡ z)) ⊎ (((m ≡ k) × (x ≡ y)) ⊎ ((m ≡ k → ⊥) × (m ≡ q → ⊥) × (slice_get nodes m ≡ Some x)))

new_read : (nodes : List Node) (k : ℕ) (y : Node) (q : ℕ) (z : Node) (m : ℕ) (x : Node) → slice_get (set (set nodes k y) q z) m ≡ Some x → IsNew nodes k y q z m x
new_read nodes k y q z m x e = elim (set_read (set nodes k y) q z m x e) as (λ _. IsNew nodes k y q z m x) [
  | inl here ↦ inl here
  | inr other ↦ elim (set_read nodes k y m x other.1) as (λ _. IsNew nodes k y q z m x) [
    | inl at ↦ inr (inl at)
    | inr rest ↦ inr (inr (rest.0, other.0, rest.1))
  ]
]

link_some : (old nodes : List Node) (k : ℕ) (node above : Node) (q : ℕ) → IsStart old → AreLinkedFrom old nodes (suc k) → slice_get nodes k ≡ Some node → node.parent ≡ Some q
    → slice_get nodes q ≡ Some above
    → AreLinkedFrom old (set (set nodes k (record node { next_sibling = above.first_child })) q (record above { first_child = Some k })) k
link_some old nodes k node above q start l at parent at_above =
    let y : Node = record node { next_sibling = above.first_child } in
    let z : Node = record above { first_child = Some k } in
    let new = set (set nodes k y) q z in
    let was = get_unlinked old nodes l.same k node at in
    let was_parent : was.0.parent ≡ Some q = sym (parent_same node was.0 was.2) ∙ parent in
    let stands : StandsIn old q k = stands_of old k was.0 (Some q) was.1 was_parent in
    let early : q < k = subst (λ (o : Option ℕ). IfSome o (λ p. p < k)) was_parent (start.early k was.0 was.1) in
    let only : (p : ℕ) → StandsIn old p k → q ≡ p = λ p s. some_is q p (sym stands ∙ s) in
    let q_apart : q ≡ k → ⊥ = λ e. omega (arith, e, early) in
    let at_set : slice_get (set nodes k y) q ≡ Some above = set_other nodes k y q q_apart ∙ at_above in
    record {
      within = let w = l.within in omega (arith, w);
      same = set_same unlinked (set nodes k y) q above z at_set refl ∙ set_same unlinked nodes k node y at refl ∙ l.same;
      firsts = λ p x e. elim (new_read nodes k y q z p x e) as (λ _. IsNextIn old p k x.first_child) [
        | inl here ↦
            subst (λ (o : Option ℕ). IsNextIn old p k o) (sym (ap (λ (n : Node). n.first_child) here.1))
            (subst (λ (n : ℕ). IsNextIn old n k (Some k)) (sym here.0) (next_here old q k stands))
        | inr more ↦ elim more as (λ _. IsNextIn old p k x.first_child) [
          | inl self ↦
              let child : IsNextIn old p (suc k) node.first_child = subst (λ (n : ℕ). IsNextIn old n (suc k) node.first_child) (sym self.0) (l.firsts k node at) in
              subst (λ (o : Option ℕ). IsNextIn old p k o) (sym (ap (λ (n : Node). n.first_child) self.1))
              (next_lower old p k node.first_child (λ s. let e1 = only p s in let e2 = self.0 in omega (arith, e1, e2, early)) child)
          | inr rest ↦ next_lower old p k x.first_child (λ s. rest.1 (sym (only p s))) (l.firsts p x rest.2)
        ]
      ];
      nexts = λ m x low e p has. elim (new_read nodes k y q z m x e) as (λ _. IsNextIn old p (suc m) x.next_sibling) [
        | inl here ↦ let e1 = here.0 in absurd (omega (arith, e1, early, low))
        | inr more ↦ elim more as (λ _. IsNextIn old p (suc m) x.next_sibling) [
          | inl self ↦
              let p_is : q ≡ p = some_is q p (sym parent ∙ sym (ap (λ (n : Node). n.parent) self.1) ∙ has) in
              let child : IsNextIn old p (suc m) above.first_child =
              subst (λ (n : ℕ). IsNextIn old p (suc n) above.first_child) (sym self.0) (subst (λ (n : ℕ). IsNextIn old n (suc k) above.first_child) p_is (l.firsts q above at_above)) in
              subst (λ (o : Option ℕ). IsNextIn old p (suc m) o) (sym (ap (λ (n : Node). n.next_sibling) self.1)) child
          | inr rest ↦ let apart = rest.0 in l.nexts m x (omega (arith, low, apart)) rest.2 p has
        ]
      ];
      roots = λ m x e none. elim (new_read nodes k y q z m x e) as (λ _. x.next_sibling ≡ None) [
        | inl here ↦
            let root : above.parent ≡ None = sym (ap (λ (n : Node). n.parent) here.1) ∙ none in
            ap (λ (n : Node). n.next_sibling) here.1 ∙ l.roots q above at_above root
        | inr more ↦ elim more as (λ _. x.next_sibling ≡ None) [
          | inl self ↦ let wrong : Some q ≡ None = sym parent ∙ sym (ap (λ (n : Node). n.parent) self.1) ∙ none in absurd cc
          | inr rest ↦ l.roots m x rest.2 none
        ]
      ];
    }

link_by : (old nodes new : List Node) (k : ℕ) (node : Node) (o : Option ℕ) → IsStart old → AreLinkedFrom old nodes (suc k) → slice_get nodes k ≡ Some node → node.parent ≡ o
    → LinksParent nodes k node o new → AreLinkedFrom old new k
link_by old nodes new k node None start l at is links =
    subst (λ (x : List Node). AreLinkedFrom old x k) (sym links) (link_none old nodes k node l at is)
link_by old nodes new k node (Some q) start l at is links =
    subst (λ (x : List Node). AreLinkedFrom old x k) (sym links.2) (link_some old nodes k node links.0 q start l at is links.1)

pub link_turn : (old nodes new : List Node) (k : ℕ) (node : Node) → IsStart old → AreLinkedFrom old nodes (suc k) → slice_get nodes k ≡ Some node
    → LinksParent nodes k node node.parent new → AreLinkedFrom old new k
link_turn old nodes new k node start l at links = link_by old nodes new k node node.parent start l at refl links

-- before the first step
pub link_start : (old : List Node) → IsStart old → AreLinkedFrom old old (length old)
link_start old start = record {
  within = omega arith;
  same = refl;
  firsts = λ p x e. subst (λ (o : Option ℕ). IsNextIn old p (length old) o) (sym (start.child p x e)) (λ m low s. past old p m low s);
  nexts = λ m x low e p has. let w = slice_get_within old m x e in absurd (omega (arith, w, low));
  roots = λ m x e none. start.sibling m x e;
} where
  past : (nodes : List Node) (p m : ℕ) → length nodes ≤ m → StandsIn nodes p m → ⊥
  past [] p m low s = absurd cc
  past (x ∷ nodes) p zero low s = absurd (omega arith)
  past (x ∷ nodes) p (suc m) low s = past nodes p m (omega arith) s

-- a parent stands before its child, also after some steps
pub link_early : (old nodes : List Node) (low k : ℕ) (node : Node) → IsStart old → AreLinkedFrom old nodes low → slice_get nodes k ≡ Some node → IfSome node.parent (λ p. p < k)
link_early old nodes low k node start l at =
    let was = get_unlinked old nodes l.same k node at in
    subst (λ (o : Option ℕ). IfSome o (λ p. p < k)) (sym (parent_same node was.0 was.2)) (start.early k was.0 was.1)

pub link_length : (old nodes : List Node) (low : ℕ) → AreLinkedFrom old nodes low → length nodes ≡ length old
link_length old nodes low l = sym (length-map nodes unlinked) ∙ ap length l.same ∙ length-map old unlinked

-- ---- as elements

parent_in : (pairs : List Pair) (bytes : List ℕ) (o : Option Node)
    → option_and_then (λ (e : Element). e.parent) (option_map (element_of pairs bytes) o) ≡ option_and_then (λ (x : Node). x.parent) o
parent_in pairs bytes None = refl
parent_in pairs bytes (Some x) = refl

to_element : (old : List Node) (pairs : List Pair) (bytes : List ℕ) (p m : ℕ) → StandsIn old p m → IsParent (elements_of old pairs bytes) p m
to_element old pairs bytes p m s = ap (option_and_then (λ (e : Element). e.parent)) (slice_get-map (element_of pairs bytes) old m) ∙ parent_in pairs bytes (slice_get old m) ∙ s

from_element : (old : List Node) (pairs : List Pair) (bytes : List ℕ) (p m : ℕ) → IsParent (elements_of old pairs bytes) p m → StandsIn old p m
from_element old pairs bytes p m s = sym (parent_in pairs bytes (slice_get old m)) ∙ sym (ap (option_and_then (λ (e : Element). e.parent)) (slice_get-map (element_of pairs bytes) old m)) ∙ s

next_child : (old : List Node) (pairs : List Pair) (bytes : List ℕ) (p low : ℕ) (r : Option ℕ) → IsNextIn old p low r → IsNextChild (elements_of old pairs bytes) p low r
next_child old pairs bytes p low None next = λ m l s. next m l (from_element old pairs bytes p m s)
next_child old pairs bytes p low (Some child) next = (next.0, to_element old pairs bytes p child next.1, λ m l less s. next.2 m l less (from_element old pairs bytes p m s))

same_elements : (pairs : List Pair) (bytes : List ℕ) (nodes old : List Node) → map unlinked nodes ≡ map unlinked old → elements_of nodes pairs bytes ≡ elements_of old pairs bytes
same_elements pairs bytes [] [] e = refl
same_elements pairs bytes [] (x ∷ old) e = absurd cc
same_elements pairs bytes (y ∷ nodes) [] e = absurd cc
same_elements pairs bytes (y ∷ nodes) (x ∷ old) e =
    let head : unlinked y ≡ unlinked x = cc in let tail : map unlinked nodes ≡ map unlinked old = cc in
    let first : element_of pairs bytes y ≡ element_of pairs bytes x = ap (element_of pairs bytes) head in
    ap (λ w. w ∷ elements_of nodes pairs bytes) first ∙ ap (λ t. element_of pairs bytes x ∷ t) (same_elements pairs bytes nodes old tail)

-- what is stored with all its links
pub record IsTree (nodes old : List Node) (pairs : List Pair) (bytes : List ℕ) : Type 0 where
  pub elements : elements_of nodes pairs bytes ≡ elements_of old pairs bytes
  pub stored : (n : ℕ) (node : Node) → slice_get nodes n ≡ Some node → IsStoredNode (length pairs) (length bytes) node
  pub linked : (n : ℕ) (node : Node) → slice_get nodes n ≡ Some node → IsLinked (elements_of nodes pairs bytes) n node
  pub few : length nodes ≤ 16777216

stored_same : (pairs bytes : ℕ) (x y : Node) → unlinked x ≡ unlinked y → IsStoredNode pairs bytes y → IsStoredNode pairs bytes x
stored_same pairs bytes x y e s = let back : IsStoredNode pairs bytes (unlinked y) = record { name = s.name; attributes = s.attributes; text = s.text } in
    let there : IsStoredNode pairs bytes (unlinked x) = subst (λ (n : Node). IsStoredNode pairs bytes n) (sym e) back in
    record { name = there.name; attributes = there.attributes; text = there.text }

pub start_of : (old : List Node) (pairs : List Pair) (bytes : List ℕ) → AreStored old pairs bytes → IsStart old
start_of old pairs bytes s = record {
  child = λ n node e. (s.nodes_kept n node e).unlinked.child;
  sibling = λ n node e. (s.nodes_kept n node e).unlinked.sibling;
  early = λ n node e. (s.nodes_kept n node e).before;
}

pub linked_tree : (old nodes : List Node) (pairs : List Pair) (bytes : List ℕ) → AreStored old pairs bytes → AreLinkedFrom old nodes 0 → IsTree nodes old pairs bytes
linked_tree old nodes pairs bytes s l =
    let same = same_elements pairs bytes nodes old l.same in
    let start = start_of old pairs bytes s in
    record {
      elements = same;
      stored = λ n node e. let was = get_unlinked old nodes l.same n node e in stored_same (length pairs) (length bytes) node was.0 was.2 (s.nodes_kept n was.0 was.1).stored;
      linked = λ n node e.
          subst (λ (doc : List Element). IsLinked doc n node) (sym same) (record {
            child = next_child old pairs bytes n 0 node.first_child (l.firsts n node e);
            sibling = λ p has. next_child old pairs bytes p (suc n) node.next_sibling (l.nexts n node (omega arith) e p (own_parent n node e p (from_element old pairs bytes p n has)));
            root = l.roots n node e;
            before = link_early old nodes 0 n node start l e;
          });
      few = let f = s.few in let long = link_length old nodes 0 l in omega (arith, f, long);
    } where
      own_parent : (n : ℕ) (node : Node) → slice_get nodes n ≡ Some node → (p : ℕ) → StandsIn old p n → node.parent ≡ Some p
      own_parent n node e p stands =
          let was = get_unlinked old nodes l.same n node e in
          parent_same node was.0 was.2 ∙ sym (ap (option_and_then (λ (y : Node). y.parent)) was.1) ∙ stands

-- ---- by what the code has read

read_at : (nodes : List Node) (n : ℕ) (node : Node) → n < length nodes → node ≡ slice_index_or nodes n node → slice_get nodes n ≡ Some node
read_at nodes n node within read = slice_get_read nodes (length nodes) n node refl within read

pub parent_below : (nodes : List Node) (n p : ℕ) (node : Node) → n < length nodes → node ≡ slice_index_or nodes n node → node.parent ≡ Some p
    → ((x : Node) → slice_get nodes n ≡ Some x → IfSome x.parent (λ q. q < n)) → p < n
parent_below nodes n p node within read is early = subst (λ (o : Option ℕ). IfSome o (λ q. q < n)) is (early node (read_at nodes n node within read))

pub links_none : (nodes : List Node) (n : ℕ) (x node : Node) → n < length nodes → x ≡ slice_index_or nodes n x → x.parent ≡ None → slice_get nodes n ≡ Some node
    → LinksParent nodes n node node.parent nodes
links_none nodes n x node within read is at =
    let twice : Some x ≡ Some node = sym (read_at nodes n x within read) ∙ at in
    let same : x ≡ node = cc in
    let none : node.parent ≡ None = ap (λ (y : Node). y.parent) (sym same) ∙ is in
    subst (λ (o : Option ℕ). LinksParent nodes n node o nodes) (sym none) refl

pub links_some : (nodes : List Node) (n p : ℕ) (x above y z node : Node) → n < length nodes → x ≡ slice_index_or nodes n x → x.parent ≡ Some p → p < length nodes
    → above ≡ slice_index_or nodes p above → y ≡ record x { next_sibling = above.first_child } → z ≡ record above { first_child = Some n } → slice_get nodes n ≡ Some node
    → LinksParent nodes n node node.parent (set (set nodes n y) p z)
links_some nodes n p x above y z node within read is lower read_above y_is z_is at =
    let twice : Some x ≡ Some node = sym (read_at nodes n x within read) ∙ at in
    let same : x ≡ node = cc in
    let some : node.parent ≡ Some p = ap (λ (w : Node). w.parent) (sym same) ∙ is in
    let y_now : y ≡ record node { next_sibling = above.first_child } = y_is ∙ ap (λ (w : Node). let v : Node = record w { next_sibling = above.first_child } in v) same in
    let new : set (set nodes n y) p z ≡ set (set nodes n (record node { next_sibling = above.first_child })) p (record above { first_child = Some n }) =
    ap (λ (w : Node). set (set nodes n w) p z) y_now ∙ ap (λ (w : Node). set (set nodes n (record node { next_sibling = above.first_child })) p w) z_is in
    subst (λ (o : Option ℕ). LinksParent nodes n node o (set (set nodes n y) p z)) (sym some) (above, read_at nodes p above lower read_above, new)

some_at : (xs : List Node) (k : ℕ) → k < length xs → (x : Node) × (slice_get xs k ≡ Some x)
some_at [] k within = absurd (omega arith)
some_at (x ∷ xs) zero within = (x, refl)
some_at (x ∷ xs) (suc k) within = some_at xs k (omega arith)

pub link_step : (old nodes new : List Node) (n k : ℕ) → IsStart old → AreLinkedFrom old nodes n → k + 1 ≡ n → ((node : Node) → slice_get nodes k ≡ Some node → LinksParent nodes k node node.parent new)
    → AreLinkedFrom old new k
link_step old nodes new n k start l count links =
    let next : AreLinkedFrom old nodes (suc k) = subst (λ (m : ℕ). AreLinkedFrom old nodes m) (let e : n ≡ suc k = omega (arith, count) in e) l in
    let w = next.within in
    let here = some_at nodes k (omega (arith, w, link_length old nodes (suc k) next)) in
    link_turn old nodes new k here.0 start next here.1 (links here.0 here.1)
