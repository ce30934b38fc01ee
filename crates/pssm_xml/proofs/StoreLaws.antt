-- What is stored stays what it is when more is stored behind it.
use Rattle.std.proofs.Common.{◌≡◌, ◌<◌, ◌≤◌, ℕ, zero, suc, ◌+◌, ◌-◌, List, [], ◌∷◌, ◌++◌, length, map, take, drop, Option, Some, None, refl, sym, ◌∙◌, ap, subst, arith, append_assoc}
use Rattle.std.specs.Prelude.{slice_get, IfSome}
use Rattle.std.specs.List.{AllByRecursion, slice_index_or}
use Rattle.std.proofs.lemmas.Option.{slice_get_read}
use Rattle.std.proofs.Math.ListN.{set}
use Rattle.std.proofs.Math.Seq.{drop-append_seam, take-length}
use Rattle.std.proofs.lemmas.List.{append-nil, length-append, map-append, take-map, drop-map, take-append-le, drop-append-le, length-drop, length-map, take_more}
use Rattle.pssm_xml.specs.declared.span.Span.{Span}
use Rattle.pssm_xml.specs.declared.elements.Node.{Node}
use Rattle.pssm_xml.specs.declared.elements.Pair.{Pair}
use Rattle.pssm_xml.specs.declared.tags.Given.{Given}
use Rattle.pssm_xml.specs.Pieces.{Attribute}
use Rattle.pssm_xml.specs.inner.Cuts.{given_attribute}
use Rattle.pssm_xml.specs.Documents.{Element}
use Rattle.pssm_xml.specs.inner.Trees.{in_span, attribute_of, element_of, LiesIn, IsStoredPair, IsStoredNode}
use Rattle.pssm_xml.specs.inner.Stores.{elements_of, IsUnlinked, IsKept, AreStored, IsPut, ArePut}
use Rattle.pssm_xml.specs.inner.Growth.{new_element, having_text, with_text}

-- ---- spans

lies_more : (n m : ℕ) (span : Span) → LiesIn n span → n ≤ m → LiesIn m span
lies_more n m span l more = record { ordered = l.ordered; within = let w = l.within in omega (arith, w) }

pub span_stays : {X : Type 0} (xs ys : List X) (span : Span) → LiesIn (length xs) span → in_span (xs ++ ys) span ≡ in_span xs span
span_stays xs ys span l =
    let w = l.within in let o = l.ordered in
    let long : length (drop span.from xs) ≡ length xs - span.from = length-drop span.from xs in
    ap (take (span.to - span.from)) (drop-append-le span.from xs ys (omega (arith, w, o)))
    ∙ take-append-le (span.to - span.from) (drop span.from xs) ys (omega (arith, w, o, long))

pub put_span : (old text new : List ℕ) (span : Span) → IsPut old text new span → in_span new span ≡ text
put_span old text new span p =
    let f = p.from in let t = p.to in
    let wide : span.to - span.from ≡ length text = omega (arith, f, t) in
    ap (λ n. take (span.to - span.from) (drop n new)) f
    ∙ ap (λ n. take n (drop (length old) new)) wide
    ∙ ap (λ b. take (length text) (drop (length old) b)) p.grown
    ∙ ap (take (length text)) (drop-append_seam old text)
    ∙ take-length text

pub put_lies : (old text new : List ℕ) (span : Span) → IsPut old text new span → LiesIn (length new) span
put_lies old text new span p =
    let f = p.from in let t = p.to in let long : length new ≡ length old + length text = ap length p.grown ∙ length-append old text in
    record { ordered = omega (arith, f, t); within = omega (arith, t, long) }

map_span : {X Y : Type 0} (f : X → Y) (xs : List X) (span : Span) → map f (in_span xs span) ≡ in_span (map f xs) span
map_span f xs span = sym (take-map f (span.to - span.from) (drop span.from xs)) ∙ ap (take (span.to - span.from)) (sym (drop-map f span.from xs))

-- ---- attributes

pair_more : (n m : ℕ) (pair : Pair) → IsStoredPair n pair → n ≤ m → IsStoredPair m pair
pair_more n m pair p more = record { name = lies_more n m pair.name p.name more; value = lies_more n m pair.value p.value more }

pair_stays : (bytes more : List ℕ) (pair : Pair) → IsStoredPair (length bytes) pair → attribute_of (bytes ++ more) pair ≡ attribute_of bytes pair
pair_stays bytes more pair p =
    ap (λ (n : List ℕ). let a : Attribute = record { name = n; value = in_span (bytes ++ more) pair.value } in a) (span_stays bytes more pair.name p.name)
    ∙ ap (λ (v : List ℕ). let a : Attribute = record { name = in_span bytes pair.name; value = v } in a) (span_stays bytes more pair.value p.value)

pairs_stay : (bytes more : List ℕ) (pairs : List Pair) → ((n : ℕ) (pair : Pair) → slice_get pairs n ≡ Some pair → IsStoredPair (length bytes) pair)
    → map (attribute_of (bytes ++ more)) pairs ≡ map (attribute_of bytes) pairs
pairs_stay bytes more [] kept = refl
pairs_stay bytes more (p ∷ pairs) kept =
    ap (λ a. a ∷ map (attribute_of (bytes ++ more)) pairs) (pair_stays bytes more p (kept 0 p refl))
    ∙ ap (λ t. attribute_of bytes p ∷ t) (pairs_stay bytes more pairs (λ n pair e. kept (suc n) pair e))

all_pairs_stay : (bytes more : List ℕ) (pairs : List Pair) → AllByRecursion (IsStoredPair (length bytes)) pairs → map (attribute_of (bytes ++ more)) pairs ≡ map (attribute_of bytes) pairs
all_pairs_stay bytes more [] kept = refl
all_pairs_stay bytes more (p ∷ pairs) kept =
    ap (λ a. a ∷ map (attribute_of (bytes ++ more)) pairs) (pair_stays bytes more p kept.0)
    ∙ ap (λ t. attribute_of bytes p ∷ t) (all_pairs_stay bytes more pairs kept.1)

all_pairs_more : (n m : ℕ) (pairs : List Pair) → n ≤ m → AllByRecursion (IsStoredPair n) pairs → AllByRecursion (IsStoredPair m) pairs
all_pairs_more n m [] more all = tt
all_pairs_more n m (p ∷ pairs) more all = (pair_more n m p all.0 more, all_pairs_more n m pairs more all.1)

all_joined : (P : Pair → Type 0) (xs ys : List Pair) → AllByRecursion P xs → AllByRecursion P ys → AllByRecursion P (xs ++ ys)
all_joined P [] ys a b = b
all_joined P (x ∷ xs) ys a b = (a.0, all_joined P xs ys a.1 b)

-- nothing was put
pub put_nothing : (bytes : List ℕ) (pairs : List Pair) → ArePut bytes pairs [] bytes pairs
put_nothing bytes pairs = record { more = []; added = []; grown = sym (append-nil bytes); extended = sym (append-nil pairs); stored = tt; spelled = refl }

-- one attribute more was put
pub put_more : (old : List ℕ) (pairs : List Pair) (attributes more_attributes : List Attribute) (bytes named valued : List ℕ) (new_pairs longer_pairs : List Pair) (name value : List ℕ) (name_span value_span : Span)
    → ArePut old pairs attributes bytes new_pairs → IsPut bytes name named name_span → IsPut named value valued value_span
    → longer_pairs ≡ new_pairs ++ (let p : Pair = record { name = name_span; value = value_span } in p) ∷ []
    → more_attributes ≡ attributes ++ (let a : Attribute = record { name = name; value = value } in a) ∷ []
    → ArePut old pairs more_attributes valued longer_pairs
put_more old pairs attributes more_attributes bytes named valued new_pairs longer_pairs name value name_span value_span put first second pushed one =
    let pair : Pair = record { name = name_span; value = value_span } in
    let text = name ++ value in
    let grown : valued ≡ bytes ++ text = second.grown ∙ ap (λ t. t ++ value) first.grown ∙ append_assoc bytes name value in
    let long : length valued ≡ length bytes + length text = ap length grown ∙ length-append bytes text in
    let name_lies : LiesIn (length named) name_span = put_lies bytes name named name_span first in
    let wide : length valued ≡ length named + length value = ap length second.grown ∙ length-append named value in
    let stored_pair : IsStoredPair (length valued) pair = record {
      name = lies_more (length named) (length valued) name_span name_lies (omega (arith, wide));
      value = put_lies named value valued value_span second;
    } in
    let name_is : in_span valued name_span ≡ name = ap (λ t. in_span t name_span) second.grown ∙ span_stays named value name_span name_lies ∙ put_span bytes name named name_span first in
    let value_is : in_span valued value_span ≡ value = put_span named value valued value_span second in
    let spelled_pair : attribute_of valued pair ≡ (let a : Attribute = record { name = name; value = value } in a) =
    ap (λ (n : List ℕ). let a : Attribute = record { name = n; value = in_span valued value_span } in a) name_is
    ∙ ap (λ (v : List ℕ). let a : Attribute = record { name = name; value = v } in a) value_is in
    let old_spelled : map (attribute_of valued) put.added ≡ attributes =
    ap (λ b. map (attribute_of b) put.added) grown ∙ all_pairs_stay bytes text put.added put.stored ∙ put.spelled in
    record {
      more = put.more ++ text;
      added = put.added ++ pair ∷ [];
      grown = grown ∙ ap (λ t. t ++ text) put.grown ∙ append_assoc old put.more text;
      extended = pushed ∙ ap (λ t. t ++ pair ∷ []) put.extended ∙ append_assoc pairs put.added (pair ∷ []);
      stored = all_joined (IsStoredPair (length valued)) put.added (pair ∷ []) (all_pairs_more (length bytes) (length valued) put.added (omega (arith, long)) put.stored) (stored_pair, tt);
      spelled = map-append (attribute_of valued) put.added (pair ∷ [])
          ∙ ap (λ t. t ++ attribute_of valued pair ∷ []) old_spelled
          ∙ ap (λ (a : Attribute). attributes ++ a ∷ []) spelled_pair
          ∙ sym one;
    }

-- ---- elements

module _ (bytes more : List ℕ) (pairs added : List Pair) (kept : (n : ℕ) (pair : Pair) → slice_get pairs n ≡ Some pair → IsStoredPair (length bytes) pair) where
  element_stays : (node : Node) → IsStoredNode (length pairs) (length bytes) node → element_of (pairs ++ added) (bytes ++ more) node ≡ element_of pairs bytes node
  element_stays node s =
      let name_is = span_stays bytes more node.name s.name in
      let text_is = span_stays bytes more node.text s.text in
      let attributes_are : map (attribute_of (bytes ++ more)) (in_span (pairs ++ added) node.attributes) ≡ map (attribute_of bytes) (in_span pairs node.attributes) =
      ap (map (attribute_of (bytes ++ more))) (span_stays pairs added node.attributes s.attributes)
      ∙ map_span (attribute_of (bytes ++ more)) pairs node.attributes
      ∙ ap (λ (t : List Attribute). in_span t node.attributes) (pairs_stay bytes more pairs kept)
      ∙ sym (map_span (attribute_of bytes) pairs node.attributes) in
      ap (λ (n : List ℕ). let e : Element = record { at = node.at; parent = node.parent; name = n; attributes = map (attribute_of (bytes ++ more)) (in_span (pairs ++ added) node.attributes); text = in_span (bytes ++ more) node.text } in e) name_is
      ∙ ap (λ (a : List Attribute). let e : Element = record { at = node.at; parent = node.parent; name = in_span bytes node.name; attributes = a; text = in_span (bytes ++ more) node.text } in e) attributes_are
      ∙ ap (λ (t : List ℕ). let e : Element = record { at = node.at; parent = node.parent; name = in_span bytes node.name; attributes = map (attribute_of bytes) (in_span pairs node.attributes); text = t } in e) text_is

  elements_stay : (nodes : List Node) → ((n : ℕ) (node : Node) → slice_get nodes n ≡ Some node → IsStoredNode (length pairs) (length bytes) node)
      → elements_of nodes (pairs ++ added) (bytes ++ more) ≡ elements_of nodes pairs bytes
  elements_stay [] stored = refl
  elements_stay (x ∷ nodes) stored =
      ap (λ e. e ∷ elements_of nodes (pairs ++ added) (bytes ++ more)) (element_stays x (stored 0 x refl))
      ∙ ap (λ t. element_of pairs bytes x ∷ t) (elements_stay nodes (λ n node e. stored (suc n) node e))

-- one more at the end
all_more : {X : Type 0} (P : ℕ → X → Type 0) (xs : List X) (y : X) → ((n : ℕ) (x : X) → slice_get xs n ≡ Some x → P n x) → P (length xs) y
    → (n : ℕ) (x : X) → slice_get (xs ++ y ∷ []) n ≡ Some x → P n x
all_more P [] y all last zero x e = let same : y ≡ x = cc in subst (P 0) same last
all_more P [] y all last (suc n) x e = absurd cc
all_more P (z ∷ xs) y all last zero x e = all 0 x e
all_more P (z ∷ xs) y all last (suc n) x e = all_more (λ k w. P (suc k) w) xs y (λ k w h. all (suc k) w h) last n x e

-- several more at the end
all_added : {X : Type 0} (P : X → Type 0) (xs ys : List X) → ((n : ℕ) (x : X) → slice_get xs n ≡ Some x → P x) → AllByRecursion P ys
    → (n : ℕ) (x : X) → slice_get (xs ++ ys) n ≡ Some x → P x
all_added P [] [] all last n x e = absurd cc
all_added P [] (y ∷ ys) all last zero x e = let same : y ≡ x = cc in subst P same last.0
all_added P [] (y ∷ ys) all last (suc n) x e = all_added P [] ys (λ k w h. absurd cc) last.1 n x e
all_added P (z ∷ xs) ys all last zero x e = all 0 x e
all_added P (z ∷ xs) ys all last (suc n) x e = all_added P xs ys (λ k w h. all (suc k) w h) last n x e

node_more : (a b n m : ℕ) (node : Node) → IsStoredNode a n node → a ≤ b → n ≤ m → IsStoredNode b m node
node_more a b n m node s pairs bytes =
    record { name = lies_more n m node.name s.name bytes; attributes = lies_more a b node.attributes s.attributes pairs; text = lies_more n m node.text s.text bytes }

kept_more : (a b n m k : ℕ) (node : Node) → IsKept a n k node → a ≤ b → n ≤ m → IsKept b m k node
kept_more a b n m k node s pairs bytes = record { stored = node_more a b n m node s.stored pairs bytes; before = s.before; unlinked = s.unlinked }

-- what is stored when more bytes and pairs stand behind
pub stored_more : (nodes : List Node) (pairs added : List Pair) (bytes more : List ℕ) → AreStored nodes pairs bytes → AllByRecursion (IsStoredPair (length (bytes ++ more))) added
    → AreStored nodes (pairs ++ added) (bytes ++ more)
stored_more nodes pairs added bytes more s all =
    let long : length bytes ≤ length (bytes ++ more) = omega (arith, length-append bytes more) in
    let wide : length pairs ≤ length (pairs ++ added) = omega (arith, length-append pairs added) in
    record {
      nodes_kept = λ n node e. kept_more (length pairs) (length (pairs ++ added)) (length bytes) (length (bytes ++ more)) n node (s.nodes_kept n node e) wide long;
      pairs_kept = all_added (IsStoredPair (length (bytes ++ more))) pairs added (λ n pair e. pair_more (length bytes) (length (bytes ++ more)) pair (s.pairs_kept n pair e) long) all;
      few = s.few;
    }

-- what was stored and what is stored, with one element more
pub record IsLonger (nodes : List Node) (pairs : List Pair) (bytes : List ℕ) (node : Node) (new_pairs : List Pair) (new : List ℕ) (e : Element) : Type 0 where
  pub stored : AreStored (nodes ++ node ∷ []) new_pairs new
  pub elements : elements_of (nodes ++ node ∷ []) new_pairs new ≡ elements_of nodes pairs bytes ++ e ∷ []

-- the node that was made for an element
pub record IsMade (node : Node) (at : ℕ) (parent : Option ℕ) (name : Span) (from to : ℕ) : Type 0 where
  pub at_is : node.at ≡ at
  pub parent_is : node.parent ≡ parent
  pub name_is : node.name ≡ name
  pub from_is : node.attributes.from ≡ from
  pub to_is : node.attributes.to ≡ to
  pub text_from : node.text.from ≡ 0
  pub text_to : node.text.to ≡ 0
  pub unlinked : IsUnlinked node

pub element_added : (nodes : List Node) (pairs new_pairs : List Pair) (bytes named new : List ℕ) (node : Node) (at : ℕ) (parent : Option ℕ) (name : List ℕ) (name_span : Span) (attributes : List Attribute)
    → AreStored nodes pairs bytes → length nodes < 16777216 → IfSome parent (λ p. p < length nodes) → IsPut bytes name named name_span → ArePut named pairs attributes new new_pairs
    → IsMade node at parent name_span (length pairs) (length new_pairs)
    → IsLonger nodes pairs bytes node new_pairs new (new_element at parent name attributes)
element_added nodes pairs new_pairs bytes named new node at parent name name_span attributes s room early put puts made =
    let more = name ++ puts.more in
    let grown : new ≡ bytes ++ more = puts.grown ∙ ap (λ t. t ++ puts.more) put.grown ∙ append_assoc bytes name puts.more in
    let extended = puts.extended in
    let joined : AllByRecursion (IsStoredPair (length (bytes ++ more))) puts.added = subst (λ (b : List ℕ). AllByRecursion (IsStoredPair (length b)) puts.added) grown puts.stored in
    let old : AreStored nodes (pairs ++ puts.added) (bytes ++ more) = stored_more nodes pairs puts.added bytes more s joined in
    let old_now : AreStored nodes new_pairs new =
    subst (λ (p : List Pair). AreStored nodes p new) (sym extended) (subst (λ (b : List ℕ). AreStored nodes (pairs ++ puts.added) b) (sym grown) old) in
    let longer : length new ≡ length named + length puts.more = ap length puts.grown ∙ length-append named puts.more in
    let name_lies : LiesIn (length new) name_span = lies_more (length named) (length new) name_span (put_lies bytes name named name_span put) (omega (arith, longer)) in
    let wide : length new_pairs ≡ length pairs + length puts.added = ap length extended ∙ length-append pairs puts.added in
    let f = made.from_is in let t = made.to_is in let tf = made.text_from in let tt_is = made.text_to in
    let last : IsKept (length new_pairs) (length new) (length nodes) node = record {
      stored = record {
        name = subst (λ (x : Span). LiesIn (length new) x) (sym made.name_is) name_lies;
        attributes = record { ordered = omega (arith, f, t, wide); within = omega (arith, t) };
        text = record { ordered = omega (arith, tf, tt_is); within = omega (arith, tt_is) };
      };
      before = subst (λ (o : Option ℕ). IfSome o (λ p. p < length nodes)) (sym made.parent_is) early;
      unlinked = made.unlinked;
    } in
    let few : length (nodes ++ node ∷ []) ≤ 16777216 = omega (arith, length-append nodes (node ∷ [])) in
    let name_now : in_span new node.name ≡ name =
    ap (λ (x : Span). in_span new x) made.name_is ∙ ap (λ b. in_span b name_span) puts.grown
    ∙ span_stays named puts.more name_span (put_lies bytes name named name_span put) ∙ put_span bytes name named name_span put in
    let span_now : in_span new_pairs node.attributes ≡ puts.added =
    let count : node.attributes.to - node.attributes.from ≡ length puts.added = omega (arith, f, t, wide) in
    ap (λ n. take n (drop node.attributes.from new_pairs)) count
    ∙ ap (λ n. take (length puts.added) (drop n new_pairs)) f
    ∙ ap (λ (p : List Pair). take (length puts.added) (drop (length pairs) p)) extended
    ∙ ap (take (length puts.added)) (drop-append_seam pairs puts.added)
    ∙ take-length puts.added in
    let attributes_now : map (attribute_of new) (in_span new_pairs node.attributes) ≡ attributes = ap (map (attribute_of new)) span_now ∙ puts.spelled in
    let text_now : in_span new node.text ≡ [] =
    let none : node.text.to - node.text.from ≡ 0 = omega (arith, tf, tt_is) in ap (λ n. take n (drop node.text.from new)) none in
    let element_now : element_of new_pairs new node ≡ new_element at parent name attributes =
    ap (λ (a : ℕ). let e : Element = record { at = a; parent = node.parent; name = in_span new node.name; attributes = map (attribute_of new) (in_span new_pairs node.attributes); text = in_span new node.text } in e) made.at_is
    ∙ ap (λ (o : Option ℕ). let e : Element = record { at = at; parent = o; name = in_span new node.name; attributes = map (attribute_of new) (in_span new_pairs node.attributes); text = in_span new node.text } in e) made.parent_is
    ∙ ap (λ (n : List ℕ). let e : Element = record { at = at; parent = parent; name = n; attributes = map (attribute_of new) (in_span new_pairs node.attributes); text = in_span new node.text } in e) name_now
    ∙ ap (λ (a : List Attribute). let e : Element = record { at = at; parent = parent; name = name; attributes = a; text = in_span new node.text } in e) attributes_now
    ∙ ap (λ (x : List ℕ). let e : Element = record { at = at; parent = parent; name = name; attributes = attributes; text = x } in e) text_now in
    let old_elements : elements_of nodes new_pairs new ≡ elements_of nodes pairs bytes =
    ap (λ (p : List Pair). elements_of nodes p new) extended
    ∙ ap (λ (b : List ℕ). elements_of nodes (pairs ++ puts.added) b) grown
    ∙ elements_stay bytes more pairs puts.added s.pairs_kept nodes (λ n x e. (s.nodes_kept n x e).stored) in
    record {
      stored = record { nodes_kept = all_more (IsKept (length new_pairs) (length new)) nodes node old_now.nodes_kept last; pairs_kept = old_now.pairs_kept; few = few };
      elements = map-append (element_of new_pairs new) nodes (node ∷ [])
          ∙ ap (λ t. t ++ element_of new_pairs new node ∷ []) old_elements
          ∙ ap (λ (e : Element). elements_of nodes pairs bytes ++ e ∷ []) element_now;
    }

-- ---- texts

all_set : {X : Type 0} (P : ℕ → X → Type 0) (xs : List X) (k : ℕ) (y : X) → ((n : ℕ) (x : X) → slice_get xs n ≡ Some x → P n x) → P k y
    → (n : ℕ) (x : X) → slice_get (set xs k y) n ≡ Some x → P n x
all_set P [] k y all here n x e = absurd cc
all_set P (z ∷ xs) zero y all here zero x e = let same : y ≡ x = cc in subst (P 0) same here
all_set P (z ∷ xs) zero y all here (suc n) x e = all (suc n) x e
all_set P (z ∷ xs) (suc k) y all here zero x e = all 0 x e
all_set P (z ∷ xs) (suc k) y all here (suc n) x e = all_set (λ i w. P (suc i) w) xs k y (λ i w h. all (suc i) w h) here n x e

pub length_set : {X : Type 0} (xs : List X) (k : ℕ) (y : X) → length (set xs k y) ≡ length xs
length_set [] k y = refl
length_set (x ∷ xs) zero y = refl
length_set (x ∷ xs) (suc k) y = ap suc (length_set xs k y)

set_text : (f : Node → Element) (nodes : List Node) (n : ℕ) (node new : Node) (text : List ℕ) → slice_get nodes n ≡ Some node → f new ≡ having_text text (f node)
    → map f (set nodes n new) ≡ with_text (map f nodes) n text
set_text f [] n node new text at is = absurd cc
set_text f (x ∷ nodes) zero node new text at is =
    let same : x ≡ node = cc in ap (λ e. e ∷ map f nodes) (is ∙ ap (λ (w : Node). having_text text (f w)) (sym same))
set_text f (x ∷ nodes) (suc n) node new text at is = ap (λ t. f x ∷ t) (set_text f nodes n node new text at is)

-- what is stored, of which one element has its text now
pub record HasText (nodes : List Node) (pairs : List Pair) (bytes : List ℕ) (n : ℕ) (new_nodes : List Node) (new text : List ℕ) : Type 0 where
  pub stored : AreStored new_nodes pairs new
  pub elements : elements_of new_nodes pairs new ≡ with_text (elements_of nodes pairs bytes) n text

pub text_set : (nodes : List Node) (pairs : List Pair) (bytes new text : List ℕ) (n : ℕ) (node : Node) (span : Span) → AreStored nodes pairs bytes → slice_get nodes n ≡ Some node
    → IsPut bytes text new span → HasText nodes pairs bytes n (set nodes n (record node { text = span })) new text
text_set nodes pairs bytes new text n node span s at put =
    let later : Node = record node { text = span } in
    let grown = put.grown in
    let old : AreStored nodes (pairs ++ []) (bytes ++ text) = stored_more nodes pairs [] bytes text s tt in
    let old_now : AreStored nodes pairs new = subst (λ (p : List Pair). AreStored nodes p new) (append-nil pairs) (subst (λ (b : List ℕ). AreStored nodes (pairs ++ []) b) (sym grown) old) in
    let here = old_now.nodes_kept n node at in
    let kept : IsKept (length pairs) (length new) n later = record {
      stored = record { name = here.stored.name; attributes = here.stored.attributes; text = put_lies bytes text new span put };
      before = here.before;
      unlinked = record { child = here.unlinked.child; sibling = here.unlinked.sibling };
    } in
    let text_now : in_span new span ≡ text = put_span bytes text new span put in
    let few : length (set nodes n later) ≤ 16777216 = let l = old_now.few in omega (arith, l, length_set nodes n later) in
    let old_elements : elements_of nodes pairs new ≡ elements_of nodes pairs bytes =
    ap (λ (p : List Pair). elements_of nodes p new) (sym (append-nil pairs))
    ∙ ap (λ (b : List ℕ). elements_of nodes (pairs ++ []) b) grown
    ∙ elements_stay bytes text pairs [] s.pairs_kept nodes (λ k x e. (s.nodes_kept k x e).stored) in
    let changed : element_of pairs new later ≡ having_text text (element_of pairs new node) = ap (λ (t : List ℕ). having_text t (element_of pairs new node)) text_now in
    record {
      stored = record { nodes_kept = all_set (IsKept (length pairs) (length new)) nodes n later old_now.nodes_kept kept; pairs_kept = old_now.pairs_kept; few = few };
      elements = set_text (element_of pairs new) nodes n node later text at changed ∙ ap (λ (es : List Element). with_text es n text) old_elements;
    }

-- what is stored, by the list of elements that was seen
pub record HasTextIn (pairs : List Pair) (n : ℕ) (new_nodes : List Node) (new text : List ℕ) (self : List Element) : Type 0 where
  pub stored : AreStored new_nodes pairs new
  pub elements : elements_of new_nodes pairs new ≡ with_text self n text

-- the same by what the code has read
pub text_stored : (nodes : List Node) (pairs : List Pair) (bytes new text : List ℕ) (n : ℕ) (node made : Node) (span : Span) (self : List Element) → AreStored nodes pairs bytes
    → elements_of nodes pairs bytes ≡ self → n < length self → node ≡ slice_index_or nodes n node → IsPut bytes text new span → made ≡ record node { text = span }
    → HasTextIn pairs n (set nodes n made) new text self
text_stored nodes pairs bytes new text n node made span self s view within read put is =
    let few : length self ≡ length nodes = sym (ap length view) ∙ length-map nodes (element_of pairs bytes) in
    let at : slice_get nodes n ≡ Some node = slice_get_read nodes (length nodes) n node refl (omega (arith, within, few)) read in
    let t = text_set nodes pairs bytes new text n node span s at put in
    subst (λ (w : Node). HasTextIn pairs n (set nodes n w) new text self) (sym is) (record { stored = t.stored; elements = t.elements ∙ ap (λ (es : List Element). with_text es n text) view })

-- one attribute more of those that are put
pub given_turn : (attributes : List Given) (i : ℕ) (g : Given) → i < length attributes → g ≡ slice_index_or attributes i g
    → map given_attribute (take (i + 1) attributes) ≡ map given_attribute (take i attributes) ++ given_attribute g ∷ []
given_turn attributes i g within is =
    ap (map given_attribute) (take_more attributes i g within)
    ∙ map-append given_attribute (take i attributes) (slice_index_or attributes i g ∷ [])
    ∙ ap (λ (x : Given). map given_attribute (take i attributes) ++ given_attribute x ∷ []) (sym is)

-- what is stored with one element more, by the list of elements that was seen
pub record IsLongerIn (longer : List Node) (pairs : List Pair) (bytes : List ℕ) (self : List Element) (e : Element) : Type 0 where
  pub stored : AreStored longer pairs bytes
  pub elements : elements_of longer pairs bytes ≡ self ++ e ∷ []

-- the node that is made for an element
abbrev pub made_node : ℕ → Option ℕ → Span → ℕ → ℕ → Node
made_node at parent name from to = record {
  at = at;
  parent = parent;
  name = name;
  attributes = record { from = from; to = to };
  text = record { from = 0; to = 0 };
  first_child = None;
  next_sibling = None;
}

pub element_stored : (nodes longer : List Node) (pairs new_pairs : List Pair) (bytes named new : List ℕ) (at : ℕ) (parent : Option ℕ) (name : List ℕ) (span : Span) (from to : ℕ) (attributes : List Attribute)
    (self : List Element) → AreStored nodes pairs bytes → elements_of nodes pairs bytes ≡ self → length self < 16777216 → IfSome parent (λ p. p < length self) → IsPut bytes name named span
    → ArePut named pairs attributes new new_pairs → from ≡ length pairs → to ≡ length new_pairs → longer ≡ nodes ++ made_node at parent span from to ∷ []
    → IsLongerIn longer new_pairs new self (new_element at parent name attributes)
element_stored nodes longer pairs new_pairs bytes named new at parent name span from to attributes self s view room early put puts f t is =
    let few : length nodes ≡ length self = sym (length-map nodes (element_of pairs bytes)) ∙ ap length view in
    let node = made_node at parent span from to in
    let made : IsMade node at parent span (length pairs) (length new_pairs) =
    record { at_is = refl; parent_is = refl; name_is = refl; from_is = f; to_is = t; text_from = refl; text_to = refl; unlinked = record { child = refl; sibling = refl } } in
    let early_node : IfSome parent (λ p. p < length nodes) = subst (λ (n : ℕ). IfSome parent (λ p. p < n)) (sym few) early in
    let l = element_added nodes pairs new_pairs bytes named new node at parent name span attributes s (omega (arith, room, few)) early_node put puts made in
    subst (λ (x : List Node). IsLongerIn x new_pairs new self (new_element at parent name attributes)) (sym is)
    (record { stored = l.stored; elements = l.elements ∙ ap (λ (es : List Element). es ++ new_element at parent name attributes ∷ []) view })
