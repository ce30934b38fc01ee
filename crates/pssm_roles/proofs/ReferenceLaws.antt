-- The references of the children of an element, taken one child after another.
use Rattle.std.proofs.Common.{◌≡◌, ◌≢◌, ◌<◌, ◌≤◌, ◌⊎◌, ℕ, zero, suc, Bool, true, false, cond, List, [], ◌∷◌, ◌++◌, length, drop, Option, Some, None, refl, sym, ap, ◌∙◌, arith, inl, inr, ⊎_elim}
use Rattle.std.specs.Prelude.{slice_get, codes, ◌&&◌, ◌==◌}
use Rattle.std.specs.Option.{option_and_then, option_map_or}
use Rattle.std.specs.Str.{bytes_eq}
use Rattle.pssm_xml.specs.Documents.{Element}
use Rattle.pssm_xml.specs.Elements.{IsParent, IsNextChild, is_child_of}
use Rattle.pssm_values.specs.Ids.{ids_in}
use Rattle.pssm_roles.specs.References.{refers_at, own_value, of_children}
use Rattle.pssm_roles.specs.inner.Seen.{of_child, of_rest, IsChildOf, left_from}
use Rattle.pssm_roles.proofs.IdLaws.{drop_at}

-- A child is one of the elements.
pub there : (doc : List Element) (p m : ℕ) → IsParent doc p m → (e : Element) × (slice_get doc m ≡ Some e) × (e.parent ≡ Some p)
there doc p m is = by_element (slice_get doc m) refl where
  by_element : (o : Option Element) → slice_get doc m ≡ o → (e : Element) × (slice_get doc m ≡ Some e) × (e.parent ≡ Some p)
  by_element None none = let e : None ≡ Some p = sym (ap (option_and_then (λ (e : Element). e.parent)) none) ∙ is in absurd cc
  by_element (Some e) at = (e, at, sym (ap (option_and_then (λ (e : Element). e.parent)) at) ∙ is)

pub within : {X : Type 0} (xs : List X) (n : ℕ) (x : X) → slice_get xs n ≡ Some x → n < length xs
within [] n x at = absurd cc
within (y ∷ ys) zero x at = omega arith
within (y ∷ ys) (suc n) x at = let more = within ys n x at in omega (arith, more)

-- the test for a child, by the parent
test_child : (p : ℕ) (name : List ℕ) (e : Element) → e.parent ≡ Some p → is_child_of p name e ≡ bytes_eq e.name name
test_child p name e is = ap (λ (o : Option ℕ). option_map_or (λ q. q == p) o false && bytes_eq e.name name) is ∙ (let same : (p == p) ≡ true = grind arith in ap (λ b. b && bytes_eq e.name name) same)

test_other : (p : ℕ) (name : List ℕ) (e : Element) → (e.parent ≡ Some p → ⊥) → is_child_of p name e ≡ false
test_other p name e other = by_parent e.parent refl where
  by_parent : (o : Option ℕ) → e.parent ≡ o → is_child_of p name e ≡ false
  by_parent None is = ap (λ (o : Option ℕ). option_map_or (λ q. q == p) o false && bytes_eq e.name name) is
  by_parent (Some q) is =
      let apart : q ≢ p = λ same. other (is ∙ ap (λ k. Some k) same) in
      ap (λ (o : Option ℕ). option_map_or (λ q. q == p) o false && bytes_eq e.name name) is ∙ (let no : (q == p) ≡ false = grind (arith, apart) in ap (λ b. b && bytes_eq e.name name) no)

-- one child and those behind it
pub one_child : (doc : List Element) (p m : ℕ) (name : List ℕ) → IsParent doc p m → of_rest doc p name (Some m) ≡ of_child doc name m ++ of_children p name (suc m) (drop (suc m) doc)
one_child doc p m name is =
    let e = there doc p m is in
    ap (of_children p name m) (drop_at doc m e.0 e.1)
    ∙ ap (λ (b : Bool). cond b (refers_at m (ids_in (own_value (codes "xmi:idref") e.0))) [] ++ of_children p name (suc m) (drop (suc m) doc)) (test_child p name e.0 e.2)
    ∙ ap (λ (o : Option Element). option_map_or (λ (x : Element). cond (bytes_eq x.name name) (refers_at m (ids_in (own_value (codes "xmi:idref") x))) []) o [] ++ of_children p name (suc m) (drop (suc m) doc)) (sym e.1)

-- An element that is no child has no part.
no_child : (doc : List Element) (p low : ℕ) (name : List ℕ) (e : Element) (es : List Element) → (e.parent ≡ Some p → ⊥) → of_children p name low (e ∷ es) ≡ of_children p name (suc low) es
no_child doc p low name e es other =
    ap (λ (b : Bool). cond b (refers_at low (ids_in (own_value (codes "xmi:idref") e))) [] ++ of_children p name (suc low) es) (test_other p name e other)

-- what is left of a list behind its first
tail_of : (doc : List Element) (low : ℕ) (e : Element) (es : List Element) → drop low doc ≡ e ∷ es → (slice_get doc low ≡ Some e) × (drop (suc low) doc ≡ es)
tail_of [] zero e es is = absurd cc
tail_of [] (suc low) e es is = absurd cc
tail_of (d ∷ doc) zero e es is = (cc, cc)
tail_of (d ∷ doc) (suc low) e es is = tail_of doc low e es is

none_left : {X : Type 0} (xs : List X) (low : ℕ) → drop low xs ≡ [] → length xs ≤ low
none_left [] low is = omega arith
none_left (x ∷ xs) zero is = absurd cc
none_left (x ∷ xs) (suc low) is = let more = none_left xs low is in omega (arith, more)

parent_of : (doc : List Element) (p low : ℕ) (e : Element) → slice_get doc low ≡ Some e → e.parent ≡ Some p → IsParent doc p low
parent_of doc p low e at is = ap (option_and_then (λ (e : Element). e.parent)) at ∙ is

-- The next child is the next that has a part.
pub skip_to : (doc : List Element) (p : ℕ) (name : List ℕ) (low : ℕ) (es : List Element) (o : Option ℕ) → drop low doc ≡ es → IsNextChild doc p low o → of_children p name low es ≡ of_rest doc p name o
skip_to doc p name low [] None is next = refl
skip_to doc p name low [] (Some m) is next =
    let none = none_left doc low is in let e = there doc p m next.1 in let in_doc = within doc m e.0 e.1 in let behind = next.0 in absurd (omega (arith, none, in_doc, behind))
skip_to doc p name low (e ∷ es) None is next =
    let tail = tail_of doc low e es is in
    no_child doc p low name e es (λ child. next low (omega arith) (parent_of doc p low e tail.0 child))
    ∙ skip_to doc p name (suc low) es None tail.1 (λ m behind. next m (omega (arith, behind)))
skip_to doc p name low (e ∷ es) (Some m) is next =
    let tail = tail_of doc low e es is in
    let further = λ (past : suc low ≤ m). no_child doc p low name e es (λ child. next.2 low (omega arith) past (parent_of doc p low e tail.0 child))
    ∙ skip_to doc p name (suc low) es (Some m) tail.1 (past, next.1, λ k behind. next.2 k (omega (arith, behind))) in
    ⊎_elim (λ here. ap (of_children p name low) (sym is) ∙ ap (λ k. of_children p name k (drop k doc)) here) further (split low m next.0)
  where
    split : (a b : ℕ) → a ≤ b → (a ≡ b) ⊎ (suc a ≤ b)
    split zero zero le = inl refl
    split zero (suc b) le = inr (omega arith)
    split (suc a) zero le = absurd (omega (arith, le))
    split (suc a) (suc b) le = ⊎_elim (λ e. inl (ap suc e)) (λ l. inr (omega (arith, l))) (split a b (omega (arith, le)))

-- ---- the loop

-- Its first child is the next from the first element on.
pub at_first : (doc : List Element) (p : ℕ) (name : List ℕ) (o : Option ℕ) → IsNextChild doc p 0 o → of_children p name 0 doc ≡ of_rest doc p name o
at_first doc p name o next = skip_to doc p name 0 doc o refl next

pub is_child : (doc : List Element) (p low : ℕ) (o : Option ℕ) → IsNextChild doc p low o → IsChildOf doc p o
is_child doc p low None next = tt
is_child doc p low (Some m) next = next.1

-- behind a child
pub at_next : (doc : List Element) (p m : ℕ) (name : List ℕ) (o : Option ℕ) → IsParent doc p m → IsNextChild doc p (suc m) o
    → of_rest doc p name (Some m) ≡ of_child doc name m ++ of_rest doc p name o
at_next doc p m name o is next = one_child doc p m name is ∙ ap (λ r. of_child doc name m ++ r) (skip_to doc p name (suc m) (drop (suc m) doc) o refl next)

pub fewer_left : (doc : List Element) (p m : ℕ) (o : Option ℕ) → IsParent doc p m → IsNextChild doc p (suc m) o → left_from (length doc) o < left_from (length doc) (Some m)
fewer_left doc p m None is next = let e = there doc p m is in let in_doc = within doc m e.0 e.1 in omega (arith, in_doc)
fewer_left doc p m (Some k) is next = let e = there doc p m is in let in_doc = within doc m e.0 e.1 in let behind = next.0 in omega (arith, in_doc, behind)
