-- Children, counted one behind another.
use Rattle.std.proofs.Common.{◌≡◌, ◌<◌, ◌≤◌, ◌+◌, ℕ, suc, zero, Bool, true, false, cond, eqb, ◌&&◌, List, [], ◌∷◌, length, take, filter, Option, Some, None, refl, sym, ap, ◌∙◌, arith, eq-eqb}
use Rattle.std.specs.Prelude.{slice_get, option_map, bytes_eq}
use Rattle.std.specs.Option.{option_map_or}
use Rattle.std.proofs.lemmas.Bool.{eqb-true, cond-false}
use Rattle.std.proofs.Math.Seq.{take-length}
use Rattle.pssm_xml.specs.Documents.{Element}
use Rattle.pssm_xml.specs.Elements.{is_child_of, IsParent, IsNextChild}
use Rattle.pssm_profile.specs.inner.Counting.{IsCountedTo}

-- how many a child counts
abbrev pub counts : Bool → ℕ
counts named = cond named 1 0

pub counts_one : (named : Bool) → counts named ≤ 1
counts_one true = omega arith
counts_one false = omega arith

module _ (p : ℕ) (name : List ℕ) where
  -- What stands in another element is no child.
  no_child : (e : Element) → (e.parent ≡ Some p → ⊥) → is_child_of p name e ≡ false
  no_child e other = by_parent e.parent refl where
    by_parent : (o : Option ℕ) → e.parent ≡ o → (option_map_or (λ (q : ℕ). eqb q p) o false && bytes_eq e.name name) ≡ false
    by_parent None is = refl
    by_parent (Some q) is = by_test (eqb q p) refl where
      by_test : (t : Bool) → eqb q p ≡ t → (t && bytes_eq e.name name) ≡ false
      by_test true same = absurd (other (is ∙ ap (λ (k : ℕ). Some k) (eqb-true q p same)))
      by_test false same = refl

  -- Between two children there is none.
  pub gap : (doc : List Element) (low high : ℕ) → low ≤ high → ((m : ℕ) → low ≤ m → m < high → IsParent doc p m → ⊥) → filter (is_child_of p name) (take high doc) ≡ filter (is_child_of p name) (take low doc)
  gap [] zero zero le none = refl
  gap [] zero (suc high) le none = refl
  gap [] (suc low) zero le none = refl
  gap [] (suc low) (suc high) le none = refl
  gap (e ∷ es) zero zero le none = refl
  gap (e ∷ es) zero (suc high) le none =
      cond-false (is_child_of p name e) (e ∷ filter (is_child_of p name) (take high es)) (filter (is_child_of p name) (take high es)) (no_child e (λ is. none 0 (omega arith) (omega arith) is))
      ∙ gap es zero high (omega arith) (λ m least less is. none (suc m) (omega arith) (omega arith) is)
  gap (e ∷ es) (suc low) zero le none = absurd (omega arith)
  gap (e ∷ es) (suc low) (suc high) le none =
      ap (λ (more : List Element). cond (is_child_of p name e) (e ∷ more) more) (gap es low high (omega arith) (λ m least less is. none (suc m) (omega arith) (omega arith) is))

  -- A child is one of this name where it is called so.
  pub child_named : (e : Element) (t : Bool) → e.parent ≡ Some p → bytes_eq e.name name ≡ t → is_child_of p name e ≡ t
  child_named e t is named =
      let same : eqb p p ≡ true = eq-eqb p p refl in
      ap (λ (o : Option ℕ). option_map_or (λ (q : ℕ). eqb q p) o false && bytes_eq e.name name) is ∙ ap (λ (b : Bool). b && bytes_eq e.name name) same ∙ named

  pub in_range : (doc : List Element) (m : ℕ) → IsParent doc p m → m < length doc
  in_range [] m is = absurd cc
  in_range (e ∷ es) zero is = omega arith
  in_range (e ∷ es) (suc m) is = let less = in_range es m is in omega arith

  -- Behind the last child there is none.
  pub rest : (doc : List Element) (low : ℕ) → low ≤ length doc → ((m : ℕ) → low ≤ m → IsParent doc p m → ⊥) → filter (is_child_of p name) doc ≡ filter (is_child_of p name) (take low doc)
  rest doc low le none = sym (ap (filter (is_child_of p name)) (take-length doc)) ∙ gap doc low (length doc) le (λ m least less is. none m least is)

  -- With one child more.
  pub one_more : (doc : List Element) (child : ℕ) (named : Bool) → IsParent doc p child → option_map (λ (e : Element). bytes_eq e.name name) (slice_get doc child) ≡ Some named
      → length (filter (is_child_of p name) (take (suc child) doc)) ≡ length (filter (is_child_of p name) (take child doc)) + counts named
  one_more [] child named is called = absurd cc
  one_more (e ∷ es) zero named is called = by_name named (own called) where
    own : Some (bytes_eq e.name name) ≡ Some named → bytes_eq e.name name ≡ named
    own same = cc

    sized : (b t : Bool) → b ≡ t → length (cond b (e ∷ []) []) ≡ 0 + counts t
    sized b true same = rw same refl
    sized b false same = rw same refl

    by_name : (t : Bool) → bytes_eq e.name name ≡ t → length (filter (is_child_of p name) (e ∷ take 0 es)) ≡ 0 + counts t
    by_name t same = sized (is_child_of p name e) t (child_named e t is same)
  one_more (e ∷ es) (suc child) named is called = by_first (is_child_of p name e) refl (one_more es child named is called) where
    by_first : (t : Bool) → is_child_of p name e ≡ t → length (filter (is_child_of p name) (take (suc child) es)) ≡ length (filter (is_child_of p name) (take child es)) + counts named
        → length (cond t (e ∷ filter (is_child_of p name) (take (suc child) es)) (filter (is_child_of p name) (take (suc child) es))) ≡ length (cond t (e ∷ filter (is_child_of p name) (take child es)) (filter (is_child_of p name) (take child es))) + counts named
    by_first true first more = omega (arith, more)
    by_first false first more = more

-- At the first child none is counted.
pub counted_at_first : (doc : List Element) (p : ℕ) (name : List ℕ) (first : Option ℕ) → IsNextChild doc p 0 first → IsCountedTo doc p name 0 0 first
counted_at_first doc p name None none = sym (ap length (rest p name doc 0 (omega arith) none))
counted_at_first doc p name (Some child) next =
    (in_range p name doc child next.1, omega arith, next.1, sym (ap length (gap p name doc 0 child (omega arith) next.2)))

-- One turn counts one child.
pub counted_on : (doc : List Element) (p : ℕ) (name : List ℕ) (turn count child : ℕ) (named : Bool) (next : Option ℕ) → IsCountedTo doc p name turn count (Some child)
    → option_map (λ (e : Element). bytes_eq e.name name) (slice_get doc child) ≡ Some named → IsNextChild doc p (suc child) next → IsCountedTo doc p name (turn + 1) (count + counts named) next
counted_on doc p name turn count child named None far called none =
    let more = one_more p name doc child named far.2 called in
    ap (λ (n : ℕ). n + counts named) far.3 ∙ sym more ∙ sym (ap length (rest p name doc (suc child) far.0 none))
counted_on doc p name turn count child named (Some next) far called goes =
    let more = one_more p name doc child named far.2 called in
    let behind : turn ≤ child = far.1 in
    let least : suc child ≤ next = goes.0 in (
      in_range p name doc next goes.1,
      omega arith,
      goes.1,
      ap (λ (n : ℕ). n + counts named) far.3 ∙ sym more ∙ sym (ap length (gap p name doc (suc child) next goes.0 goes.2)),
    )
