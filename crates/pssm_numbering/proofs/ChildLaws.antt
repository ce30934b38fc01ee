-- The first child that passes a test.
use Rattle.std.proofs.Common.{◌≡◌, ◌<◌, ◌+◌, ℕ, zero, suc, Bool, true, false, cond, not, ltb, ◌&&◌, List, [], ◌∷◌, length, Option, Some, None, refl, ap, ◌∙◌, arith}
use Rattle.std.specs.Prelude.{slice_get, position, bytes_eq, ◌==◌}
use Rattle.std.specs.List.{position_or_len, range_with_len}
use Rattle.std.specs.Option.{option_map_or}
use Rattle.pssm_xml.specs.Documents.{Element}
use Rattle.pssm_xml.specs.Elements.{IsParent, IsNextChild}
use Rattle.pssm_roles.specs.declared.role.Role.{Role}
use Rattle.pssm_numbering.specs.Numbering.{ModelFile, role_at, parent_of}
use Rattle.pssm_roles.specs.inner.Seen.{left_from}
use Rattle.pssm_profile.proofs.CountingLaws.{in_range}
use Rattle.pssm_profile.proofs.ChildLaws.{is_child, fewer_left}
use Rattle.pssm_numbering.specs.inner.Children.{is_named_child, is_child_with, NoneBefore, IsAskedTo}

-- ---- lists

-- The first that passes is found.
pub first_at : {X : Type 0} (test : X → Bool) (xs : List X) (k : ℕ) → option_map_or test (slice_get xs k) false ≡ true
    → ((n : ℕ) → n < k → option_map_or test (slice_get xs n) false ≡ false) → (position_or_len test xs ≡ k) × (k < length xs)
first_at test [] k here none = absurd cc
first_at test (x ∷ xs) zero here none = (ap (λ (b : Bool). cond (not b) (1 + position_or_len test xs) 0) here, omega arith)
first_at test (x ∷ xs) (suc k) here none =
    let more = first_at test xs k here (λ n less. none (suc n) (omega (arith, less))) in
    let at = more.0 in let less = more.1 in
    (ap (λ (b : Bool). cond (not b) (1 + position_or_len test xs) 0) (none 0 (omega arith)) ∙ (omega (arith, at)), omega (arith, less))

pub found : {X : Type 0} (test : X → Bool) (xs : List X) (k : ℕ) → option_map_or test (slice_get xs k) false ≡ true
    → ((n : ℕ) → n < k → option_map_or test (slice_get xs n) false ≡ false) → position test xs ≡ Some k
found test xs k here none =
    let at = (first_at test xs k here none).0 in
    let less = (first_at test xs k here none).1 in
    let so : ltb k (length xs) ≡ true = grind (arith, less) in
    ap (λ (n : ℕ). cond (ltb n (length xs)) (Some n) None) at ∙ ap (λ (b : Bool). cond b (Some k) None) so

-- Where none passes, none is found.
none_at : {X : Type 0} (test : X → Bool) (xs : List X)
    → ((n : ℕ) → option_map_or test (slice_get xs n) false ≡ false) → position_or_len test xs ≡ length xs
none_at test [] none = refl
none_at test (x ∷ xs) none =
    let more = none_at test xs (λ n. none (suc n)) in
    ap (λ (b : Bool). cond (not b) (1 + position_or_len test xs) 0) (none 0) ∙ (omega (arith, more))

pub not_found : {X : Type 0} (test : X → Bool) (xs : List X)
    → ((n : ℕ) → option_map_or test (slice_get xs n) false ≡ false) → position test xs ≡ None
not_found test xs none =
    let so : ltb (length xs) (length xs) ≡ false = grind arith in
    ap (λ (n : ℕ). cond (ltb n (length xs)) (Some n) None) (none_at test xs none) ∙ ap (λ (b : Bool). cond b (Some (length xs)) None) so

-- ---- numbers

at_number : (a len n : ℕ) → n < len → slice_get (range_with_len a len) n ≡ Some (a + n)
at_number a zero n less = absurd (omega (arith, less))
at_number a (suc len) zero less = ap (λ (k : ℕ). Some k) (omega arith)
at_number a (suc len) (suc n) less = at_number (a + 1) len n (omega (arith, less)) ∙ ap (λ (k : ℕ). Some k) (omega arith)

no_number : (test : ℕ → Bool) (a len n : ℕ) → test (a + n) ≡ false → option_map_or test (slice_get (range_with_len a len) n) false ≡ false
no_number test a zero n none = refl
no_number test a (suc len) zero none = ap test (omega arith) ∙ none
no_number test a (suc len) (suc n) none = no_number test (a + 1) len n (ap test (omega arith) ∙ none)

-- The first number that passes is found among the first ones, and none where none passes.
pub number_found : (test : ℕ → Bool) (len k : ℕ) → k < len → test k ≡ true → NoneBefore test (Some k)
    → position test (range_with_len 0 len) ≡ Some k
number_found test len k less here none =
    found test (range_with_len 0 len) k
    (ap (λ (o : Option ℕ). option_map_or test o false) (at_number 0 len k less ∙ ap (λ (n : ℕ). Some n) (omega arith)) ∙ here)
    (λ n before. no_number test 0 len n (ap test (omega arith) ∙ none n before))

pub number_not_found : (test : ℕ → Bool) (len : ℕ) → NoneBefore test None → position test (range_with_len 0 len) ≡ None
number_not_found test len none = not_found test (range_with_len 0 len) (λ n. no_number test 0 len n (ap test (omega arith) ∙ none n))

-- ---- children

is_other : (p : ℕ) (o : Option ℕ) → (o ≡ Some p → ⊥) → option_map_or (λ (q : ℕ). q == p) o false ≡ false
is_other p None other = refl
is_other p (Some q) other = by_test (q == p) refl where
  by_test : (t : Bool) → (q == p) ≡ t → (q == p) ≡ false
  by_test true same = absurd (other (let is : q ≡ p = grind (arith, same) in ap (λ (k : ℕ). Some k) is))
  by_test false same = same

-- What is no child passes none of the tests.
pub not_named : (doc : List Element) (p : ℕ) (name : List ℕ) (n : ℕ) → (IsParent doc p n → ⊥) → is_named_child doc p name n ≡ false
not_named [] p name n other = refl
not_named (e ∷ es) p name zero other = ap (λ (b : Bool). b && bytes_eq e.name name) (is_other p e.parent other)
not_named (e ∷ es) p name (suc n) other = not_named es p name n other

pub not_with : (is : Role → Bool) (file : ModelFile) (p n : ℕ) → (IsParent file.doc p n → ⊥) → is_child_with is file p n ≡ false
not_with is file p n other = ap (λ (b : Bool). is (role_at file n) && b) (is_other p (parent_of file n) other) ∙ never (is (role_at file n)) where
  never : (b : Bool) → (b && false) ≡ false
  never true = refl
  never false = refl

module _ (doc : List Element) (p : ℕ) (passes : ℕ → Bool) (others : (n : ℕ) → (IsParent doc p n → ⊥) → passes n ≡ false) where
  -- At the first child none is asked.
  pub at_first : (o : Option ℕ) → IsNextChild doc p 0 o → IsAskedTo doc p passes o
  at_first None next = record { child = tt; none = λ n. others n (next n (omega arith)) }
  at_first (Some m) next = record { child = next.1; none = λ n less. others n (next.2 n (omega arith) less) }

  -- With one child more that does not pass, the next one is next.
  pub at_next : (m : ℕ) (o : Option ℕ) → IsAskedTo doc p passes (Some m) → passes m ≡ false → IsNextChild doc p (suc m) o
      → IsAskedTo doc p passes o
  at_next m o asked here next = record { child = is_child doc p (suc m) o next; none = by_next o next } where
    below : (n : ℕ) → n < suc m → passes n ≡ false
    below n less = by_place (ltb n m) refl where
      by_place : (t : Bool) → ltb n m ≡ t → passes n ≡ false
      by_place true is = asked.none n (grind (arith, is))
      by_place false is = let same : n ≡ m = grind (arith, is, less) in ap passes same ∙ here

    by_next : (o : Option ℕ) → IsNextChild doc p (suc m) o → NoneBefore passes o
    by_next None next = λ n. by_place n (ltb n (suc m)) refl where
      by_place : (n : ℕ) (t : Bool) → ltb n (suc m) ≡ t → passes n ≡ false
      by_place n true is = below n (grind (arith, is))
      by_place n false is = others n (next n (grind (arith, is)))
    by_next (Some k) next = λ n. by_place n (ltb n (suc m)) refl where
      by_place : (n : ℕ) (t : Bool) → ltb n (suc m) ≡ t → n < k → passes n ≡ false
      by_place n true is less = below n (grind (arith, is))
      by_place n false is less = others n (next.2 n (grind (arith, is)) less)

-- A child stands among the elements.
pub within : (doc : List Element) (p m : ℕ) (passes : ℕ → Bool) → IsAskedTo doc p passes (Some m) → m < length doc
within doc p m passes asked = in_range p [] doc m asked.child

pub fewer : (doc : List Element) (p m : ℕ) (passes : ℕ → Bool) (o : Option ℕ) → IsAskedTo doc p passes (Some m) → IsNextChild doc p (suc m) o
    → left_from (length doc) o < left_from (length doc) (Some m)
fewer doc p m passes o asked next = fewer_left doc p m o asked.child next
