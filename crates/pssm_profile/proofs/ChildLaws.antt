-- Children of a name, one after another, and what they count.
use Rattle.std.proofs.Common.{◌≡◌, ◌<◌, ◌+◌, ◌++◌, ℕ, zero, suc, Bool, true, false, cond, List, [], ◌∷◌, map, length, take, filter, Option, Some, None, refl, sym, ap, ◌∙◌, arith}
use Rattle.std.specs.Prelude.{◌↔◌, slice_get, bytes_eq, codes, sum, sum_by}
use Rattle.std.proofs.lemmas.List.Sums.{sum-map, sum_by-append}
use Rattle.pssm_xml.specs.Documents.{Element}
use Rattle.pssm_xml.specs.Elements.{IsParent, IsNextChild, is_child_of, value_or_empty}
use Rattle.pssm_roles.specs.Roles.{is_typed}
use Rattle.std.specs.Option.{option_map_or}
use Rattle.pssm_roles.specs.inner.Seen.{IsChildOf, left_from}
use Rattle.pssm_profile.specs.inner.Numbers.{number_of, together}
use Rattle.pssm_profile.specs.declared.number.Number.{Number}
use Rattle.pssm_profile.specs.declared.number.Number.TheVariants.{Nothing, Several}
use Rattle.pssm_profile.specs.inner.Children.{before, named_child}
use Rattle.pssm_profile.proofs.CountingLaws.{gap, rest, child_named, in_range}

-- ---- numbers

pub both_number : (a b : ℕ) → together (number_of a) (number_of b) ≡ number_of (a + b)
both_number zero b = ap number_of (omega arith)
both_number (suc zero) zero = refl
both_number (suc zero) (suc zero) = refl
both_number (suc zero) (suc (suc b)) = sym (several (1 + suc (suc b)) (omega arith)) where
  several : (n : ℕ) → 1 < n → number_of n ≡ Several
  several zero less = absurd (omega (arith, less))
  several (suc zero) less = absurd (omega (arith, less))
  several (suc (suc n)) less = refl
both_number (suc (suc a)) b = sym (several (suc (suc a) + b) (omega arith)) where
  several : (n : ℕ) → 1 < n → number_of n ≡ Several
  several zero less = absurd (omega (arith, less))
  several (suc zero) less = absurd (omega (arith, less))
  several (suc (suc n)) less = refl

sum_both : (f : Element → ℕ) (xs ys : List Element) → sum (map f (xs ++ ys)) ≡ sum (map f xs) + sum (map f ys)
sum_both f xs ys =
    sum-map f (xs ++ ys) ∙ sum_by-append f xs ys ∙ ap (λ (k : ℕ). k + sum_by f ys) (sym (sum-map f xs)) ∙ ap (λ (k : ℕ). sum (map f xs) + k) (sym (sum-map f ys))

-- ---- elements

pub element_there : {X : Type 0} (xs : List X) (n : ℕ) → n < length xs → (x : X) × (slice_get xs n ≡ Some x)
element_there [] n less = absurd (omega (arith, less))
element_there (x ∷ xs) zero less = (x, refl)
element_there (x ∷ xs) (suc n) less = element_there xs n (omega (arith, less))

pub is_child : (doc : List Element) (p low : ℕ) (o : Option ℕ) → IsNextChild doc p low o → IsChildOf doc p o
is_child doc p low None next = tt
is_child doc p low (Some m) next = next.1

pub fewer_left : (doc : List Element) (p m : ℕ) (o : Option ℕ) → IsParent doc p m → IsNextChild doc p (suc m) o → left_from (length doc) o < left_from (length doc) (Some m)
fewer_left doc p m None is next = let less = in_range p [] doc m is in omega (arith, less)
fewer_left doc p m (Some k) is next = let less = in_range p [] doc m is in let behind = next.0 in omega (arith, less, behind)

-- ---- children

pub at_first : (doc : List Element) (p : ℕ) (name : List ℕ) (o : Option ℕ) → IsNextChild doc p 0 o → before doc p name o ≡ []
at_first doc p name None next = rest p name doc 0 (omega arith) next
at_first doc p name (Some m) next = gap p name doc 0 m (omega arith) next.2

one_more_child : (p : ℕ) (name : List ℕ) (doc : List Element) (child : ℕ) → IsParent doc p child
    → filter (is_child_of p name) (take (suc child) doc) ≡ filter (is_child_of p name) (take child doc) ++ named_child doc name child
one_more_child p name [] child is = absurd cc
one_more_child p name (e ∷ es) zero is = ap (λ (b : Bool). cond b (e ∷ []) []) (child_named p name e (bytes_eq e.name name) is refl)
one_more_child p name (e ∷ es) (suc child) is = by_first (is_child_of p name e) _ _ _ (one_more_child p name es child is) where
  by_first : (t : Bool) (xs ys zs : List Element) → xs ≡ ys ++ zs → cond t (e ∷ xs) xs ≡ cond t (e ∷ ys) ys ++ zs
  by_first true xs ys zs same = ap (λ (l : List Element). e ∷ l) same
  by_first false xs ys zs same = same

pub at_next : (doc : List Element) (p m : ℕ) (name : List ℕ) (o : Option ℕ) → IsParent doc p m → IsNextChild doc p (suc m) o
    → before doc p name o ≡ before doc p name (Some m) ++ named_child doc name m
at_next doc p m name None is next = let less = in_range p name doc m is in rest p name doc (suc m) (omega (arith, less)) next ∙ one_more_child p name doc m is
at_next doc p m name (Some k) is next = gap p name doc (suc m) k next.0 next.2 ∙ one_more_child p name doc m is

-- ---- what they count

-- The numbers of these and those are the number of all.
pub counts_on : (f : Element → ℕ) (all some one : List Element) (x y z : Number) → z ≡ together x y → all ≡ some ++ one → x ≡ number_of (sum (map f some)) → y ≡ number_of (sum (map f one))
    → z ≡ number_of (sum (map f all))
counts_on f all some one x y z is parts has more =
    is ∙ ap (λ (k : Number). together k y) has ∙ ap (together (number_of (sum (map f some)))) more ∙ both_number (sum (map f some)) (sum (map f one))
    ∙ ap number_of (sym (sum_both f some one)) ∙ ap (λ (l : List Element). number_of (sum (map f l))) (sym parts)

-- Nothing is the number of none alone.
pub nothing_is : (count : ℕ) → (Nothing ≡ number_of count) ↔ (count ≡ 0)
nothing_is zero = (λ is. refl, λ is. refl)
nothing_is (suc zero) = (λ is. absurd cc, λ is. absurd cc)
nothing_is (suc (suc count)) = (λ is. absurd cc, λ is. absurd cc)

-- The type of an element that there is.
pub typed_so : (doc : List Element) (n : ℕ) (kind : List ℕ) → n < length doc
    → bytes_eq (value_or_empty doc n (codes "xmi:type")) kind ≡ option_map_or (is_typed kind) (slice_get doc n) false
typed_so [] n kind less = absurd (omega (arith, less))
typed_so (e ∷ es) zero kind less = refl
typed_so (e ∷ es) (suc n) kind less = typed_so es n kind (omega (arith, less))
