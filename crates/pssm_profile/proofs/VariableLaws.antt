-- What makes a variable.
use Rattle.std.proofs.Common.{◌≡◌, ◌≢◌, ◌<◌, ◌↔◌, ◌⊎◌, ℕ, suc, Bool, true, false, List, [], ◌∷◌, ◌++◌, length, Option, Some, refl, sym, ap, subst, ◌∙◌, arith, inl, inr, ⊎_elim}
use Rattle.std.proofs.lemmas.List.Folds.{list_all-append}
use Rattle.std.specs.Prelude.{slice_get, option_map, bytes_eq, codes, IsTrue, ◌&&◌}
use Rattle.std.specs.List.{list_all}
use Rattle.std.specs.Option.{option_map_or, option_and_then}
use Rattle.pssm_xml.specs.Documents.{Element}
use Rattle.pssm_roles.specs.Ids.{meant_by}
use Rattle.pssm_roles.specs.Roles.{is_typed}
use Rattle.pssm_profile.specs.inner.Children.{named_child}
use Rattle.pssm_profile.specs.inner.Texts.{means_primitive}
use Rattle.pssm_profile.proofs.ChildLaws.{element_there}
use Rattle.pssm_profile.proofs.TextLaws.{named_so}

pub primitive_there : (doc : List Element) (id : List ℕ) (m : ℕ) → meant_by doc id ≡ Some m → m < length doc
    → option_map_or (is_typed (codes "uml:PrimitiveType")) (slice_get doc m) false ≡ means_primitive doc id
primitive_there doc id m means in_doc =
    let e = element_there doc m in_doc in
    ap (λ (o : Option Element). option_map_or (is_typed (codes "uml:PrimitiveType")) o false) e.1
    ∙ sym (ap (λ (o : Option ℕ). option_map_or (is_typed (codes "uml:PrimitiveType")) (option_and_then (slice_get doc) o) true) means
    ∙ ap (λ (o : Option Element). option_map_or (is_typed (codes "uml:PrimitiveType")) o true) e.1)

pub typed_child : (doc : List Element) (n : ℕ) (name type : List ℕ) → n < length doc → option_map (λ (x : Element). bytes_eq x.name name) (slice_get doc n) ≡ Some true
    → option_map_or (is_typed type) (slice_get doc n) false ≡ list_all (is_typed type) (named_child doc name n)
typed_child doc n name type in_doc called =
    let e = element_there doc n in_doc in
    ap (λ (o : Option Element). option_map_or (is_typed type) o false) e.1 ∙ one (is_typed type e.0) ∙ sym (ap (list_all (is_typed type)) (named_so doc n name e.0 true e.1 called)) where
      one : (t : Bool) → t ≡ (t && true)
      one true = refl
      one false = refl

pub other_child : (doc : List Element) (n : ℕ) (name type : List ℕ) → n < length doc → option_map (λ (x : Element). bytes_eq x.name name) (slice_get doc n) ≡ Some false
    → list_all (is_typed type) (named_child doc name n) ≡ true
other_child doc n name type in_doc called =
    let e = element_there doc n in_doc in ap (list_all (is_typed type)) (named_so doc n name e.0 false e.1 called)

-- One default alone is an integer where all are or there is not one.
pub one_default : (t : Element → Bool) (xs : List Element) → ((length xs ≢ 1) ⊎ IsTrue (list_all t xs)) ↔ ((e : Element) → xs ≡ e ∷ [] → IsTrue (t e))
one_default t [] = (λ either e is. absurd cc, λ all. inl (λ is. absurd cc))
one_default t (x ∷ []) = (λ either e is. there (t x) (t e) (same e is) either, λ all. inr (back (t x) (all x refl))) where
  same : (e : Element) → x ∷ [] ≡ e ∷ [] → t x ≡ t e
  same e is = let own : x ≡ e = cc in ap t own

  there : (a b : Bool) → a ≡ b → (length (x ∷ []) ≢ 1) ⊎ IsTrue (a && true) → IsTrue b
  there true b is either = subst IsTrue is refl
  there false b is either = ⊎_elim (λ not_one. absurd (not_one refl)) (λ no. absurd (let wrong : false ≡ true = no in cc)) either

  back : (a : Bool) → IsTrue a → IsTrue (a && true)
  back true so = refl
  back false so = so
one_default t (x ∷ y ∷ xs) = (λ either e is. absurd cc, λ all. inl (λ is. absurd (let more : suc (suc (length xs)) ≡ 1 = is in omega (arith, more))))

pub all_on : (t : Element → Bool) (all some one : List Element) (x y z : Bool) → z ≡ (x && y) → all ≡ some ++ one → x ≡ list_all t some → y ≡ list_all t one → z ≡ list_all t all
all_on t all some one x y z is parts has more =
    is ∙ ap (λ (k : Bool). k && y) has ∙ ap (λ (k : Bool). list_all t some && k) more ∙ sym (list_all-append t some one) ∙ ap (list_all t) (sym parts)
