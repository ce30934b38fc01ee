-- What the whole file says of elements, asked by their numbers.
use Rattle.std.proofs.Common.{◌≡◌, ◌<◌, ◌+◌, ℕ, Bool, true, false, ◌||◌, List, length, map, drop, get_or, Option, Some, None, IfSome, refl, sym, ap, subst, ◌∙◌, arith}
use Rattle.std.specs.Prelude.{slice_get, option_map}
use Rattle.std.specs.List.{list_any}
use Rattle.std.proofs.Math.Seq.{drop-cons}
use Rattle.std.proofs.Math.Numerals.{add-one}
use Rattle.std.proofs.lemmas.Iterator.Adapters.{position_from-zero}
use Rattle.std.proofs.lemmas.Option.{same_Some, slice_get-get_or}
use Rattle.pssm_xml.specs.Documents.{Element}
use Rattle.pssm_xml.specs.Elements.{HasParent, IsNamed}
use Rattle.pssm_roles.specs.Ids.{has_id, meant_by}
use Rattle.pssm_roles.specs.Roles.{HasRole, root_role, role_in}
use Rattle.pssm_roles.specs.Roles.HasRole.{root, child}
use Rattle.pssm_roles.specs.inner.Asked.{Gives, AreFirst}
use Rattle.pssm_roles.specs.inner.Seen.{seen}
use Rattle.pssm_roles.specs.declared.references.Reference.{Reference}
use Rattle.pssm_roles.specs.declared.role.Role.{Role}
use Rattle.pssm_roles.proofs.IdLaws.{found_from, element_there}
use Rattle.pssm_roles.proofs.ReferenceLaws.{within}

-- An id means one of the elements.
pub meant_within : (doc : List Element) (id : List ℕ) (o : Option ℕ) → o ≡ meant_by doc id → IfSome o (λ m. m < length doc)
meant_within doc id None is = tt
meant_within doc id (Some m) is =
    let found = found_from (has_id id) 0 doc m (sym (position_from-zero (has_id id) doc) ∙ sym is) in
    let there = within doc found.0 found.1 found.3 in let same = found.2 in omega (arith, there, same)

-- ---- references

-- one reference and those behind it
any_split : (p : ℕ × List ℕ → Bool) (found : List Reference) (i : ℕ) (d : Reference) → i < length found
    → list_any p (map seen (drop i found)) ≡ (p (seen (get_or found i d)) || list_any p (map seen (drop (i + 1) found)))
any_split p found i d in_found =
    ap (λ (rs : List Reference). list_any p (map seen rs)) (drop-cons found i d in_found)
    ∙ ap (λ (k : ℕ). p (seen (get_or found i d)) || list_any p (map seen (drop k found))) (sym (add-one i))

-- A reference passes, or those behind it are still to be asked.
pub any_here : (p : ℕ × List ℕ → Bool) (found : List Reference) (i : ℕ) (d : Reference) → i < length found → p (seen (get_or found i d)) ≡ true
    → list_any p (map seen found) ≡ list_any p (map seen (drop i found)) → true ≡ list_any p (map seen found)
any_here p found i d in_found passes so =
    sym (so ∙ any_split p found i d in_found ∙ ap (λ (b : Bool). b || list_any p (map seen (drop (i + 1) found))) passes)

pub any_further : (p : ℕ × List ℕ → Bool) (found : List Reference) (i : ℕ) (d : Reference) → i < length found → p (seen (get_or found i d)) ≡ false
    → list_any p (map seen found) ≡ list_any p (map seen (drop i found)) → list_any p (map seen found) ≡ list_any p (map seen (drop (i + 1) found))
any_further p found i d in_found fails so =
    so ∙ any_split p found i d in_found ∙ ap (λ (b : Bool). b || list_any p (map seen (drop (i + 1) found))) fails

-- ---- roles

pub root_has : (doc : List Element) (n : ℕ) (name : List ℕ) (r : Role) → n < length doc → HasParent doc n None → IsNamed doc n name → r ≡ root_role name → HasRole doc n r
root_has doc n name r in_doc parent named is =
    let e = element_there doc n in_doc in
    let top : e.0.parent ≡ None = same_Some e.0.parent None (sym (ap (option_map (λ (x : Element). x.parent)) e.1) ∙ parent) in
    let same : e.0.name ≡ name = same_Some e.0.name name (sym (ap (option_map (λ (x : Element). x.name)) e.1) ∙ named) in
    subst (HasRole doc n) (ap root_role same ∙ sym is) (root e.1 top)

pub child_has : (doc : List Element) (n parent : ℕ) (above r : Role) → n < length doc → HasParent doc n (Some parent) → HasRole doc parent above
    → Gives doc n (role_in doc above parent n) r → HasRole doc n r
child_has doc n parent above r in_doc stands over gives =
    let e = element_there doc n in_doc in
    let up : e.0.parent ≡ Some parent = same_Some e.0.parent (Some parent) (sym (ap (option_map (λ (x : Element). x.parent)) e.1) ∙ stands) in
    subst (HasRole doc n) (sym (gives e.0 e.1)) (child e.1 up over)

-- The role of an element before this one is known.
pub first_has : (doc : List Element) (n k : ℕ) (roles : List Role) (d : Role) → AreFirst doc n roles → k < n → HasRole doc k (get_or roles k d)
first_has doc n k roles d first before =
    let counted = first.counted in first.roles_are k (get_or roles k d) (slice_get-get_or roles k d (omega (arith, before, counted)))

-- The root has a role, and so has a child of an element that has one.
pub some_root : (doc : List Element) (n : ℕ) → n < length doc → HasParent doc n None → (r : Role) × HasRole doc n r
some_root doc n in_doc parent =
    let e = element_there doc n in_doc in
    (root_role e.0.name, root_has doc n e.0.name (root_role e.0.name) in_doc parent (ap (option_map (λ (x : Element). x.name)) e.1) refl)

pub some_child : (doc : List Element) (n parent : ℕ) (above : Role) → n < length doc → HasParent doc n (Some parent) → HasRole doc parent above → (r : Role) × HasRole doc n r
some_child doc n parent above in_doc stands over =
    let e = element_there doc n in_doc in
    let same = λ (x : Element) (at : slice_get doc n ≡ Some x). ap (role_in doc above parent n) (same_Some e.0 x (sym e.1 ∙ at)) in
    (role_in doc above parent n e.0, child_has doc n parent above (role_in doc above parent n e.0) in_doc stands over same)
