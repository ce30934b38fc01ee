-- Each element has one role.
use Rattle.std.proofs.Common.{◌≡◌, ◌∙◌, ℕ, List, Some, None, sym, ap, subst}
use Rattle.std.specs.Prelude.{slice_get}
use Rattle.std.proofs.lemmas.Option.{same_Some}
use Rattle.pssm_xml.specs.Documents.{Element}
use Rattle.pssm_roles.specs.declared.role.Role.{Role}
use Rattle.pssm_roles.specs.Roles.{HasRole, root_role, role_in}
use Rattle.pssm_roles.specs.Roles.HasRole.{root, child}

same_element : (doc : List Element) (n : ℕ) (e f : Element) → slice_get doc n ≡ Some e → slice_get doc n ≡ Some f → e ≡ f
same_element doc n e f at there = same_Some e f (sym at ∙ there)

pub same_role : {doc : List Element} {n : ℕ} {r s : Role} → HasRole doc n r → HasRole doc n s → r ≡ s
same_role {doc = doc} {n = n} (root {e = e} at none) (root {e = f} there top) = ap (λ (x : Element). root_role x.name) (same_element doc n e f at there)
same_role {doc = doc} {n = n} (root {e = e} at none) (child {parent = p} {e = f} there in_p above) =
    let e : None ≡ Some p = sym none ∙ ap (λ (x : Element). x.parent) (same_element doc n e f at there) ∙ in_p in absurd cc
same_role {doc = doc} {n = n} (child {parent = p} {e = e} at in_p above) (root {e = f} there top) =
    let e : Some p ≡ None = sym in_p ∙ ap (λ (x : Element). x.parent) (same_element doc n e f at there) ∙ top in absurd cc
same_role {doc = doc} {n = n} (child {parent = p} {e = e} {above = r} at in_p above) (child {parent = q} {e = f} {above = s} there in_q over) =
    let same = same_element doc n e f at there in
    let parents : p ≡ q = same_Some p q (sym in_p ∙ ap (λ (x : Element). x.parent) same ∙ in_q) in
    let roles : r ≡ s = same_role above (subst (λ (k : ℕ). HasRole doc k s) (sym parents) over) in
    ap (λ (x : Element). role_in doc r p n x) same ∙ ap (λ (k : ℕ). role_in doc r k n f) parents ∙ ap (λ (a : Role). role_in doc a q n f) roles
