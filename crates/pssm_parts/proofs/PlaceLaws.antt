-- Bodies, passed one after another until the one that is sought.
use Rattle.std.proofs.Common.{◌≡◌, ◌<◌, ◌≤◌, ◌+◌, ℕ, zero, suc, Bool, true, false, cond, List, [], ◌∷◌, map, length, take, filter, Option, Some, None, refl, sym, ap, ◌∙◌, arith, length-append}
use Rattle.std.specs.Prelude.{slice_get, option_map, option_and_then, bytes_eq, codes, if◌then◌else◌}
use Rattle.std.proofs.lemmas.Option.{same_Some}
use Rattle.pssm_xml.specs.Documents.{Element}
use Rattle.pssm_xml.specs.Elements.{HasText, IsNextChild, children, is_child_of}
use Rattle.pssm_profile.specs.inner.Children.{before, named_child}
use Rattle.pssm_profile.specs.inner.Texts.{own_text}
use Rattle.pssm_profile.proofs.CountingLaws.{in_range, child_named}
use Rattle.pssm_profile.proofs.ChildLaws.{element_there, is_child, at_first, at_next}
use Rattle.pssm_profile.proofs.TextLaws.{one_body, no_body}
use Rattle.pssm_parts.specs.inner.Children.{HasPassed}

-- A child stands, among those of its name, behind those before it.
stands_behind : (test : Element → Bool) (doc : List Element) (m : ℕ) (e : Element) → slice_get doc m ≡ Some e → test e ≡ true → slice_get (filter test doc) (length (filter test (take m doc))) ≡ Some e
stands_behind test [] m e at passes = absurd cc
stands_behind test (x ∷ xs) zero e at passes =
    let same : x ≡ e = same_Some x e at in
    ap (λ (b : Bool). slice_get (cond b (x ∷ filter test xs) (filter test xs)) 0) (ap test same ∙ passes) ∙ at
stands_behind test (x ∷ xs) (suc m) e at passes = by_first (test x) (stands_behind test xs m e at passes) where
  by_first : (t : Bool) → slice_get (filter test xs) (length (filter test (take m xs))) ≡ Some e
      → slice_get (cond t (x ∷ filter test xs) (filter test xs)) (length (cond t (x ∷ filter test (take m xs)) (filter test (take m xs)))) ≡ Some e
  by_first true more = more
  by_first false more = more

text_at : (es : List Element) (k : ℕ) (e : Element) → slice_get es k ≡ Some e → slice_get (map own_text es) k ≡ Some e.text
text_at [] k e at = absurd cc
text_at (x ∷ xs) zero e at = ap (λ (y : Element). Some y.text) (same_Some x e at)
text_at (x ∷ xs) (suc k) e at = text_at xs k e at

nothing_at : (es : List Element) (k : ℕ) → length es ≤ k → slice_get (map own_text es) k ≡ None
nothing_at [] k le = refl
nothing_at (x ∷ xs) zero le = absurd (omega (arith, le))
nothing_at (x ∷ xs) (suc k) le = nothing_at xs k (omega (arith, le))

module _ (doc : List Element) (p place : ℕ) where
  pub passed_first : (o : Option ℕ) → IsNextChild doc p 0 o → HasPassed doc p place o 0
  passed_first o next = record { child = is_child doc p 0 o next; passed = ap length (at_first doc p (codes "body") o next); within = omega arith }

  -- The body is found.
  pub found_at : (m seen : ℕ) (text : List ℕ) → HasPassed doc p place (Some m) seen → option_map (λ (x : Element). bytes_eq x.name (codes "body")) (slice_get doc m) ≡ Some true → seen ≡ place → HasText doc m text
      → Some text ≡ slice_get (map own_text (children doc p (codes "body"))) place
  found_at m seen text passed called same has =
      let e = element_there doc m (in_range p (codes "body") doc m passed.child) in
      let named : bytes_eq e.0.name (codes "body") ≡ true = same_Some (bytes_eq e.0.name (codes "body")) true (sym (ap (option_map (λ (x : Element). bytes_eq x.name (codes "body"))) e.1) ∙ called) in
      let own : e.0.text ≡ text = same_Some e.0.text text (sym (ap (option_map (λ (x : Element). x.text)) e.1) ∙ has) in
      let parent : e.0.parent ≡ Some p = sym (ap (option_and_then (λ (x : Element). x.parent)) e.1) ∙ passed.child in
      let test = child_named p (codes "body") e.0 true parent named in
      let at = stands_behind (is_child_of p (codes "body")) doc m e.0 e.1 test in
      sym (ap (λ (k : ℕ). slice_get (map own_text (children doc p (codes "body"))) k) (sym (passed.passed ∙ same))
      ∙ text_at (children doc p (codes "body")) (length (before doc p (codes "body") (Some m))) e.0 at ∙ ap (λ (t : List ℕ). Some t) own)

  -- There is no such body.
  pub none_at : (seen : ℕ) → HasPassed doc p place None seen → None ≡ slice_get (map own_text (children doc p (codes "body"))) place
  none_at seen passed =
      let same = passed.passed in let le = passed.within in
      sym (nothing_at (children doc p (codes "body")) place (omega (arith, same, le)))

  -- One child more is passed.
  pub passed_next : (m seen : ℕ) (o : Option ℕ) (called : Bool) → HasPassed doc p place (Some m) seen → option_map (λ (x : Element). bytes_eq x.name (codes "body")) (slice_get doc m) ≡ Some called
      → (called ≡ true → seen ≡ place → ⊥) → IsNextChild doc p (suc m) o → HasPassed doc p place o (seen + (if called then 1 else 0))
  passed_next m seen o called passed named other next = by_call called named other where
    here : m < length doc
    here = in_range p (codes "body") doc m passed.child

    longer : length (before doc p (codes "body") o) ≡ length (before doc p (codes "body") (Some m)) + length (named_child doc (codes "body") m)
    longer = ap length (at_next doc p m (codes "body") o passed.child next) ∙ length-append (before doc p (codes "body") (Some m)) (named_child doc (codes "body") m)

    by_call : (t : Bool) → option_map (λ (x : Element). bytes_eq x.name (codes "body")) (slice_get doc m) ≡ Some t → (t ≡ true → seen ≡ place → ⊥) → HasPassed doc p place o (seen + (if t then 1 else 0))
    by_call true so other =
        let one = one_body doc m (codes "body") here so in let same = passed.passed in let le = passed.within in let long = longer in
        record { child = is_child doc p (suc m) o next; passed = omega (arith, one, same, long); within = by_place refl }
      where
        by_place : seen ≡ seen → seen + 1 ≤ place
        by_place is = let le = passed.within in let not = other refl in omega (arith, le, not)
    by_call false so other =
        let none = no_body doc m (codes "body") here so in let same = passed.passed in let le = passed.within in let long = longer in
        record { child = is_child doc p (suc m) o next; passed = omega (arith, none, same, long); within = omega (arith, le) }
