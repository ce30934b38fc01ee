-- How many references an element has, and how many are counted.
use Rattle.std.proofs.Common.{◌≡◌, ◌≤◌, ◌+◌, ◌==◌, ◌&&◌, ◌++◌, ℕ, suc, Bool, true, false, cond, List, [], ◌∷◌, length, map, filter, Some, refl, sym, ap, subst, ◌∙◌, arith, length-append}
use Rattle.std.specs.Prelude.{slice_get, sum, codes, if◌then◌else◌}
use Rattle.std.proofs.lemmas.List.{length-map}
use Rattle.std.proofs.lemmas.List.Sums.{sum-map, sum_by-cons}
use Rattle.pssm_xml.specs.Documents.{Element}
use Rattle.pssm_xml.specs.Elements.{is_child_of, value_or_empty}
use Rattle.pssm_values.specs.Ids.{ids_in}
use Rattle.pssm_roles.specs.References.{refers_at, own_value, of_children, references}
use Rattle.pssm_roles.specs.Roles.{has_attribute}
use Rattle.pssm_profile.specs.Counts.{referred, references_count, held}
use Rattle.pssm_xmi.proofs.Tests.{by_test}

-- the ids that a child holds
abbrev ids_of : Element → List (List ℕ)
ids_of e = ids_in (own_value (codes "xmi:idref") e)

at_least : (b : Bool) (ids : ℕ) → ids ≤ (if b && (ids == 0) then 1 else ids)
at_least false ids = omega arith
at_least true ids =
    by_test (ids == 0)
    (λ e. subst (λ (b : Bool). ids ≤ (if b then 1 else ids)) (sym e) (let is : ids ≡ 0 = grind (arith, e) in omega (arith, is)))
    (λ e. subst (λ (b : Bool). ids ≤ (if b then 1 else ids)) (sym e) (omega arith))

next_sum : (f : Element → ℕ) (e : Element) (es : List Element) → sum (map f (e ∷ es)) ≡ f e + sum (map f es)
next_sum f e es = sum-map f (e ∷ es) ∙ sum_by-cons f e es ∙ ap (λ (k : ℕ). f e + k) (sym (sum-map f es))

one_child : (k : ℕ) (e : Element) (rest : List (ℕ × List ℕ)) → length (refers_at k (ids_of e) ++ rest) ≡ length (ids_of e) + length rest
one_child k e rest =
    length-append (refers_at k (ids_of e)) rest ∙ ap (λ (x : ℕ). x + length rest) (length-map (ids_of e) (λ (id : List ℕ). (k, id)))

module _ (p : ℕ) (name : List ℕ) where
  -- No child has more than are counted.
  of_children_at_most : (k : ℕ) (es : List Element) → length (of_children p name k es) ≤ sum (map referred (filter (is_child_of p name) es))
  of_children_at_most k [] = omega arith
  of_children_at_most k (e ∷ es) = by_child (is_child_of p name e) (of_children_at_most (suc k) es) where
    by_child : (b : Bool) → length (of_children p name (suc k) es) ≤ sum (map referred (filter (is_child_of p name) es))
        → length ((if b then refers_at k (ids_of e) else []) ++ of_children p name (suc k) es)
        ≤ sum (map referred (cond b (e ∷ filter (is_child_of p name) es) (filter (is_child_of p name) es)))
    by_child true le =
        let here = one_child k e (of_children p name (suc k) es) in
        let least : length (ids_of e) ≤ referred e = at_least (has_attribute (codes "href") e) (length (ids_of e)) in
        let sums = next_sum referred e (filter (is_child_of p name) es) in omega (arith, here, least, sums, le)
    by_child false le = le

  -- Where none refers to another file, each has as many.
  of_children_as_many : (k : ℕ) (es : List Element)
      → ((i : ℕ) (e : Element) → slice_get es i ≡ Some e → is_child_of p name e ≡ true → has_attribute (codes "href") e ≡ false)
      → length (of_children p name k es) ≡ sum (map referred (filter (is_child_of p name) es))
  of_children_as_many k [] plain = refl
  of_children_as_many k (e ∷ es) plain =
      by_child (is_child_of p name e) (plain 0 e refl) (of_children_as_many (suc k) es (λ i x at. plain (suc i) x at)) where
        by_child : (b : Bool) → (b ≡ true → has_attribute (codes "href") e ≡ false)
            → length (of_children p name (suc k) es) ≡ sum (map referred (filter (is_child_of p name) es))
            → length ((if b then refers_at k (ids_of e) else []) ++ of_children p name (suc k) es)
            ≡ sum (map referred (cond b (e ∷ filter (is_child_of p name) es) (filter (is_child_of p name) es)))
        by_child true none same =
            let here = one_child k e (of_children p name (suc k) es) in
            let counted : referred e ≡ length (ids_of e) = ap (λ (b : Bool). if b && (length (ids_of e) == 0) then 1 else length (ids_of e)) (none refl) in
            let sums = next_sum referred e (filter (is_child_of p name) es) in omega (arith, here, counted, sums, same)
        by_child false none same = same

module _ (doc : List Element) (n : ℕ) (name : List ℕ) where
  own_and_children : length (references doc n name) ≡ held doc n name + length (of_children n name 0 doc)
  own_and_children =
      length-append (refers_at n (ids_in (value_or_empty doc n name))) (of_children n name 0 doc)
      ∙ ap (λ (x : ℕ). x + length (of_children n name 0 doc)) (length-map (ids_in (value_or_empty doc n name)) (λ (id : List ℕ). (n, id)))

  -- An element has no more references than are counted.
  pub no_more_references : length (references doc n name) ≤ references_count doc n name
  no_more_references = let own = own_and_children in let le = of_children_at_most n name 0 doc in omega (arith, own, le)

  pub as_many_references : ((i : ℕ) (e : Element) → slice_get doc i ≡ Some e → is_child_of n name e ≡ true → has_attribute (codes "href") e ≡ false)
      → length (references doc n name) ≡ references_count doc n name
  as_many_references plain = let own = own_and_children in let same = of_children_as_many n name 0 doc plain in omega (arith, own, same)
