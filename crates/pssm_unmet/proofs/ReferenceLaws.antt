-- The references of an element, one after another, and the elements at which they stand.
use Rattle.std.proofs.Common.{◌≡◌, ◌<◌, ◌+◌, ℕ, zero, suc, Bool, true, false, cond, List, [], ◌∷◌, ◌++◌, length, map, take, slice_index_or, refl, ap, ◌∙◌, subst, arith}
use Rattle.std.specs.Prelude.{fold, codes, Contains}
use Rattle.pssm_xml.specs.Documents.{Element}
use Rattle.pssm_xml.specs.Elements.{is_child_of, value_or_empty}
use Rattle.pssm_values.specs.Ids.{ids_in}
use Rattle.pssm_roles.specs.References.{refers_at, own_value, of_children, references}
use Rattle.pssm_roles.specs.declared.references.Reference.{Reference}
use Rattle.pssm_roles.specs.inner.Seen.{seen}

-- ---- one more

fold_next : {A X Y : Type 0} (f : A → Y → A) (g : X → Y) (a : A) (xs : List X) (k : ℕ) (d : X) → k < length xs
    → fold f a (map g (take (suc k) xs)) ≡ f (fold f a (map g (take k xs))) (g (slice_index_or xs k d))
fold_next f g a [] k d less = absurd (omega (arith, less))
fold_next f g a (x ∷ xs) zero d less = refl
fold_next f g a (x ∷ xs) (suc k) d less = fold_next f g (f a (g x)) xs k d (omega (arith, less))

pub fold_more : {A X Y : Type 0} (f : A → Y → A) (g : X → Y) (a : A) (xs : List X) (k : ℕ) (d : X) → k < length xs
    → fold f a (map g (take (k + 1) xs)) ≡ f (fold f a (map g (take k xs))) (g (slice_index_or xs k d))
fold_more f g a xs k d less = ap (λ (n : ℕ). fold f a (map g (take n xs))) (let e : k + 1 ≡ suc k = omega arith in e) ∙ fold_next f g a xs k d less

-- ---- where they stand

-- Each stands at one of so many elements.
abbrev pub StandIn : ℕ → List (ℕ × List ℕ) → Type 0
StandIn len [] = Unit {0}
StandIn len (r ∷ more) = (r.0 < len) × StandIn len more

both : (len : ℕ) (xs ys : List (ℕ × List ℕ)) → StandIn len xs → StandIn len ys → StandIn len (xs ++ ys)
both len [] ys one other = other
both len (x ∷ xs) ys one other = (one.0, both len xs ys one.1 other)

at_one : (len at : ℕ) (ids : List (List ℕ)) → at < len → StandIn len (refers_at at ids)
at_one len at [] less = tt
at_one len at (id ∷ ids) less = (less, at_one len at ids less)

at_children : (len p : ℕ) (name : List ℕ) (n : ℕ) (es : List Element) → n + length es ≡ len → StandIn len (of_children p name n es)
at_children len p name n [] is = tt
at_children len p name n (e ∷ es) is =
    both len (cond (is_child_of p name e) (refers_at n own) []) (of_children p name (suc n) es) (at_child (is_child_of p name e))
    (at_children len p name (suc n) es (omega (arith, is)))
  where
    own : List (List ℕ)
    own = ids_in (own_value (codes "xmi:idref") e)

    at_child : (t : Bool) → StandIn len (cond t (refers_at n own) [])
    at_child true = at_one len n own (omega (arith, is))
    at_child false = tt

pub stand_in : (doc : List Element) (n : ℕ) (name : List ℕ) → n < length doc → StandIn (length doc) (references doc n name)
stand_in doc n name less =
    both (length doc) (refers_at n (ids_in (value_or_empty doc n name))) (of_children n name 0 doc)
    (at_one (length doc) n (ids_in (value_or_empty doc n name)) less) (at_children (length doc) n name 0 doc (omega arith))

pub one_stands : (len : ℕ) (rs : List Reference) (k : ℕ) (d : Reference) → k < length rs → StandIn len (map seen rs) → (slice_index_or rs k d).at < len
one_stands len [] k d less all = absurd (omega (arith, less))
one_stands len (r ∷ rs) zero d less all = all.0
one_stands len (r ∷ rs) (suc k) d less all = one_stands len rs k d (omega (arith, less)) all.1

pub among_stands : (len : ℕ) (rs : List (ℕ × List ℕ)) (r : ℕ × List ℕ) → Contains rs r → StandIn len rs → r.0 < len
among_stands len [] r (k, less, is) all = absurd (omega (arith, less))
among_stands len (x ∷ rs) r (zero, less, is) all = subst (λ (q : ℕ × List ℕ). q.0 < len) is all.0
among_stands len (x ∷ rs) r (suc k, less, is) all = among_stands len rs r (k, omega (arith, less), is) all.1
