-- In a document every element stands behind that in which it stands.
use Rattle.std.proofs.Common.{◌≡◌, ◌<◌, ◌+◌, ◌++◌, ℕ, zero, suc, true, false, ltb, List, [], ◌∷◌, length, Some, None, refl, sym, ap, ◌∙◌, arith}
use Rattle.std.specs.Prelude.{slice_get}
use Rattle.std.specs.Option.{option_and_then}
use Rattle.pssm_xml.specs.Documents.{Placed, Element, IsContent, IsRootElement, IsDocument}
use Rattle.pssm_xml.specs.Documents.IsContent.{nothing, aside, text, empty, nested}
use Rattle.pssm_xml.specs.Documents.IsRootElement.{empty as root_empty, nested as root_nested}
use Rattle.pssm_xml.specs.Elements.{IsParent}
use Rattle.pssm_xmi.specs.Faultless.{StandBehind}
use Rattle.pssm_xmi.proofs.Tests.{by_test}

-- These elements, which have numbers from this one on, stand behind those in which they stand.
abbrev FollowFrom : ℕ → List Element → Type 0
FollowFrom next es = (i p : ℕ) → IsParent es p i → p < next + i

within_first : {X : Type 0} (xs ys : List X) (i : ℕ) → i < length xs → slice_get (xs ++ ys) i ≡ slice_get xs i
within_first [] ys i less = absurd (omega (arith, less))
within_first (x ∷ xs) ys zero less = refl
within_first (x ∷ xs) ys (suc i) less = within_first xs ys i (omega (arith, less))

behind_first : {X : Type 0} (xs ys : List X) (i j : ℕ) → i ≡ length xs + j → slice_get (xs ++ ys) i ≡ slice_get ys j
behind_first [] ys i j is = ap (slice_get ys) (let e : i ≡ j = omega (arith, is) in e)
behind_first (x ∷ xs) ys zero j is = absurd (omega (arith, is))
behind_first (x ∷ xs) ys (suc i) j is = behind_first xs ys i j (omega (arith, is))

split : {X : Type 0} (xs : List X) (i : ℕ) → ltb i (length xs) ≡ false → (j : ℕ) × (i ≡ length xs + j)
split [] i e = (i, omega arith)
split (x ∷ xs) zero e = absurd (let wrong : ltb 0 (suc (length xs)) ≡ true = grind arith in let both = sym wrong ∙ e in cc)
split (x ∷ xs) (suc i) e = let more = split xs i (let less : ltb i (length xs) ≡ false = grind (arith, e) in less) in let at = more.1 in (more.0, omega (arith, at))

-- some, and others behind them
one_and_other : (next : ℕ) (xs ys : List Element) → FollowFrom next xs → FollowFrom (next + length xs) ys → FollowFrom next (xs ++ ys)
one_and_other next xs ys one other i p is =
    by_test (ltb i (length xs))
    (λ e. let less : i < length xs = grind (arith, e) in
    one i p (sym (ap (option_and_then (λ (x : Element). x.parent)) (within_first xs ys i less)) ∙ is))
    (λ e. let past = split xs i e in let at = past.1 in
    let far = other past.0 p (sym (ap (option_and_then (λ (x : Element). x.parent)) (behind_first xs ys i past.0 past.1)) ∙ is) in omega (arith, far, at))

-- one before others
one_before : (parent next : ℕ) (e : Element) (es : List Element) → parent < next → e.parent ≡ Some parent → FollowFrom (suc next) es → FollowFrom next (e ∷ es)
one_before parent next e es less is others zero p in_p =
    let at = sym is ∙ in_p in let same : parent ≡ p = cc in omega (arith, less, same)
one_before parent next e es less is others (suc i) p in_p = let far = others i p in_p in omega (arith, far)

follow : {parent next : ℕ} {ps : List Placed} {words : List ℕ} {es : List Element} → IsContent parent next ps words es → parent < next → FollowFrom next es
follow nothing less = λ i p is. absurd (cc)
follow (aside is more) less = follow more less
follow (text first is more) less = follow more less
follow {parent = parent} {next = next} (empty {es = es} is more) less =
    one_before parent next _ es less refl (follow more (omega (arith, less)))
follow {parent = parent} {next = next} (nested q {es = es} {inner_es = inner} starts within ends more) less =
    one_before parent next _ (inner ++ es) less refl
    (one_and_other (suc next) inner es (follow within (omega arith)) (follow more (omega (arith, less))))

-- the root before others
root_before : (e : Element) (es : List Element) → e.parent ≡ None → FollowFrom 1 es → FollowFrom 0 (e ∷ es)
root_before e es is others zero p in_p = let wrong = sym is ∙ in_p in absurd (cc)
root_before e es is others (suc i) p in_p = let far = others i p in_p in omega (arith, far)

root_follows : {ps : List Placed} {es : List Element} → IsRootElement ps es → FollowFrom 0 es
root_follows (root_empty is) = root_before _ [] refl (λ i p in_p. absurd (cc))
root_follows (root_nested q {es = es} starts within ends) = root_before _ es refl (follow within (omega arith))

pub stand_behind : (pieces : List Placed) (doc : List Element) → IsDocument pieces doc → StandBehind doc
stand_behind pieces doc is n p in_p = let far = root_follows is.root_is n p in_p in omega (arith, far)
