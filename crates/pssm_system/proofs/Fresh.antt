-- What is kept of the journal without entries.
use Rattle.std.proofs.Common.{◌≡◌, ◌+◌, ◌++◌, ◌⊎◌, ℕ, zero, suc, List, [], ◌∷◌, length, replicate, Some, None, slice_get, inl, inr, refl, sym, ap, subst, ◌∙◌, ⊎_elim, arith, length-append}
use Rattle.std.proofs.lemmas.List.{length-replicate}
use Rattle.std.proofs.lemmas.List.Sums.{sum_by-cons}
use Rattle.pssm_semantics.specs.declared.entry.ObjectId.{ObjectId}
use Rattle.pssm_semantics.specs.declared.setting.Class.{Class}
use Rattle.pssm_semantics.specs.declared.setting.Setting.{Setting}
use Rattle.pssm_semantics.specs.Settings.{class_of}
use Rattle.pssm_object.specs.Standing.{Standing, StandsAfter}
use Rattle.pssm_pool.specs.declared.pools.Waiting.{Waiting}
use Rattle.pssm_pool.specs.Waits.{held_in}
use Rattle.pssm_system.specs.inner.Pooling.{numbered_for}
use Rattle.pssm_system.specs.inner.Keeping.{IsObject, AreObjects, ArePools}
use Rattle.pssm_system.proofs.Following.{one_class}

-- so many objects, each before its start
pub record AreFresh (setting : Setting) (n : ℕ) (objects : List Standing) : Type 0 where
  pub count : length objects ≡ n
  pub each : (o : ObjectId) (class : Class) (x : Standing) → class_of setting o ≡ Some class → slice_get objects o.0 ≡ Some x → IsObject class [] o x

-- what stands at a place of a list with one more element
push-cases : {X : Type 0} (xs : List X) (x y : X) (k : ℕ) → slice_get (xs ++ x ∷ []) k ≡ Some y → (slice_get xs k ≡ Some y) ⊎ ((k ≡ length xs) × (y ≡ x))
push-cases [] x y zero e = inr (refl, cc)
push-cases [] x y (suc k) e = let clash : None ≡ Some y = e in absurd (cc)
push-cases (z ∷ xs) x y zero e = inl e
push-cases (z ∷ xs) x y (suc k) e = elim (push-cases xs x y k e) [ inl was ↦ inl was | inr now ↦ inr ((let at = now.0 in omega arith), now.1) ]

pub fresh-none : (setting : Setting) → AreFresh setting 0 []
fresh-none setting = record { count = refl; each = λ o class x is at. let clash : None ≡ Some x = at in absurd (cc) }

pub fresh-more : (setting : Setting) (n : ℕ) (objects : List Standing) (class : Class) (x : Standing)
    → class_of setting (let o : ObjectId = record { 0 = n } in o) ≡ Some class → x.own ≡ record { 0 = n } → StandsAfter class [] x → AreFresh setting n objects
    → AreFresh setting (n + 1) (objects ++ x ∷ [])
fresh-more setting n objects class x is own stands h = record {
  count = let all = h.count in omega (arith, length-append objects (x ∷ []), all);
  each = λ o k y class_is at.
      ⊎_elim
      (λ was. h.each o k y class_is was)
      (λ now.
      let number : n ≡ o.0 = sym (now.0 ∙ h.count) in
      let same : (let p : ObjectId = record { 0 = n } in p) ≡ o = ap (λ i. let p : ObjectId = record { 0 = i } in p) number in
      let here : class ≡ k = one_class setting o class k (subst (λ p. class_of setting p ≡ Some class) same is) class_is in
      subst (λ z. IsObject k [] o z) (sym now.1)
      (record { own = own ∙ same; stands = subst (λ c. StandsAfter c [] x) here stands }))
      (push-cases objects x y o.0 at);
}

-- all objects of the setting
pub all-fresh : (setting : Setting) (n : ℕ) (objects : List Standing) → n ≡ length setting.objects → AreFresh setting n objects → AreObjects setting [] objects
all-fresh setting n objects all h = record { count = h.count ∙ all; each = h.each }

-- so many pools in which nothing waits
nothing-at : (n k : ℕ) (ws : List Waiting) → slice_get (replicate n []) k ≡ Some ws → ws ≡ []
nothing-at zero k ws at = let clash : None ≡ Some ws = at in absurd (cc)
nothing-at (suc n) zero ws at = let one : Some [] ≡ Some ws = at in cc
nothing-at (suc n) (suc k) ws at = nothing-at n k ws at

pub all-empty : (setting : Setting) (pools : List (List Waiting)) → pools ≡ replicate (length setting.objects) [] → ArePools setting [] pools
all-empty setting pools is = record {
  count = ap (λ (ws : List (List Waiting)). length ws) is ∙ length-replicate (length setting.objects) [];
  each = λ o ws at.
      sym (ap (numbered_for o) (nothing-at (length setting.objects) o.0 ws (subst (λ ps. slice_get ps o.0 ≡ Some ws) is at)));
}

none-held : (n : ℕ) → held_in (replicate n []) ≡ 0
none-held zero = refl
none-held (suc n) =
    let sum = sum_by-cons (λ (xs : List Waiting). length xs) [] (replicate n []) in let rest = none-held n in omega (arith, sum, rest)

pub nothing-held : (n : ℕ) (pools : List (List Waiting)) → pools ≡ replicate n [] → held_in pools ≡ 0
nothing-held n pools is = ap held_in is ∙ none-held n
