-- No two of the signals that wait for an object have the same number.
use Rattle.std.proofs.Common.{◌≡◌, ◌<◌, ℕ, zero, suc, List, [], ◌∷◌, Option, Some, None, slice_get, refl, sym, ap, subst, ◌∙◌, arith}
use Rattle.std.specs.List.{AllByRecursion}
use Rattle.std.proofs.lemmas.Option.{get_or_from_slice_get}
use Rattle.pssm_semantics.specs.declared.entry.ObjectId.{ObjectId}
use Rattle.pssm_semantics.specs.declared.entry.Entry.{Entry}
use Rattle.pssm_semantics.specs.declared.setting.Setting.{Setting}
use Rattle.pssm_semantics.specs.declared.stimulus.Stimulus.{Stimulus}
use Rattle.pssm_pool.specs.declared.pools.Waiting.{Waiting}
use Rattle.pssm_pool.specs.Waits.{waiting_for}
use Rattle.pssm_system.specs.declared.situation.Situation.{Situation}
use Rattle.pssm_system.specs.inner.Pooling.{HaveOwnNumbers, numbered_for}
use Rattle.pssm_system.specs.inner.Keeping.{StandsSo}
use Rattle.pssm_system.proofs.Arriving.{Ascends, pool-ascends}

module _ (o : ObjectId) where
  above-at : (n : ℕ) (rest : List Waiting) (k : ℕ) (w : Waiting) → AllByRecursion (λ (v : ℕ × Stimulus). n < v.0) (numbered_for o rest) → slice_get rest k ≡ Some w
      → n < w.number
  above-at n [] k w all at = let none : None ≡ Some w = at in absurd (cc)
  above-at n (x ∷ rest) zero w all at = let one : x ≡ w = cc in subst (λ (v : Waiting). n < v.number) one all.0
  above-at n (x ∷ rest) (suc k) w all at = above-at n rest k w all.1 at

  ascending-own : (waiting : List Waiting) → Ascends (numbered_for o waiting) → HaveOwnNumbers waiting
  ascending-own [] all j k v w here there same = let none : None ≡ Some v = here in absurd (cc)
  ascending-own (x ∷ rest) all zero zero v w here there same = refl
  ascending-own (x ∷ rest) all zero (suc k) v w here there same =
      let one : x ≡ v = cc in
      let number : x.number ≡ v.number = ap (λ (y : Waiting). y.number) one in
      let above = above-at x.number rest k w all.0 there in
      absurd (omega (arith, number, same, above))
  ascending-own (x ∷ rest) all (suc j) zero v w here there same =
      let one : x ≡ w = cc in
      let number : x.number ≡ w.number = ap (λ (y : Waiting). y.number) one in
      let above = above-at x.number rest j v all.0 here in
      absurd (omega (arith, number, same, above))
  ascending-own (x ∷ rest) all (suc j) (suc k) v w here there same = ap suc (ascending-own rest all.1 j k v w here there same)

none-waiting : (pools : List (List Waiting)) (o : ObjectId) (n : ℕ) → slice_get pools n ≡ None → n ≡ o.0 → waiting_for pools o ≡ []
none-waiting pools o n none is = empty pools o.0 (subst (λ k. slice_get pools k ≡ None) is none)
  where
    empty : (ws : List (List Waiting)) (k : ℕ) → slice_get ws k ≡ None → waiting_for ws (record { 0 = k }) ≡ []
    empty [] k at = refl
    empty (w ∷ ws) zero at = let clash : Some w ≡ None = at in absurd (cc)
    empty (w ∷ ws) (suc k) at = empty ws k at

pub own-numbers : {setting : Setting} {J : List Entry} {s : Situation} → StandsSo setting J s → (o : ObjectId) → HaveOwnNumbers (waiting_for s.pools.waiting o)
own-numbers {J = J} {s = s} stands o = by (slice_get s.pools.waiting o.0) refl
  where
    by : (found : Option (List Waiting)) → slice_get s.pools.waiting o.0 ≡ found → HaveOwnNumbers (waiting_for s.pools.waiting o)
    by None none = subst HaveOwnNumbers (sym (none-waiting s.pools.waiting o o.0 none refl)) (λ j k v w here there same. let clash : None ≡ Some v = here in absurd (cc))
    by (Some waiting) some =
        subst HaveOwnNumbers (sym (get_or_from_slice_get s.pools.waiting o.0 waiting [] some))
        (ascending-own o waiting (subst (λ ws. Ascends ws) (stands.pools.each o waiting some) (pool-ascends J o)))
