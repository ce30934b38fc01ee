-- Transitions that are sorted by number, each left once, ascend.
use Rattle.std.proofs.Common.{◌≡◌, ◌↔◌, ◌<◌, ℕ, Bor, List, [], Bool, Contains, sym, get_or, subst, eqb}
use Rattle.std.specs.Cmp.{IsTotalOrder, IsEquivalence, unsigned_ties, ranks}
use Rattle.std.specs.Fn.{Mut, Called, ComputesKey}
use Rattle.std.specs.List.{dedup}
use Rattle.std.specs.List.Sorted.{IsSortedByKey, IsPermutation}
use Rattle.std.specs.List.Retain.{IsFiltered, DiffersFromLast}
use Rattle.std.specs.Ordering.{nat_cmp, MatchOrdering}
use Rattle.std.proofs.lemmas.Bool.{eqb-true}
use Rattle.std.proofs.lemmas.Cmp.{nat_cmp_total, nat_eq_equiv}
use Rattle.std.proofs.lemmas.Fn.{always_returns_same}
use Rattle.std.proofs.lemmas.List.Kept.{IsStrictlySortedBy-dedup, Contains-dedup, Contains-from_dedup}
use Rattle.std.proofs.lemmas.List.Filters.{dedup_is}
use Rattle.std.proofs.lemmas.List.Sorted.{Contains-permutation, IsPermutation-sym}
use Rattle.std.proofs.lemmas.Map.Keys.{Less-from_sorted}
use Rattle.pssm_model.specs.declared.ids.TransId.{TransId}
use Rattle.pssm_model.proofs.ElementLaws.{same_transition}
use Rattle.pssm_model.specs.Routes.{IsAscending}

abbrev pub same_number : TransId → TransId → Bool
same_number t u = eqb t.0 u.0

by_number : IsTotalOrder (λ (t u : TransId). nat_cmp t.0 u.0)
by_number = record {
  antisymm = λ t u. nat_cmp_total.antisymm t.0 u.0;
  trans = λ t u w. nat_cmp_total.trans t.0 u.0 w.0;
  congr = λ t u w. nat_cmp_total.congr t.0 u.0 w.0;
}

numbers_equal : IsEquivalence same_number
numbers_equal = record {
  refl = λ t. nat_eq_equiv.refl t.0;
  symm = λ t u. nat_eq_equiv.symm t.0 u.0;
  congr = λ t u w. nat_eq_equiv.congr t.0 u.0 w.0;
}

pub once_same : (ts : List TransId) (u : TransId) → Contains (dedup same_number ts) u ↔ Contains ts u
once_same ts u = (
  Contains-from_dedup same_number ts u,
  Contains-dedup numbers_equal (λ t w e. same_transition t w (eqb-true t.0 w.0 e)) ts u,
)

pub once_ascends : (ts : List TransId) → IsSortedByKey (λ (t : TransId). t.0) nat_cmp ts → IsAscending (dedup same_number ts)
once_ascends ts sorted i j d before inside =
    let once = dedup same_number ts in
    let strict = IsStrictlySortedBy-dedup by_number (λ (t u : TransId). unsigned_ties t.0 u.0) ts sorted in
    let less = Less-from_sorted (λ (t u : TransId). nat_cmp t.0 u.0) once i j d strict before inside in
    let t = get_or once i d in
    let u = get_or once j d in
    subst (λ r. MatchOrdering r (t.0 < u.0) (t.0 ≡ u.0) (u.0 < t.0)) less (ranks t.0 u.0)

-- what a sort and the removal of those that repeat the one before leave
pub put_ascends : {F : Type 0} {g : Mut F (Bor TransId × Unit {0}) ℕ} {f : F} (sorted after : List TransId)
    → ((key : TransId → ℕ) → ComputesKey g key f → IsSortedByKey key nat_cmp sorted)
    → ((a : Bor TransId × Unit {0}) (r : ℕ) (next : F) → Called g f a r next → (r ≡ a.0.now.0) × (next ≡ f))
    → IsFiltered (DiffersFromLast same_number) [] sorted after → IsAscending after
put_ascends {g = g} {f = f} sorted after order calls left =
    let by : IsSortedByKey (λ (t : TransId). t.0) nat_cmp sorted = order (λ t. t.0) (always_returns_same g (λ a r. r ≡ a.0.now.0) f calls) in
    subst IsAscending (sym (dedup_is same_number sorted after left)) (once_ascends sorted by)

pub put_keeps : (before sorted after : List TransId) → IsPermutation before sorted → IsFiltered (DiffersFromLast same_number) [] sorted after
    → (u : TransId) → Contains after u ↔ Contains before u
put_keeps before sorted after moved left u =
    let once = once_same sorted u in
    let same = dedup_is same_number sorted after left in (
      λ inside. Contains-permutation sorted before u (IsPermutation-sym before sorted moved) (once.0 (subst (λ ts. Contains ts u) same inside)),
      λ inside. subst (λ ts. Contains ts u) (sym same) (once.1 (Contains-permutation before sorted u moved inside)),
    )
