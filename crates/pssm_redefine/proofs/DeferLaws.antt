-- Signals ascending, each once.
use Rattle.std.proofs.Common.{◌≡◌, ℕ, List, get_or, sym, ap, subst}
use Rattle.std.specs.Prelude.{◌==◌, IsPermutation, IsSorted}
use Rattle.std.specs.List.{dedup}
use Rattle.std.specs.Ordering.{nat_cmp}
use Rattle.std.specs.Cmp.{unsigned_ties}
use Rattle.std.specs.declared.cmp.Ordering.TheVariants.{Less}
use Rattle.std.proofs.lemmas.Bool.{eqb-true}
use Rattle.std.proofs.lemmas.Cmp.{nat_cmp_total, on_total, on_equiv, nat_eq_equiv, ranked}
use Rattle.std.proofs.lemmas.Map.Keys.{Less-from_sorted}
use Rattle.std.proofs.lemmas.List.Kept.{Contains-dedup, Contains-from_dedup, IsStrictlySortedBy-dedup}
use Rattle.std.proofs.lemmas.List.Sorted.{Contains-permutation, IsPermutation-sym}
use Rattle.pssm_model.specs.declared.ids.SignalId.{SignalId}
use Rattle.pssm_redefine.specs.Merging.{AreUnited}

abbrev signal : ℕ → SignalId
signal n = record { 0 = n }

pub united_from : (all sorted out : List SignalId) → IsPermutation all sorted → IsSorted (λ (a b : SignalId). nat_cmp a.0 b.0) sorted
    → out ≡ dedup (λ (a b : SignalId). a.0 == b.0) sorted → AreUnited all out
united_from all sorted out moved up is =
    subst (AreUnited all) (sym is) (record {
      same = λ g. (
        λ c. Contains-permutation sorted all g (IsPermutation-sym all sorted moved) (Contains-from_dedup (λ (a b : SignalId). a.0 == b.0) sorted g c),
        λ c. Contains-dedup (on_equiv (λ (s : SignalId). s.0) nat_eq_equiv) (λ x y e. ap signal (eqb-true x.0 y.0 e)) sorted g (Contains-permutation all sorted g moved c),
      );
      ascending = λ i j d lt within. ranked (get_or (dedup (λ (a b : SignalId). a.0 == b.0) sorted) i d).0 (get_or (dedup (λ (a b : SignalId). a.0 == b.0) sorted) j d).0 Less
          (sym (Less-from_sorted (λ (a b : SignalId). nat_cmp a.0 b.0) (dedup (λ (a b : SignalId). a.0 == b.0) sorted) i j d
          (IsStrictlySortedBy-dedup (on_total (λ (s : SignalId). s.0) nat_cmp_total) (λ x y. unsigned_ties x.0 y.0) sorted up) lt within));
    })
