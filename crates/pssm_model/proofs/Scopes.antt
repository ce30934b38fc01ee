-- The innermost region in which all vertices of a list lie, one vertex after another.
use Rattle.std.proofs.Common.{◌≡◌, ◌⊎◌, ◌+◌, ◌<◌, ◌≤◌, ℕ, List, length, get_or, sym, subst, inl, inr, ⊎_elim, arith, Contains, below_more, ◌∙◌}
use Rattle.std.proofs.lemmas.List.{get_or_default}
use Rattle.pssm_model.specs.declared.ids.VertexId.{VertexId}
use Rattle.pssm_model.specs.declared.ids.RegionId.{RegionId}
use Rattle.pssm_model.specs.declared.elements.DraftMachine.{DraftMachine}
use Rattle.pssm_model.specs.declared.elements.Owner.TheVariants.{Region, State}
use Rattle.pssm_model.specs.declared.elements.Owner.{Owner}
use Rattle.pssm_model.specs.Forest.{LiesUnder, LiesInRegion, IsScope, HasRegionsAbove, IsWithin, IsHome}
use Rattle.pssm_model.specs.Forest.LiesUnder.{owned, further}
use Rattle.pssm_model.specs.inner.Tables.{AreWithin, IsMeet, Encloses, IsInnermost}
use Rattle.pssm_model.proofs.OwnerChains.{under_further, circle_is_endless}
use Rattle.pssm_model.proofs.Nesting.{lies_within, region_cases, under_cases}

module _ (m : DraftMachine) (list : List VertexId) where
  at_default : (k : ℕ) (v d : VertexId) (r : RegionId) → k < length list → v ≡ get_or list k v → LiesInRegion m v r → LiesInRegion m (get_or list k d) r
  at_default k v d r lt here lies = subst (λ x. LiesInRegion m x r) (here ∙ get_or_default list k v d lt) lies

  fewer : (count : ℕ) (r : RegionId) → Encloses m list (count + 1) r → Encloses m list count r
  fewer count r e = record { first = e.first; few = λ k d lt. e.few k d (omega arith) }

  -- one vertex more
  pub innermost_more : (count : ℕ) (v : VertexId) (common home meet : RegionId) → count < length list → v ≡ get_or list count v
      → IsInnermost m list count common → IsHome m v home → IsMeet m common home meet → IsInnermost m list (count + 1) meet
  innermost_more count v common home meet lt here h at both = record {
    encloses = record {
      first = λ d. lies_within m (get_or list 0 d) common meet (h.encloses.first d) both.common.0;
      few = λ k d. below_more
          (λ j. LiesInRegion m (get_or list j d) meet)
          count
          (λ j below. lies_within m (get_or list j d) common meet (h.encloses.few j d below) both.common.0)
          (at_default count v d meet lt here (lies_within m v home meet at.lies both.common.1))
          k;
    };
    within = λ q e. both.innermost q (
      h.within q (fewer count q e),
      at.innermost q (subst (λ x. LiesInRegion m x q) (sym here) (e.few count v (omega arith))),
    );
  }

  -- a region in which all lie encloses the first few
  all_enclosed : (count : ℕ) (r : RegionId) → 0 < length list → count ≤ length list → ((v : VertexId) → Contains list v → LiesInRegion m v r)
      → Encloses m list count r
  all_enclosed count r some le all = record {
    first = λ d. all (get_or list 0 d) (0, some, get_or_default list 0 (get_or list 0 d) d some);
    few = λ k d lt. (let inside : k < length list = omega arith in
        all (get_or list k d) (k, inside, get_or_default list k (get_or list k d) d inside));
  }

  -- where the next vertex has no region in common with those before, there is none for all
  pub no_scope : (count : ℕ) (v : VertexId) (common home : RegionId) → count < length list → v ≡ get_or list count v
      → IsInnermost m list count common → IsHome m v home → ((r : RegionId) → AreWithin m common home r → ⊥)
      → (r : RegionId) → ((w : VertexId) → Contains list w → LiesInRegion m w r) → ⊥
  no_scope count v common home lt here h at apart r all =
      apart r (
        h.within r (all_enclosed count r (omega arith) (omega arith) all),
        at.innermost r (all v (count, lt, sym here)),
      )

  -- at the end
  pub innermost_is_scope : (common : RegionId) (n : ℕ) → 0 < length list → HasRegionsAbove m (Region common) n
      → IsInnermost m list (length list) common → IsScope m (Contains list) common
  innermost_is_scope common n some above h = record {
    common = λ v is. subst (λ x. LiesInRegion m x common) is.2 (h.encloses.few is.0 v is.1);
    innermost = λ q all under. ⊎_elim
        (λ same. circle_is_endless (subst (λ x. LiesUnder m (Region x) (Region common)) (sym same) under) above)
        (λ out. circle_is_endless (under_further out under) above)
        (h.within q (all_enclosed (length list) q some (omega arith) all));
  }

-- two regions on one owner chain are the same, or one is nested in the other
on_one_chain : (m : DraftMachine) (p : Owner) (q r : RegionId) → LiesUnder m p (Region q) → LiesUnder m p (Region r)
    → IsWithin m q r ⊎ IsWithin m r q
on_one_chain m p q r (owned e) second = inl (region_cases m p q r e second)
on_one_chain m p q r (further {q = k} e rest) second =
    ⊎_elim
    (λ same. inr (inr (subst (λ x. LiesUnder m x (Region q)) same rest)))
    (λ more. on_one_chain m k q r rest more)
    (under_cases m p k (Region r) e second)

-- Vertices have at most one scope.
pub one_scope : (m : DraftMachine) (These : VertexId → Type 0) (v : VertexId) (q r : RegionId) → These v → IsScope m These q → IsScope m These r → q ≡ r
one_scope m These v q r is a b =
    ⊎_elim
    (λ within. ⊎_elim (λ same. same) (λ under. absurd (b.innermost q a.common under)) within)
    (λ within. ⊎_elim (λ same. sym same) (λ under. absurd (a.innermost r b.common under)) within)
    (on_one_chain m (State v) q r (a.common v is) (b.common v is))
