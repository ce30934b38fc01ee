-- Owner chains: where they lead, and how many regions stand on them.
use Rattle.std.proofs.Common.{◌≡◌, ◌+◌, ◌<◌, ◌≤◌, ℕ, zero, suc, List, [], ◌∷◌, ◌++◌, length, Some, get_or, refl, sym, ap, subst, arith, add-one, lit≤, Bool, true, false, cond, ltb}
use Rattle.std.proofs.lemmas.Bool.{ltb-true, ltb-false}
use Rattle.std.proofs.lemmas.Option.{slice_get_within}
use Rattle.pssm_model.specs.declared.ids.VertexId.{VertexId}
use Rattle.pssm_model.specs.declared.ids.RegionId.{RegionId}
use Rattle.pssm_model.specs.declared.elements.Vertex.{Vertex}
use Rattle.pssm_model.proofs.ElementLaws.{mapped_some}
use Rattle.pssm_model.specs.declared.elements.DraftMachine.{DraftMachine}
use Rattle.pssm_model.specs.declared.elements.Owner.{Owner}
use Rattle.pssm_model.specs.declared.elements.Owner.TheVariants.{Top, Region, State}
use Rattle.pssm_model.specs.declared.depths.Depth.{Depth}
use Rattle.pssm_model.specs.declared.depths.Depth.TheVariants.{Unknown, Within, Beyond, Nowhere}
use Rattle.pssm_model.specs.Forest.{owner_of, vertex_at, LiesUnder, HasRegionsAbove}
use Rattle.pssm_model.specs.Forest.LiesUnder.{owned, further}
use Rattle.pssm_model.specs.Forest.HasRegionsAbove.{region, state, machine}
use Rattle.pssm_model.specs.inner.Depths.{depth_under, one_deeper, IsPlace, IsDepthOf, IsDepthUnder, IsPath}

-- a place has one owner
pub one_owner : (m : DraftMachine) (p q s : Owner) → owner_of m p ≡ Some q → owner_of m p ≡ Some s → q ≡ s
one_owner m p q s e f = cc

module _ {m : DraftMachine} where
  -- one chain, one number of regions
  pub one_count : {p : Owner} {n k : ℕ} → HasRegionsAbove m p n → HasRegionsAbove m p k → n ≡ k
  one_count {p = p} (region {r = r} {n = i} e above) (region {r = s} {n = j} f other) =
      ap suc (one_count above (subst (λ q. HasRegionsAbove m q j) (one_owner m p (Region s) (Region r) f e) other))
  one_count (region e above) (state f other) = absurd (cc)
  one_count (region e above) (machine f) = absurd (cc)
  one_count (state e above) (region f other) = absurd (cc)
  one_count {p = p} {k = k} (state {s = v} e above) (state {s = w} f other) =
      one_count above (subst (λ q. HasRegionsAbove m q k) (one_owner m p (State w) (State v) f e) other)
  one_count (state e above) (machine f) = absurd (cc)
  one_count (machine e) (region f other) = absurd (cc)
  one_count (machine e) (state f other) = absurd (cc)
  one_count (machine e) (machine f) = refl

  pub under_further : {p q s : Owner} → LiesUnder m p q → LiesUnder m q s → LiesUnder m p s
  under_further (owned e) rest = further e rest
  under_further (further e more) rest = further e (under_further more rest)

  -- nothing owns the machine
  pub top_lies_nowhere : (q : Owner) → LiesUnder m Top q → ⊥
  top_lies_nowhere q (owned e) = cc
  top_lies_nowhere q (further e rest) = cc

  -- a circle goes through the owner too
  around : {p : Owner} (q : Owner) → LiesUnder m p p → owner_of m p ≡ Some q → LiesUnder m q q
  around {p = p} q (owned e) f = let same : p ≡ q = cc in subst (λ s. LiesUnder m s s) same (owned e)
  around {p = p} q (further {q = k} e rest) f =
      let same : k ≡ q = cc in
      under_further (subst (λ s. LiesUnder m s p) same rest) (owned f)

  -- a circle does not end at the machine
  pub circle_is_endless : {p : Owner} {n : ℕ} → LiesUnder m p p → HasRegionsAbove m p n → ⊥
  circle_is_endless loop (region e above) = circle_is_endless (around _ loop e) above
  circle_is_endless loop (state e above) = circle_is_endless (around _ loop e) above
  circle_is_endless loop (machine e) = top_lies_nowhere Top (around Top loop e)

  -- the first place of a path lies under where the path leads
  head_under : (p : Owner) (path : List Owner) (at : Owner) → IsPath m (p ∷ path) at → LiesUnder m p at
  head_under p [] at h = owned h.0
  head_under p (q ∷ path) at h = further h.0 (head_under q path at h.1)

  -- and so does each place of it
  pub path_under : (path : List Owner) (at : Owner) (k : ℕ) → k < length path → IsPath m path at → LiesUnder m (get_or path k Top) at
  path_under [] at k lt h = absurd (omega arith)
  path_under (p ∷ path) at zero lt h = head_under p path at h
  path_under (p ∷ path) at (suc k) lt h = path_under path at k (omega arith) h.1

  -- what stands above a place, by what stands above its owner
  pub region_down : {p : Owner} {n : ℕ} (r : RegionId) → owner_of m p ≡ Some (Region r) → HasRegionsAbove m p n
      → (k : ℕ) × (n ≡ suc k) × HasRegionsAbove m (Region r) k
  region_down {p = p} r e (region {r = s} {n = k} f above) = (k, refl, subst (λ q. HasRegionsAbove m q k) (one_owner m p (Region s) (Region r) f e) above)
  region_down r e (state f above) = absurd (cc)
  region_down r e (machine f) = absurd (cc)

  pub state_down : {p : Owner} {n : ℕ} (v : VertexId) → owner_of m p ≡ Some (State v) → HasRegionsAbove m p n → HasRegionsAbove m (State v) n
  state_down v e (region f above) = absurd (cc)
  state_down {p = p} {n = n} v e (state {s = w} f above) = subst (λ q. HasRegionsAbove m q n) (one_owner m p (State w) (State v) f e) above
  state_down v e (machine f) = absurd (cc)

-- the depth with one region more, by cases
within_more : (P : Depth → Type 0) (n : ℕ) → (n < 32 → P (Within (n + 1))) → (32 ≤ n → P Beyond) → P (one_deeper (Within n))
within_more P n below past = by (ltb n 32) refl
  where
    by : (b : Bool) → ltb n 32 ≡ b → P (cond b (Within (n + 1)) Beyond)
    by true e = below (ltb-true n 32 e)
    by false e = past (ltb-false n 32 e)

module _ (m : DraftMachine) where
  -- one place more at the end of a path, and one less
  pub path_push : (path : List Owner) (p at : Owner) → IsPath m path p → owner_of m p ≡ Some at → IsPath m (path ++ p ∷ []) at
  path_push [] p at h e = (e, tt)
  path_push (q ∷ []) p at h e = (h.0, (e, tt))
  path_push (q ∷ s ∷ path) p at h e = (h.0, path_push (s ∷ path) p at h.1 e)

  pub path_pop : (path : List Owner) (p at : Owner) → IsPath m (path ++ p ∷ []) at → IsPath m path p × (owner_of m p ≡ Some at)
  path_pop [] p at h = (tt, h.0)
  path_pop (q ∷ []) p at h = ((h.0, tt), h.1.0)
  path_pop (q ∷ s ∷ path) p at h =
      let rest = path_pop (s ∷ path) p at h.1 in
      ((h.0, rest.0), rest.1)

  -- what has an owner is a place
  pub owned_is_place : (p q : Owner) → owner_of m p ≡ Some q → IsPlace m p
  owned_is_place Top q e = absurd (cc)
  owned_is_place (Region r) q e = slice_get_within m.regions r.0 q e
  owned_is_place (State v) q e =
      let at = mapped_some (λ (x : Vertex). x.owner) (vertex_at m v) q e in
      slice_get_within m.vertices v.0 at.0 at.1

  one_more : (p q : Owner) (d : Depth) → IsDepthOf m p d → ((n : ℕ) → HasRegionsAbove m p n → HasRegionsAbove m q (suc n))
      → ((n : ℕ) → HasRegionsAbove m q n → (k : ℕ) × (n ≡ suc k) × HasRegionsAbove m p k) → IsDepthOf m q (one_deeper d)
  one_more p q Unknown h up down = h
  one_more p q (Within n) h up down =
      within_more (IsDepthOf m q) n
      (λ lt. (omega arith, subst (HasRegionsAbove m q) (sym (add-one n)) (up n h.1)))
      (λ ge. (suc n, omega arith, up n h.1))
  one_more p q Beyond h up down = (suc h.0, omega (arith, h.1), up h.0 h.2)
  one_more p q Nowhere h up down = λ n above. let less = down n above in h less.0 less.2

  -- the depth of what a place owns follows from that of the place
  pub depth_follows : (q : Owner) (d : Depth) → IsDepthOf m q d → IsDepthUnder m q (depth_under q d)
  depth_follows Top d h p e = (lit≤ tt, machine e)
  depth_follows (Region r) d h p e = one_more (Region r) p d h (λ n above. region e above) (λ n above. region_down r e above)
  depth_follows (State v) Unknown h p e = h
  depth_follows (State v) (Within n) h p e = (h.0, state e h.1)
  depth_follows (State v) Beyond h p e = (h.0, h.1, state e h.2)
  depth_follows (State v) Nowhere h p e = λ n above. h n (state_down v e above)

  -- outside of the draft no chain ends at the machine
  pub counted_is_place : {p : Owner} {n : ℕ} → HasRegionsAbove m p n → IsPlace m p
  counted_is_place {p = p} (region {r = r} e above) = owned_is_place p (Region r) e
  counted_is_place {p = p} (state {s = s} e above) = owned_is_place p (State s) e
  counted_is_place {p = p} (machine e) = owned_is_place p Top e

  -- what is counted has an owner
  pub owner_above : (p : Owner) (n : ℕ) → HasRegionsAbove m p n → (q : Owner) × (owner_of m p ≡ Some q)
  owner_above p n (region {r = r} e above) = (Region r, e)
  owner_above p n (state {s = s} e above) = (State s, e)
  owner_above p n (machine e) = (Top, e)
