-- Owner chains: what a place lies under can be told, and all that shares a region with a vertex lies in one topmost region.
use Rattle.std.proofs.Common.{◌≡◌, ◌⊎◌, ◌<◌, ℕ, length, Some, sym, subst, inl, inr, ⊎_elim}
use Rattle.std.proofs.lemmas.Bool.{cases_eq}
use Rattle.pssm_model.specs.declared.ids.VertexId.{VertexId}
use Rattle.pssm_model.specs.declared.ids.RegionId.{RegionId}
use Rattle.pssm_model.specs.declared.elements.Vertex.{Vertex}
use Rattle.pssm_model.specs.declared.elements.DraftMachine.{DraftMachine}
use Rattle.pssm_model.specs.declared.elements.Owner.{Owner}
use Rattle.pssm_model.specs.declared.elements.Owner.TheVariants.{Top, Region, State}
use Rattle.pssm_model.specs.Forest.{owner_of, vertex_at, LiesUnder, LiesInRegion, IsWithin, HasRegionsAbove}
use Rattle.pssm_model.specs.Forest.LiesUnder.{owned, further}
use Rattle.pssm_model.specs.Forest.HasRegionsAbove.{region, state, machine}
use Rattle.pssm_model.specs.Legs.{IsPoint}
use Rattle.pssm_model.specs.Shapes.{HasShape, OwnsVertex}
use Rattle.pssm_model.specs.WellFormed.{ShareRegion}
use Rattle.pssm_model.proofs.ElementLaws.{mapped_at, some_at, same_region}
use Rattle.pssm_model.proofs.OwnerChains.{top_lies_nowhere, counted_is_place}
use Rattle.pssm_model.proofs.Nesting.{under_cases, region_cases, shallower, lies_within}

module _ (m : DraftMachine) where
  -- two regions on one owner chain are the same, or one is nested in the other
  pub on_one_chain : (p : Owner) (q r : RegionId) → LiesUnder m p (Region q) → LiesUnder m p (Region r) → IsWithin m q r ⊎ IsWithin m r q
  on_one_chain p q r (owned e) second = inl (region_cases m p q r e second)
  on_one_chain p q r (further {q = k} e rest) second =
      ⊎_elim
      (λ same. inr (inr (subst (λ x. LiesUnder m x (Region q)) same rest)))
      (λ more. on_one_chain k q r rest more)
      (under_cases m p k (Region r) e second)

  -- under what is owned by the machine nothing lies further up
  pub under_top : (p : Owner) (r : RegionId) → owner_of m p ≡ Some Top → LiesUnder m p (Region r) → ⊥
  under_top p r e under =
      ⊎_elim (λ same. absurd (cc)) (λ more. top_lies_nowhere (Region r) more) (under_cases m p Top (Region r) e under)

  pub under_state : (p : Owner) (s : VertexId) (r : RegionId) → owner_of m p ≡ Some (State s) → LiesUnder m p (Region r) → LiesUnder m (State s) (Region r)
  under_state p s r e under = ⊎_elim (λ same. absurd (cc)) (λ more. more) (under_cases m p (State s) (Region r) e under)

  -- whether a place lies in a region can be told
  pub lies_or_not : (p : Owner) (n : ℕ) (r : RegionId) → HasRegionsAbove m p n → LiesUnder m p (Region r) ⊎ (LiesUnder m p (Region r) → ⊥)
  lies_or_not p n r (machine e) = inr (λ under. under_top p r e under)
  lies_or_not p n r (state {s = s} e above) =
      ⊎_elim (λ under. inl (further e under)) (λ out. inr (λ under. out (under_state p s r e under))) (lies_or_not (State s) n r above)
  lies_or_not p _ r (region {r = q} {n = n} e above) =
      ⊎_elim
      (λ same. inl (owned (subst (λ x. owner_of m p ≡ Some (Region x)) (same_region q r same) e)))
      (λ apart. ⊎_elim
      (λ under. inl (further e under))
      (λ out. inr (λ under. ⊎_elim
      (λ same. apart (cc))
      (λ more. out more)
      (under_cases m p (Region q) (Region r) e under)))
      (lies_or_not (Region q) n r above))
      (cases_eq q.0 r.0)

  -- a region in no other, in which the place lies
  pub record IsTopmost (p : Owner) (top : RegionId) : Type 0 where
    pub lies : LiesUnder m p (Region top)
    pub last : (q : RegionId) → LiesUnder m (Region top) (Region q) → ⊥

  topmost_over : (p q : Owner) (top : RegionId) → owner_of m p ≡ Some q → IsTopmost q top → IsTopmost p top
  topmost_over p q top e h = record { lies = further e h.lies; last = h.last }

  topmost_or_none : (p : Owner) (n : ℕ) → HasRegionsAbove m p n → ((top : RegionId) × IsTopmost p top) ⊎ ((q : RegionId) → LiesUnder m p (Region q) → ⊥)
  topmost_or_none p n (machine e) = inr (λ q under. under_top p q e under)
  topmost_or_none p n (state {s = s} e above) =
      ⊎_elim
      (λ top. inl (top.0, topmost_over p (State s) top.0 e top.1))
      (λ none. inr (λ q under. none q (under_state p s q e under)))
      (topmost_or_none (State s) n above)
  topmost_or_none p _ (region {r = r} {n = n} e above) =
      ⊎_elim
      (λ top. inl (top.0, topmost_over p (Region r) top.0 e top.1))
      (λ none. inl (r, record { lies = owned e; last = none }))
      (topmost_or_none (Region r) n above)

  pub topmost : (p : Owner) (n : ℕ) (r : RegionId) → HasRegionsAbove m p n → LiesUnder m p (Region r) → (top : RegionId) × IsTopmost p top
  topmost p n r above under = ⊎_elim (λ top. top) (λ none. absurd (none r under)) (topmost_or_none p n above)

  -- what shares a region with a vertex lies in the topmost region of that
  pub shares_topmost : (v w : VertexId) (top : RegionId) → IsTopmost (State v) top → ShareRegion m v w → LiesInRegion m w top
  shares_topmost v w top h shared =
      ⊎_elim
      (λ within. lies_within m w shared.0 top shared.2 within)
      (λ within. ⊎_elim
      (λ same. subst (LiesInRegion m w) (sym same) shared.2)
      (λ under. absurd (h.last shared.0 under))
      within)
      (on_one_chain (State v) shared.0 top shared.1 h.lies)

  -- the topmost region of a vertex is that of all that lies in it
  pub topmost_of_other : (v w : VertexId) (top : RegionId) → IsTopmost (State v) top → LiesInRegion m w top → IsTopmost (State w) top
  topmost_of_other v w top h lies = record { lies = lies; last = h.last }

module _ {m : DraftMachine} (shape : HasShape m) where
  -- the vertex of a number, and how many regions stand above it
  pub vertex_there : (v : VertexId) → v.0 < length m.vertices → (x : Vertex) × (vertex_at m v ≡ Some x)
  vertex_there v lt = some_at m.vertices v.0 lt

  pub counted : (v : VertexId) → v.0 < length m.vertices → (n : ℕ) × HasRegionsAbove m (State v) n
  counted v lt =
      let x = some_at m.vertices v.0 lt in
      let shallow = (shape.vertices v x.0 x.1).1 in
      (shallow.0, shallow.2)

  -- a region in which a vertex lies is there
  pub region_there : (v : VertexId) (r : RegionId) → v.0 < length m.vertices → LiesInRegion m v r → r.0 < length m.regions
  region_there v r lt lies =
      let above = counted v lt in
      let over = shallower m (State v) r above.0 lies above.1 in
      counted_is_place m over.2

  -- a vertex that is no entry or exit point lies in a region
  pub some_region : (s : VertexId) (x : Vertex) → vertex_at m s ≡ Some x → (IsPoint m s → ⊥) → (r : RegionId) × LiesInRegion m s r
  some_region s x e no_point = by x.owner (shape.vertices s x e).0 (mapped_at (λ (y : Vertex). y.owner) (vertex_at m s) x e)
    where
      by : (p : Owner) → OwnsVertex m s p → owner_of m (State s) ≡ Some p → (r : RegionId) × LiesInRegion m s r
      by Top owns e = absurd owns
      by (Region r) owns e = (r, owned e)
      by (State w) owns e = absurd (no_point owns.0)
