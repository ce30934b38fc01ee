-- Climbing from a vertex to the region of a State in which it lies.
use Rattle.std.proofs.Common.{◌≡◌, ◌<◌, ◌-◌, ℕ, length, Some, sym, subst, ⊎_elim, arith}
use Rattle.pssm_model.specs.declared.ids.VertexId.{VertexId}
use Rattle.pssm_model.specs.declared.ids.RegionId.{RegionId}
use Rattle.pssm_model.specs.declared.elements.DraftMachine.{DraftMachine}
use Rattle.pssm_model.specs.declared.elements.Owner.TheVariants.{Top, Region, State}
use Rattle.pssm_model.specs.Forest.{owner_of, IsHome, IsWithin, HasRegionsAbove, LiesUnder, LiesInRegion, LiesInState}
use Rattle.pssm_model.specs.Forest.LiesUnder.{further}
use Rattle.pssm_model.proofs.OwnerChains.{top_lies_nowhere, under_further}
use Rattle.pssm_model.proofs.Nesting.{under_cases, shallower}
use Rattle.pssm_model_laws.proofs.RegionChains.{under_state}

-- The vertex lies in the region, which is or lies in the one of the State in which the vertex lies; fewer than so many regions stand above it.
pub record IsRising (m : DraftMachine) (state v : VertexId) (region : RegionId) (height : ℕ) : Type 0 where
  pub there : region.0 < length m.regions
  pub lies : LiesInRegion m v region
  pub within : (q : RegionId) → owner_of m (Region q) ≡ Some (State state) → LiesInRegion m v q → IsWithin m region q
  pub below : (n : ℕ) × (n < height) × HasRegionsAbove m (Region region) n

module _ (m : DraftMachine) (state v : VertexId) where
  pub rise_begins : (home : RegionId) (height : ℕ) → home.0 < length m.regions → IsHome m v home → HasRegionsAbove m (State v) height
      → IsRising m state v home height
  rise_begins home height there h above = record {
    there = there;
    lies = h.lies;
    within = λ q e lies. h.innermost q lies;
    below = let over = shallower m (State v) home height h.lies above in (over.0, over.1, over.2);
  }

  module _ (region : RegionId) (height : ℕ) (h : IsRising m state v region height) (inside : LiesInState m v state) where
    -- a region that another owner has lies in the one that is sought
    beyond : (owner_of m (Region region) ≡ Some (State state) → ⊥) → LiesUnder m (Region region) (Region inside.0)
    beyond none =
        ⊎_elim
        (λ same. absurd (none (subst (λ (x : RegionId). owner_of m (Region x) ≡ Some (State state)) (sym same) inside.1)))
        (λ under. under)
        (h.within inside.0 inside.1 inside.2)

    pub not_top : (owner_of m (Region region) ≡ Some (State state) → ⊥) → owner_of m (Region region) ≡ Some Top → ⊥
    not_top none top =
        ⊎_elim
        (λ wrong. cc)
        (λ more. top_lies_nowhere {m = m} (Region inside.0) more)
        (under_cases m (Region region) Top (Region inside.0) top (beyond none))

    pub rise_higher : (owner_of m (Region region) ≡ Some (State state) → ⊥) → (s : VertexId) (outer : RegionId) → owner_of m (Region region) ≡ Some (State s)
        → IsHome m s outer → outer.0 < length m.regions → IsRising m state v outer (height - 1)
    rise_higher none s outer e home there =
        let up : LiesUnder m (Region region) (Region outer) = further e home.lies in
        let over = shallower m (Region region) outer h.below.0 up h.below.2 in
        let less = h.below.1 in
        let fewer = over.1 in
        record {
          there = there;
          lies = under_further {m = m} h.lies up;
          within = λ q own lies. home.innermost q (under_state m (Region region) s q e (nested q own lies));
          below = (over.0, omega (arith, less, fewer), over.2);
        }
      where
        nested : (q : RegionId) → owner_of m (Region q) ≡ Some (State state) → LiesInRegion m v q → LiesUnder m (Region region) (Region q)
        nested q own lies =
            ⊎_elim
            (λ same. absurd (none (subst (λ (x : RegionId). owner_of m (Region x) ≡ Some (State state)) (sym same) own)))
            (λ under. under)
            (h.within q own lies)
