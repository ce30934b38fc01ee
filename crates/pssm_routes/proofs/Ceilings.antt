-- Climbing from a State, region by region, to the largest region around it in which no source lies.
use Rattle.std.proofs.Common.{◌≡◌, ◌⊎◌, ◌<◌, ◌+◌, ℕ, List, length, Option, Some, None, IfSome, IfNone, sym, refl, inl, inr, ⊎_elim, arith}
use Rattle.std.proofs.lemmas.Option.{slice_get_within}
use Rattle.pssm_model.specs.declared.ids.VertexId.{VertexId}
use Rattle.pssm_model.specs.declared.ids.RegionId.{RegionId}
use Rattle.pssm_model.specs.declared.elements.DraftMachine.{DraftMachine}
use Rattle.pssm_model.specs.declared.elements.Vertex.{Vertex}
use Rattle.pssm_model.specs.declared.elements.VertexKind.TheVariants as kinds
use Rattle.pssm_model.specs.declared.elements.Owner.{Owner}
use Rattle.pssm_model.specs.declared.elements.Owner.TheVariants.{Top, Region, State}
use Rattle.pssm_model.specs.Shapes.{HasShape}
use Rattle.pssm_model.specs.Forest.{owner_of, vertex_at, LiesUnder, LiesInRegion, HasRegionsAbove, IsWithin, IsHome}
use Rattle.pssm_model.specs.Forest.LiesUnder.{further}
use Rattle.pssm_model.proofs.ElementLaws.{mapped_some}
use Rattle.pssm_model.proofs.OwnerChains.{top_lies_nowhere, under_further}
use Rattle.pssm_model.proofs.Nesting.{under_cases, shallower, within_further, lies_within}
use Rattle.pssm_routes.specs.declared.areas.Footprint.{Footprint}
use Rattle.pssm_routes.specs.inner.Rooms.{IsNextOut}
use Rattle.pssm_routes.specs.inner.Sets.{HoldsSource, IsCeiling}

module _ (m : DraftMachine) (shape : HasShape m) (r : RegionId) where
  -- the State that owns a region is one of the machine, and its home is the next region
  pub owner_there : (s : VertexId) → owner_of m (Region r) ≡ Some (State s) → s.0 < length m.vertices
  owner_there s e =
      let at = mapped_some (λ (x : Vertex). x.kind) (vertex_at m s) kinds.State (shape.regions r (State s) e).0 in
      slice_get_within m.vertices s.0 at.0 at.1

  pub home_is_next : (s : VertexId) (next : RegionId) → owner_of m (Region r) ≡ Some (State s) → IsHome m s next → IsNextOut m r next
  home_is_next s next e home = record {
    nested = further e home.lies;
    innermost = λ q under. ⊎_elim (λ same. absurd (cc)) (λ more. home.innermost q more) (under_cases m (Region r) (State s) (Region q) e under);
  }

  -- another region is nested in none
  pub none_out : (p : Owner) → owner_of m (Region r) ≡ Some p → ((s : VertexId) → p ≡ State s → ⊥) → (q : RegionId) → LiesUnder m (Region r) (Region q) → ⊥
  none_out Top e other q under =
      ⊎_elim (λ same. absurd (cc)) (λ more. top_lies_nowhere {m = m} (Region q) more) (under_cases m (Region r) Top (Region q) e under)
  none_out (Region p) e other q under = (shape.regions r (Region p) e).0
  none_out (State s) e other q under = other s refl

module _ (m : DraftMachine) (footprints : List Footprint) (s : VertexId) where
  -- The region is the last one found free, or nested in it.
  abbrev IsPassed : Option RegionId → RegionId → Type 0
  IsPassed None q = ⊥
  IsPassed (Some r) q = IsWithin m q r

  -- how far the climb has come
  pub record IsClimbing (found : Option RegionId) (at : RegionId) (left : ℕ) : Type 0 where
    pub inside : at.0 < length m.regions
    pub around : LiesInRegion m s at
    pub above : (k : ℕ) × (k < left) × HasRegionsAbove m (Region at) k
    pub there : IfSome found (λ r. r.0 < length m.regions)
    pub free : IfSome found (λ r. LiesInRegion m s r × (HoldsSource m footprints r → ⊥) × IsWithin m r at)
    pub rest : (q : RegionId) → LiesInRegion m s q → IsPassed found q ⊎ IsWithin m at q

  pub climb_begins : (home : RegionId) (n : ℕ) → home.0 < length m.regions → IsHome m s home → HasRegionsAbove m (State s) n → IsClimbing None home n
  climb_begins home n inside h above = record {
    inside = inside;
    around = h.lies;
    above = shallower m (State s) home n h.lies above;
    there = tt;
    free = tt;
    rest = λ q lies. inr (h.innermost q lies);
  }

  -- no region that was passed, nor this one, is outside of this one
  passed_within : (found : Option RegionId) (at q : RegionId) (left : ℕ) → IsClimbing found at left → IsPassed found q → IsWithin m q at
  passed_within None at q left h passed = absurd passed
  passed_within (Some r) at q left h passed = within_further m q r at passed h.free.2

  passed_or_out : (found : Option RegionId) (at q : RegionId) (left : ℕ) → IsClimbing found at left → LiesInRegion m s q
      → IsWithin m q at ⊎ LiesUnder m (Region at) (Region q)
  passed_or_out found at q left h lies = ⊎_elim
      (λ passed. inl (passed_within found at q left h passed))
      (λ within. ⊎_elim (λ (same : at ≡ q). inl (inl (sym same))) (λ out. inr out) within)
      (h.rest q lies)

  -- one region further out
  pub climb_goes_on : (found : Option RegionId) (at next : RegionId) (left less : ℕ) → IsClimbing found at left → (HoldsSource m footprints at → ⊥)
      → next.0 < length m.regions → IsNextOut m at next → left ≡ less + 1 → IsClimbing (Some at) next less
  climb_goes_on found at next left less h free inside out count = record {
    inside = inside;
    around = under_further h.around out.nested;
    above = (let up = shallower m (Region at) next h.above.0 out.nested h.above.2 in (up.0, omega (arith, up.1, h.above.1, count), up.2));
    there = h.inside;
    free = (h.around, free, inr out.nested);
    rest = λ q lies. ⊎_elim (λ within. inl within) (λ beyond. inr (out.innermost q beyond)) (passed_or_out found at q left h lies);
  }

  -- where a source lies in a region, it lies in each region further out
  held_further : (at q : RegionId) → HoldsSource m footprints at → IsWithin m at q → HoldsSource m footprints q
  held_further at q (a, is, lies) within = (a, is, lies_within m a.source at q lies within)

  passed_if_free : (found : Option RegionId) (at q : RegionId) (left : ℕ) → IsClimbing found at left → HoldsSource m footprints at → LiesInRegion m s q
      → (HoldsSource m footprints q → ⊥) → IsPassed found q
  passed_if_free found at q left h held lies free =
      ⊎_elim (λ passed. passed) (λ within. absurd (free (held_further at q held within))) (h.rest q lies)

  -- a source ends the climb
  pub ceiling_at_source : (found : Option RegionId) (at : RegionId) (left : ℕ) → IsClimbing found at left → HoldsSource m footprints at
      → IfSome found (IsCeiling m footprints s)
  ceiling_at_source None at left h held = tt
  ceiling_at_source (Some r) at left h held = record {
    around = h.free.0;
    free = h.free.1;
    largest = λ q lies free. passed_if_free (Some r) at q left h held lies free;
  }

  pub none_at_source : (found : Option RegionId) (at : RegionId) (left : ℕ) → IsClimbing found at left → HoldsSource m footprints at
      → IfNone found ((q : RegionId) → LiesInRegion m s q → (HoldsSource m footprints q → ⊥) → ⊥)
  none_at_source None at left h held = λ q lies free. passed_if_free None at q left h held lies free
  none_at_source (Some r) at left h held = tt

  -- and so does a region that is nested in none
  pub ceiling_at_top : (found : Option RegionId) (at : RegionId) (left : ℕ) → IsClimbing found at left → (HoldsSource m footprints at → ⊥)
      → ((q : RegionId) → LiesUnder m (Region at) (Region q) → ⊥) → IsCeiling m footprints s at
  ceiling_at_top found at left h free none = record {
    around = h.around;
    free = free;
    largest = λ q lies is. ⊎_elim (λ within. within) (λ beyond. absurd (none q beyond)) (passed_or_out found at q left h lies);
  }
