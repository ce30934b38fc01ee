-- Regions inside of regions: who is the innermost, and who is deeper.
use Rattle.std.proofs.Common.{◌≡◌, ◌≢◌, ◌⊎◌, ◌↔◌, ◌+◌, ◌<◌, ◌≤◌, ℕ, List, length, Some, get_or, sym, ap, subst, ◌∙◌, inl, inr, ⊎_elim, arith, add_comm}
use Rattle.pssm_model.specs.declared.ids.VertexId.{VertexId}
use Rattle.pssm_model.specs.declared.ids.RegionId.{RegionId}
use Rattle.pssm_model.specs.declared.elements.DraftMachine.{DraftMachine}
use Rattle.pssm_model.specs.declared.elements.Owner.{Owner}
use Rattle.pssm_model.specs.declared.elements.Owner.TheVariants.{Top, Region, State}
use Rattle.pssm_model.specs.Forest.{owner_of, LiesUnder, LiesInRegion, LiesInState, HasRegionsAbove, IsWithin, IsHome}
use Rattle.pssm_model.specs.Forest.LiesUnder.{owned, further}
use Rattle.pssm_model.specs.Forest.HasRegionsAbove.{region, state, machine}
use Rattle.pssm_model.specs.inner.Tables.{AreTables, IsOuter, IsRaised, AreWithin}
use Rattle.pssm_model.proofs.OwnerChains.{one_owner, one_count, under_further, top_lies_nowhere, region_down}

module _ (m : DraftMachine) where
  -- what a place lies under is its owner, or what that lies under
  pub under_cases : (p q s : Owner) → owner_of m p ≡ Some q → LiesUnder m p s → (q ≡ s) ⊎ LiesUnder m q s
  under_cases p q s e (owned f) = inl (one_owner m p q s e f)
  under_cases p q s e (further {q = k} f rest) = inr (subst (λ x. LiesUnder m x s) (one_owner m p k q f e) rest)

  same_region : (h r : RegionId) → Region h ≡ Region r → h ≡ r
  same_region h r e = cc

  pub region_cases : (p : Owner) (h r : RegionId) → owner_of m p ≡ Some (Region h) → LiesUnder m p (Region r) → IsWithin m h r
  region_cases p h r e under = ⊎_elim (λ same. inl (same_region h r same)) (λ more. inr more) (under_cases p (Region h) (Region r) e under)

  state_cases : (p : Owner) (s : VertexId) (h r : RegionId) → owner_of m p ≡ Some (State s) → owner_of m (State s) ≡ Some (Region h)
      → LiesUnder m p (Region r) → IsWithin m h r
  state_cases p s h r e f under =
      ⊎_elim (λ same. absurd (cc)) (λ more. region_cases (State s) h r f more) (under_cases p (State s) (Region r) e under)

  -- the home of a vertex that a region owns, and of a connection point
  pub home_of_vertex : (v : VertexId) (h : RegionId) → owner_of m (State v) ≡ Some (Region h) → IsHome m v h
  home_of_vertex v h e = record { lies = owned e; innermost = λ r under. region_cases (State v) h r e under }

  pub home_of_point : (v s : VertexId) (h : RegionId) → owner_of m (State v) ≡ Some (State s) → owner_of m (State s) ≡ Some (Region h) → IsHome m v h
  home_of_point v s h e f = record { lies = further e (owned f); innermost = λ r under. state_cases (State v) s h r e f under }

  -- the region around a region that a State owns
  pub outer_of_region : (q : RegionId) (s : VertexId) (h : RegionId) → owner_of m (Region q) ≡ Some (State s) → owner_of m (State s) ≡ Some (Region h)
      → IsOuter m q h
  outer_of_region q s h e f = record { nested = further e (owned f); innermost = λ r under. state_cases (Region q) s h r e f under }

  -- what a place lies under has fewer regions above it
  pub shallower : (p : Owner) (r : RegionId) (n : ℕ) → LiesUnder m p (Region r) → HasRegionsAbove m p n
      → (k : ℕ) × (k < n) × HasRegionsAbove m (Region r) k
  shallower p r n (owned e) above = let less = region_down r e above in (less.0, omega (arith, less.1), less.2)
  shallower p r n (further {q = q} e rest) (region {r = s} {n = j} f above) =
      let less = shallower (Region s) r j (subst (λ x. LiesUnder m x (Region r)) (one_owner m p q (Region s) e f) rest) above in
      (less.0, omega (arith, less.1), less.2)
  shallower p r n (further {q = q} e rest) (state {s = s} f above) =
      shallower (State s) r n (subst (λ x. LiesUnder m x (Region r)) (one_owner m p q (State s) e f) rest) above
  shallower p r n (further {q = q} e rest) (machine f) =
      absurd (top_lies_nowhere (Region r) (subst (λ x. LiesUnder m x (Region r)) (one_owner m p q Top e f) rest))

  pub less_above : (q r : RegionId) (n k : ℕ) → LiesUnder m (Region q) (Region r) → HasRegionsAbove m (Region q) n → HasRegionsAbove m (Region r) k
      → k < n
  less_above q r n k under above other =
      let less = shallower (Region q) r n under above in
      let same = one_count {m = m} less.2 other in
      omega (arith, less.1, same)

  pub within_further : (a b c : RegionId) → IsWithin m a b → IsWithin m b c → IsWithin m a c
  within_further a b c (inl e) h = subst (λ x. IsWithin m x c) (sym e) h
  within_further a b c (inr under) (inl e) = inr (subst (λ x. LiesUnder m (Region a) (Region x)) e under)
  within_further a b c (inr under) (inr more) = inr (under_further under more)

  -- a region that is the other or nested in it lies there with all that lies in it
  pub lies_within : (v : VertexId) (q r : RegionId) → LiesInRegion m v q → IsWithin m q r → LiesInRegion m v r
  lies_within v q r lies (inl e) = subst (λ x. LiesInRegion m v x) e lies
  lies_within v q r lies (inr under) = under_further lies under

  -- How far a region has been raised.
  pub record IsRaising (from : RegionId) (level : ℕ) (at : RegionId) : Type 0 where
    pub inside : at.0 < length m.regions
    pub within : IsWithin m from at
    pub same : (r : RegionId) (n : ℕ) → HasRegionsAbove m (Region r) n → n ≤ level → IsWithin m from r → IsWithin m at r

  pub raising_goes_on : (from : RegionId) (level k : ℕ) (at next : RegionId) → IsRaising from level at → HasRegionsAbove m (Region at) k → level < k
      → IsOuter m at next → next.0 < length m.regions → IsRaising from level next
  raising_goes_on from level k at next h above lt up inside = record {
    inside = inside;
    within = within_further from at next h.within (inr up.nested);
    same = λ r n other le is. ⊎_elim
        (λ (e : at ≡ r). absurd (let count = one_count {m = m} above (subst (λ x. HasRegionsAbove m (Region x) n) (sym e) other) in omega arith))
        (λ under. up.innermost r under)
        (h.same r n other le is);
  }

  pub raising_ends : (from : RegionId) (level k : ℕ) (at : RegionId) → IsRaising from level at → HasRegionsAbove m (Region at) k → k ≤ level
      → IsRaised m from level at
  raising_ends from level k at h above le = record {
    within = h.within;
    low = λ n other. (let same = one_count {m = m} above other in omega arith);
    same = h.same;
  }

  -- a region at the level to which another was raised is the raised one, where that is it or nested in it
  pub raised_is : (from at r : RegionId) (level n : ℕ) → IsRaised m from level at → HasRegionsAbove m (Region at) n → HasRegionsAbove m (Region r) level
      → IsWithin m from r → at ≡ r
  raised_is from at r level n h here above within =
      ⊎_elim
      (λ same. same)
      (λ under. absurd (let lt = less_above at r n level under here above in let le = h.low n here in omega arith))
      (h.same r level above (omega arith) within)

  -- the table of levels
  pub level_at : {regions vertices : List ℕ} → AreTables m regions vertices → (r : RegionId) → r.0 < length m.regions
      → HasRegionsAbove m (Region r) (get_or regions r.0 0)
  level_at tables r lt = (tables.region_depths r.0 (let same = tables.all_regions in omega arith)).1

  -- levels fall on the way out
  pub level_falls : {regions vertices : List ℕ} → AreTables m regions vertices → (q r : RegionId) → q.0 < length m.regions → r.0 < length m.regions
      → LiesUnder m (Region q) (Region r) → get_or regions r.0 0 < get_or regions q.0 0
  level_falls {regions} tables q r here there under =
      less_above q r (get_or regions q.0 0) (get_or regions r.0 0) under (level_at tables q here) (level_at tables r there)

  -- the innermost region in which two regions lie: how far they have come together
  pub record IsMeeting (a b p q : RegionId) : Type 0 where
    pub first : p.0 < length m.regions
    pub second : q.0 < length m.regions
    pub down : (r : RegionId) → AreWithin m a b r → AreWithin m p q r
    pub up : (r : RegionId) → AreWithin m p q r → AreWithin m a b r

  -- the second as the first
  pub meeting_turns : (a b p q : RegionId) → IsMeeting a b p q → IsMeeting a b q p
  meeting_turns a b p q h = record {
    first = h.second;
    second = h.first;
    down = λ r both. (let is = h.down r both in (is.1, is.0));
    up = λ r both. h.up r (both.1, both.0);
  }

  -- the deeper of two different regions is nested in whatever they both lie in
  deeper_is_nested : (p q r : RegionId) (n k : ℕ) → HasRegionsAbove m (Region p) n → HasRegionsAbove m (Region q) k → k ≤ n → p ≢ q
      → AreWithin m p q r → LiesUnder m (Region p) (Region r)
  deeper_is_nested p q r n k above other le apart both =
      ⊎_elim
      (λ same. absurd (⊎_elim
      (λ too. apart (same ∙ sym too))
      (λ under. let lt = less_above q r k n under other (subst (λ x. HasRegionsAbove m (Region x) n) same above) in omega arith)
      both.1))
      (λ under. under)
      both.0

  pub meeting_goes_on : (a b p q next : RegionId) (n k : ℕ) → IsMeeting a b p q → HasRegionsAbove m (Region p) n → HasRegionsAbove m (Region q) k
      → k ≤ n → p ≢ q → IsOuter m p next → next.0 < length m.regions → IsMeeting a b next q
  meeting_goes_on a b p q next n k h above other le apart up inside = record {
    first = inside;
    second = h.second;
    down = λ r both. (let is = h.down r both in (up.innermost r (deeper_is_nested p q r n k above other le apart is), is.1));
    up = λ r both. h.up r (within_further p next r (inr up.nested) both.0, both.1);
  }

  -- where they never do
  pub never_meeting : (a b p q : RegionId) (n k : ℕ) → IsMeeting a b p q → HasRegionsAbove m (Region p) n → HasRegionsAbove m (Region q) k
      → k ≤ n → p ≢ q → n ≡ 0 → (r : RegionId) → AreWithin m a b r → ⊥
  never_meeting a b p q n k h above other le apart top r both =
      let less = shallower (Region p) r n (deeper_is_nested p q r n k above other le apart (h.down r both)) above in
      omega (arith, less.1, top)

  -- a vertex lies in a region where that is the one to which its home was raised
  pub lies_raised : (v : VertexId) (home at r : RegionId) (level n : ℕ) → IsHome m v home → IsRaised m home level at
      → HasRegionsAbove m (Region at) n → HasRegionsAbove m (Region r) level → (at ≡ r) ↔ LiesInRegion m v r
  lies_raised v home at r level n h raised here above = (
    λ same. subst (LiesInRegion m v) same (lies_within v home at h.lies raised.within),
    λ lies. raised_is home at r level n raised here above (h.innermost r lies),
  )

  -- and in a State where the State owns that one
  pub lies_raised_in_state : (v s : VertexId) (home at : RegionId) (level n : ℕ) → IsHome m v home → IsRaised m home level at
      → HasRegionsAbove m (Region at) n → HasRegionsAbove m (State s) level → (owner_of m (Region at) ≡ Some (State s)) ↔ LiesInState m v s
  lies_raised_in_state v s home at level n h raised here above = (
    λ owner. (at, owner, lies_within v home at h.lies raised.within),
    λ inside.
        let same = raised_is home at inside.0 level n raised here (state inside.1 above) (h.innermost inside.0 inside.2) in
        subst (λ x. owner_of m (Region x) ≡ Some (State s)) (sym same) inside.1,
  )

  -- two regions in either order
  pub meeting_turned : (a b p q : RegionId) (pair : RegionId × RegionId) → IsMeeting a b p q → p ≢ q → (pair ≡ (p, q)) ⊎ (pair ≡ (q, p))
      → IsMeeting a b pair.0 pair.1 × (pair.0 ≢ pair.1)
  meeting_turned a b p q pair h apart turn =
      let Fine : RegionId × RegionId → Type 0 = λ x. IsMeeting a b x.0 x.1 × (x.0 ≢ x.1) in
      ⊎_elim
      (λ same. subst Fine (sym same) (h, apart))
      (λ same. subst Fine (sym same) (meeting_turns a b p q h, λ e. apart (sym e)))
      turn

-- a sum over two regions in either order
pub sum_turned : (f : RegionId → ℕ) (p q : RegionId) (pair : RegionId × RegionId) → (pair ≡ (p, q)) ⊎ (pair ≡ (q, p))
    → f pair.0 + f pair.1 ≡ f p + f q
sum_turned f p q pair turn =
    let sum : RegionId × RegionId → ℕ = λ x. f x.0 + f x.1 in
    ⊎_elim (λ same. ap sum same) (λ same. ap sum same ∙ add_comm (f q) (f p)) turn
