-- Where States, regions and vertices lie: owner chains, and the places where routes exit and enter.
use Rattle.std.proofs.Common.{◌≡◌, ◌≢◌, ◌⊎◌, ℕ, suc, Some, refl, sym, subst, ◌∙◌, inl, inr, ⊎_elim}
use Rattle.pssm_model.specs.declared.ids.VertexId.{VertexId}
use Rattle.pssm_model.specs.declared.ids.RegionId.{RegionId}
use Rattle.pssm_model.specs.declared.elements.DraftMachine.{DraftMachine}
use Rattle.pssm_model.specs.declared.elements.Vertex.{Vertex}
use Rattle.pssm_model.specs.declared.elements.VertexKind.{VertexKind}
use Rattle.pssm_model.specs.declared.elements.VertexKind.TheVariants as kinds
use Rattle.pssm_model.specs.declared.elements.Owner.{Owner}
use Rattle.pssm_model.specs.declared.elements.Owner.TheVariants.{Top, Region, State}
use Rattle.pssm_model.specs.Forest.{vertex_at, owner_of, HasKind, IsStateOrFinal, LiesUnder, LiesInRegion, LiesInState, IsOrLiesIn, IsWithin, HasRegionsAbove}
use Rattle.pssm_model.specs.Forest.LiesUnder.{owned, further}
use Rattle.pssm_model.specs.Legs.{IsPoint, IsEndState, Scope, LiesInScope}
use Rattle.pssm_model.specs.Legs.Scope.{Nowhere, Inside, Within}
use Rattle.pssm_model.specs.FiringSets.{IsHistory, IsLateOrigin}
use Rattle.pssm_model.specs.Shapes.{HasShape, OwnsVertex}
use Rattle.pssm_model.proofs.ElementLaws.{kind_unique, mapped_some, mapped_at}
use Rattle.pssm_model.proofs.Nesting.{under_cases, region_cases, outer_of_region, lies_within}
use Rattle.pssm_model.proofs.OwnerChains.{one_owner, under_further, circle_is_endless, top_lies_nowhere, region_down}
use Rattle.pssm_model_laws.proofs.RegionChains.{on_one_chain, under_state as state_under}
use Rattle.pssm_model_laws.proofs.KnownPlaces.{owner_under, depth_under}
use Rattle.pssm_plan.proofs.Depths.{state_down_region}

-- The region is all of the place, or lies in it.
abbrev pub IsRegionIn : DraftMachine → RegionId → Scope → Type 0
IsRegionIn m r Nowhere = ⊥
IsRegionIn m r (Inside s) = LiesUnder m (Region r) (State s)
IsRegionIn m r (Within q) = IsWithin m r q

-- The region lies in the place, and is not all of it.
abbrev pub IsRegionUnder : DraftMachine → RegionId → Scope → Type 0
IsRegionUnder m r Nowhere = ⊥
IsRegionUnder m r (Inside s) = LiesUnder m (Region r) (State s)
IsRegionUnder m r (Within q) = LiesUnder m (Region r) (Region q)

-- The region is all of the place, or one of the State that is it.
abbrev pub IsEdge : DraftMachine → RegionId → Scope → Type 0
IsEdge m r Nowhere = ⊥
IsEdge m r (Inside s) = owner_of m (Region r) ≡ Some (State s)
IsEdge m r (Within q) = r ≡ q

-- The vertex is the State, or lies on an owner chain that passes it.
abbrev pub IsAtOrUnder : DraftMachine → VertexId → VertexId → Type 0
IsAtOrUnder m v s = (v ≡ s) ⊎ LiesUnder m (State v) (State s)

-- a choice or a history, from which a step goes on
abbrev pub IsGoOn : DraftMachine → VertexId → Type 0
IsGoOn m c = HasKind m c kinds.Choice ⊎ IsHistory m c

-- The place lies in the State, or is that.
abbrev pub IsPlaceIn : DraftMachine → Scope → VertexId → Type 0
IsPlaceIn m Nowhere s = ⊥
IsPlaceIn m (Inside w) s = IsOrLiesIn m w s
IsPlaceIn m (Within r) s = LiesUnder m (Region r) (State s)

-- a vertex is of one kind
pub other_kind : (m : DraftMachine) (v : VertexId) (k l : VertexKind) → k ≢ l → HasKind m v k → HasKind m v l → ⊥
other_kind m v k l apart h g = apart (kind_unique m v k l h g)

-- such a vertex is of no other kind
pub go_on_is_no : (m : DraftMachine) (c : VertexId) (k : VertexKind) → k ≢ kinds.Choice → k ≢ kinds.ShallowHistory → k ≢ kinds.DeepHistory → IsGoOn m c
    → HasKind m c k → ⊥
go_on_is_no m c k no_choice no_shallow no_deep is h =
    ⊎_elim
    (other_kind m c k kinds.Choice no_choice h)
    (⊎_elim (other_kind m c k kinds.ShallowHistory no_shallow h) (other_kind m c k kinds.DeepHistory no_deep h))
    is

-- names of States and regions as places
pub same_state : (s q : VertexId) → State s ≡ State q → s ≡ q
same_state s q e = cc

pub same_region_place : (r q : RegionId) → Region r ≡ Region q → r ≡ q
same_region_place r q e = cc

module _ {m : DraftMachine} (shape : HasShape m) where
  -- no region lies in itself
  pub no_circle : (r : RegionId) → LiesUnder m (Region r) (Region r) → ⊥
  no_circle r h =
      let up = owner_under m (Region r) (Region r) h in
      circle_is_endless h (shape.regions r up.0 up.1).1.2

  -- a region around another one that lies in a place lies there too, unless that is at its edge
  pub edge_or_outer : (r h : RegionId) (s : VertexId) (area : Scope) → owner_of m (Region r) ≡ Some (State s)
      → owner_of m (State s) ≡ Some (Region h) → IsRegionIn m r area → IsEdge m r area ⊎ IsRegionIn m h area
  edge_or_outer r h s Nowhere e f inside = absurd inside
  edge_or_outer r h s (Inside w) e f inside =
      ⊎_elim
      (λ same. inl (subst (λ x. owner_of m (Region r) ≡ Some x) same e))
      (λ more. ⊎_elim (λ same. absurd (cc)) (λ out. inr out) (under_cases m (State s) (Region h) (State w) f more))
      (under_cases m (Region r) (State s) (State w) e inside)
  edge_or_outer r h s (Within q) e f inside =
      ⊎_elim (λ same. inl same) (λ under. inr ((outer_of_region m r s h e f).innermost q under)) inside

  -- the State that owns a region at the edge of a place does not lie there
  pub edge_owner_outside : (r : RegionId) (s : VertexId) (area : Scope) → owner_of m (Region r) ≡ Some (State s) → IsEdge m r area
      → LiesInScope m s area → ⊥
  edge_owner_outside r s Nowhere e edge lies = lies
  edge_owner_outside r s (Inside w) e edge lies =
      let same : s ≡ w = same_state s w (one_owner m (Region r) (State s) (State w) e edge) in
      no_circle lies.0 (further (subst (λ x. owner_of m (Region lies.0) ≡ Some (State x)) (sym same) lies.1) lies.2)
  edge_owner_outside r s (Within q) e edge lies = no_circle r (further e (subst (λ x. LiesInRegion m s x) (sym edge) lies))

  -- nor does a region around it
  pub edge_not_around : (r p : RegionId) (area : Scope) → IsEdge m r area → LiesUnder m (Region r) (Region p) → IsRegionIn m p area → ⊥
  edge_not_around r p Nowhere edge under inside = inside
  edge_not_around r p (Inside w) edge under inside =
      ⊎_elim
      (λ same. cc)
      (λ more. no_circle p (under_further inside more))
      (under_cases m (Region r) (State w) (Region p) edge under)
  edge_not_around r p (Within q) edge under inside =
      ⊎_elim
      (λ same. no_circle r (subst (λ x. LiesUnder m (Region r) (Region x)) (same ∙ sym edge) under))
      (λ more. no_circle p (under_further (subst (λ x. LiesUnder m (Region p) (Region x)) (sym edge) more) under))
      inside

  -- so a region does not own a State in which another lies that it owns
  pub never_under : (s v : VertexId) (r : RegionId) → owner_of m (State s) ≡ Some (Region r)
      → owner_of m (State v) ≡ Some (Region r)
      → LiesUnder m (State s) (State v) → ⊥
  never_under s v r e f under =
      ⊎_elim
      (λ same. cc)
      (λ more. no_circle r (under_further more (owned f)))
      (under_cases m (State s) (Region r) (State v) e under)

  -- two States of one region on one owner chain are the same
  pub one_on_chain : (p : Owner) (s v : VertexId) (r : RegionId) → owner_of m (State s) ≡ Some (Region r)
      → owner_of m (State v) ≡ Some (Region r)
      → LiesUnder m p (State s) → LiesUnder m p (State v) → s ≡ v
  one_on_chain p s v r e f (owned up) second =
      ⊎_elim
      (λ same. same_state s v same)
      (λ under. absurd (never_under s v r e f under))
      (under_cases m p (State s) (State v) up second)
  one_on_chain p s v r e f (further {q = k} up rest) second =
      ⊎_elim
      (λ same. absurd (never_under v s r f e (subst (λ x. LiesUnder m x (State s)) same rest)))
      (λ more. one_on_chain k s v r e f rest more)
      (under_cases m p k (State v) up second)

  pub one_reached : (w s v : VertexId) (r : RegionId) → owner_of m (State s) ≡ Some (Region r)
      → owner_of m (State v) ≡ Some (Region r)
      → IsAtOrUnder m w s → IsAtOrUnder m w v → s ≡ v
  one_reached w s v r e f first second =
      ⊎_elim
      (λ same. ⊎_elim
      (λ too. sym same ∙ too)
      (λ under. absurd (never_under s v r e f (subst (λ x. LiesUnder m (State x) (State v)) same under)))
      second)
      (λ under. ⊎_elim
      (λ too. absurd (never_under v s r f e (subst (λ x. LiesUnder m (State x) (State s)) too under)))
      (λ more. one_on_chain (State w) s v r e f under more)
      second)
      first

  -- a region owns each vertex that is no connection point
  owner_is_region : (v : VertexId) (p : Owner) → (IsPoint m v → ⊥) → owner_of m (State v) ≡ Some p → OwnsVertex m v p
      → (h : RegionId) × (owner_of m (State v) ≡ Some (Region h))
  owner_is_region v Top not e owns = absurd owns
  owner_is_region v (Region h) not e owns = (h, e)
  owner_is_region v (State q) not e owns = absurd (not owns.0)

  home_of_kind : (v : VertexId) (k : VertexKind) → k ≢ kinds.EntryPoint → k ≢ kinds.ExitPoint → HasKind m v k
      → (h : RegionId) × (owner_of m (State v) ≡ Some (Region h))
  home_of_kind v k apart other h =
      let x = mapped_some (λ (x : Vertex). x.kind) (vertex_at m v) k h in
      owner_is_region v x.0.owner
      (λ point. ⊎_elim (other_kind m v k kinds.EntryPoint apart h) (other_kind m v k kinds.ExitPoint other h) point)
      (mapped_at (λ (x : Vertex). x.owner) (vertex_at m v) x.0 x.1) (shape.vertices v x.0 x.1).0

  pub home_of_state : (s : VertexId) → IsStateOrFinal m s → (h : RegionId) × (owner_of m (State s) ≡ Some (Region h))
  home_of_state s is =
      ⊎_elim (home_of_kind s kinds.State (λ e. cc) (λ e. cc)) (home_of_kind s kinds.Final (λ e. cc) (λ e. cc)) is

  home_of_history : (v : VertexId) → IsHistory m v → (h : RegionId) × (owner_of m (State v) ≡ Some (Region h))
  home_of_history v is =
      ⊎_elim (home_of_kind v kinds.ShallowHistory (λ e. cc) (λ e. cc)) (home_of_kind v kinds.DeepHistory (λ e. cc) (λ e. cc)) is

  pub home_of_late : (v : VertexId) → IsLateOrigin m v → (h : RegionId) × (owner_of m (State v) ≡ Some (Region h))
  home_of_late v is =
      ⊎_elim
      (home_of_kind v kinds.Initial (λ e. cc) (λ e. cc))
      (⊎_elim (home_of_history v) (home_of_kind v kinds.Choice (λ e. cc) (λ e. cc)))
      is

  pub home_of_end : (c : VertexId) → IsGoOn m c → (h : RegionId) × (owner_of m (State c) ≡ Some (Region h))
  home_of_end c is = ⊎_elim (home_of_kind c kinds.Choice (λ e. cc) (λ e. cc)) (home_of_history c) is

  -- a region that lies in a State is one of it, or lies in one of it
  pub under_state : (r : RegionId) (w : VertexId) → LiesUnder m (Region r) (State w)
      → (q : RegionId) × (owner_of m (Region q) ≡ Some (State w)) × IsWithin m r q
  under_state r w (owned e) = (r, e, inl refl)
  under_state r w (further {q = Top} e rest) = absurd (top_lies_nowhere (State w) rest)
  under_state r w (further {q = Region h} e rest) = absurd (shape.regions r (Region h) e).0
  under_state r w (further {q = State o} e (owned f)) =
      let home = home_of_state o (inl (shape.regions r (State o) e).0) in
      let clash = home.1 in
      absurd (cc)
  under_state r w (further {q = State o} e (further {q = Top} f rest)) = absurd (top_lies_nowhere (State w) rest)
  under_state r w (further {q = State o} e (further {q = State x} f rest)) =
      let home = home_of_state o (inl (shape.regions r (State o) e).0) in
      let clash = home.1 in
      absurd (cc)
  under_state r w (further {q = State o} e (further {q = Region h} f rest)) =
      let up = under_state h w rest in (
        up.0,
        up.1,
        inr (⊎_elim
            (λ same. subst (λ x. LiesUnder m (Region r) (Region x)) same (further e (owned f)))
            (λ under. further e (further f under))
            up.2),
      )

  -- what lies in a region that lies in a place lies there
  pub region_in_scope : (s : VertexId) (r : RegionId) (area : Scope) → LiesInRegion m s r → IsRegionIn m r area → LiesInScope m s area
  region_in_scope s r Nowhere lies inside = inside
  region_in_scope s r (Inside w) lies inside = let up = under_state r w inside in (up.0, up.1, lies_within m s r up.0 lies up.2)
  region_in_scope s r (Within q) lies inside = lies_within m s r q lies inside

  -- so many regions stand above the region of a vertex
  pub home_above : (s : VertexId) (r : RegionId) → owner_of m (State s) ≡ Some (Region r)
      → (k : ℕ) × HasRegionsAbove m (Region r) k
  home_above s r e =
      let depth = depth_under shape s (Region r) (owned e) in
      let less = region_down r e depth.2 in
      (less.0, less.2)

  -- a vertex lies in one region of a State
  deeper : (s : VertexId) (r q : RegionId) → owner_of m (Region r) ≡ Some (State s) → owner_of m (Region q) ≡ Some (State s)
      → LiesUnder m (Region r) (Region q) → ⊥
  deeper s r q e f under =
      ⊎_elim
      (λ clash. cc)
      (λ out. no_circle q (further f out))
      (under_cases m (Region r) (State s) (Region q) e under)

  pub one_region_of : (v s : VertexId) (r q : RegionId) → owner_of m (Region r) ≡ Some (State s) → owner_of m (Region q) ≡ Some (State s)
      → LiesInRegion m v r → LiesInRegion m v q → r ≡ q
  one_region_of v s r q e f lies also =
      ⊎_elim
      (λ within. ⊎_elim (λ same. same) (λ under. absurd (deeper s r q e f under)) within)
      (λ within. ⊎_elim (λ same. sym same) (λ under. absurd (deeper s q r f e under)) within)
      (on_one_chain m (State v) r q lies also)

  -- a State owns a region that lies in another, and a region owns the State
  owner_is_state : (r q : RegionId) (p : Owner) → owner_of m (Region r) ≡ Some p → LiesUnder m (Region r) (Region q)
      → (s : VertexId) × (h : RegionId) × (owner_of m (Region r) ≡ Some (State s)) × (owner_of m (State s) ≡ Some (Region h))
  owner_is_state r q Top e under =
      absurd (⊎_elim
      (λ same. cc)
      (λ more. top_lies_nowhere (Region q) more)
      (under_cases m (Region r) Top (Region q) e under))
  owner_is_state r q (Region k) e under = absurd (shape.regions r (Region k) e).0
  owner_is_state r q (State s) e under =
      let home = home_of_state s (inl (shape.regions r (State s) e).0) in
      (s, home.0, e, home.1)

  pub outer_of : (r q : RegionId) → LiesUnder m (Region r) (Region q)
      → (s : VertexId) × (h : RegionId) × (owner_of m (Region r) ≡ Some (State s)) × (owner_of m (State s) ≡ Some (Region h))
  outer_of r q under = let up = owner_under m (Region r) (Region q) under in owner_is_state r q up.0 up.1 under

module _ (m : DraftMachine) where
  pub under_is_in : (r : RegionId) (area : Scope) → IsRegionUnder m r area → IsRegionIn m r area
  under_is_in r Nowhere under = under
  under_is_in r (Inside s) under = under
  under_is_in r (Within q) under = inr under

  -- a region of a State that lies in a place lies there
  pub owned_under : (r : RegionId) (s : VertexId) (area : Scope) → owner_of m (Region r) ≡ Some (State s) → LiesInScope m s area
      → IsRegionUnder m r area
  owned_under r s Nowhere e lies = lies
  owned_under r s (Inside w) e lies = further e (under_further lies.2 (owned lies.1))
  owned_under r s (Within q) e lies = further e lies

  -- and so does the region that owns it
  pub home_in_scope : (s : VertexId) (r : RegionId) (area : Scope) → owner_of m (State s) ≡ Some (Region r) → LiesInScope m s area
      → IsRegionIn m r area
  home_in_scope s r Nowhere e lies = lies
  home_in_scope s r (Inside w) e lies =
      ⊎_elim
      (λ same. owned (subst (λ x. owner_of m (Region x) ≡ Some (State w)) (sym same) lies.1))
      (λ under. under_further under (owned lies.1))
      (region_cases m (State s) r lies.0 e lies.2)
  home_in_scope s r (Within q) e lies = region_cases m (State s) r q e lies

  -- what lies in a State lies where that lies
  pub around_in_scope : (v s : VertexId) (r : RegionId) (area : Scope) → LiesInRegion m v r → owner_of m (Region r) ≡ Some (State s)
      → LiesInScope m s area → LiesInScope m v area
  around_in_scope v s r Nowhere lies e outer = outer
  around_in_scope v s r (Inside w) lies e outer = (outer.0, outer.1, under_further lies (further e outer.2))
  around_in_scope v s r (Within q) lies e outer = under_further lies (further e outer)

  -- what lies in a region lies in those around it
  pub within_further : (r q k : RegionId) → IsWithin m r q → IsWithin m q k → IsWithin m r k
  within_further r q k first second =
      ⊎_elim
      (λ same. subst (λ x. IsWithin m x k) (sym same) second)
      (λ under. inr (⊎_elim
      (λ same. subst (λ x. LiesUnder m (Region r) (Region x)) same under)
      (λ more. under_further under more)
      second))
      first

  pub within_in : (r q : RegionId) (area : Scope) → IsWithin m r q → IsRegionIn m q area → IsRegionIn m r area
  within_in r q Nowhere within inside = inside
  within_in r q (Inside w) within inside =
      ⊎_elim
      (λ same. subst (λ x. LiesUnder m (Region x) (State w)) (sym same) inside)
      (λ under. under_further under inside)
      within
  within_in r q (Within k) within inside = within_further r q k within inside

  -- what stands at an end lies where that lies
  at_end_in_region : (v s : VertexId) (r : RegionId) → IsEndState m v s → LiesInRegion m v r → LiesInRegion m s r
  at_end_in_region v s r at lies =
      ⊎_elim
      (λ same. subst (λ x. LiesInRegion m x r) (sym same.1) lies)
      (λ entry. state_under m (State v) s r entry.1 lies)
      at

  pub at_end_in_scope : (v s : VertexId) (area : Scope) → IsEndState m v s → LiesInScope m v area → LiesInScope m s area
  at_end_in_scope v s Nowhere at lies = lies
  at_end_in_scope v s (Inside w) at lies = (lies.0, lies.1, at_end_in_region v s lies.0 at lies.2)
  at_end_in_scope v s (Within r) at lies = at_end_in_region v s r at lies

  -- the vertex that a State is, or is in, at or under which another lies
  pub under_or_at : (v s : VertexId) → IsOrLiesIn m v s → IsAtOrUnder m v s
  under_or_at v s h = ⊎_elim (λ same. inl same) (λ lies. inr (under_further lies.2 (owned lies.1))) h

  pub under_at : (v w s : VertexId) → LiesUnder m (State v) (State w) → IsAtOrUnder m w s → LiesUnder m (State v) (State s)
  under_at v w s under at =
      ⊎_elim (λ same. subst (λ x. LiesUnder m (State v) (State x)) same under) (λ more. under_further under more) at

  pub in_region_at : (v s : VertexId) (r : RegionId) → IsAtOrUnder m v s → LiesInRegion m s r → LiesInRegion m v r
  in_region_at v s r at lies =
      ⊎_elim (λ same. subst (λ x. LiesInRegion m x r) (sym same) lies) (λ under. under_further under lies) at

  -- of a place where a vertex lies and a State in which it lies, either the place lies in the State, or the State in the place
  of_one : (w s : VertexId) (r q : RegionId) → owner_of m (Region r) ≡ Some (State w) → owner_of m (Region q) ≡ Some (State s) → r ≡ q → w ≡ s
  of_one w s r q e f same = same_state w s (one_owner m (Region q) (State w) (State s) (subst (λ x. owner_of m (Region x) ≡ Some (State w)) same e) f)

  pub in_or_around : (q s : VertexId) (area : Scope) → LiesInScope m q area → LiesInState m q s → IsPlaceIn m area s ⊎ LiesInScope m s area
  in_or_around q s Nowhere lies inside = absurd lies
  in_or_around q s (Inside w) lies inside =
      ⊎_elim
      (λ within. ⊎_elim
      (λ same. inl (inl (of_one w s lies.0 inside.0 lies.1 inside.1 same)))
      (λ under. inl (inr (inside.0, inside.1, state_under m (Region lies.0) w inside.0 lies.1 under)))
      within)
      (λ within. ⊎_elim
      (λ same. inl (inl (of_one w s lies.0 inside.0 lies.1 inside.1 (sym same))))
      (λ under. inr (lies.0, lies.1, state_under m (Region inside.0) s lies.0 inside.1 under))
      within)
      (on_one_chain m (State q) lies.0 inside.0 lies.2 inside.2)
  in_or_around q s (Within r) lies inside =
      ⊎_elim
      (λ within. inl (⊎_elim
      (λ same. owned (subst (λ x. owner_of m (Region x) ≡ Some (State s)) (sym same) inside.1))
      (λ under. under_further under (owned inside.1))
      within))
      (λ within. ⊎_elim
      (λ same. inl (owned (subst (λ x. owner_of m (Region x) ≡ Some (State s)) same inside.1)))
      (λ under. inr (state_under m (Region inside.0) s r inside.1 under))
      within)
      (on_one_chain m (State q) r inside.0 lies inside.2)

  -- so many regions stand above the region around one
  pub outer_above : (r h : RegionId) (s : VertexId) (k : ℕ) → owner_of m (Region r) ≡ Some (State s)
      → owner_of m (State s) ≡ Some (Region h)
      → HasRegionsAbove m (Region r) k → (j : ℕ) × (k ≡ suc j) × HasRegionsAbove m (Region h) j
  outer_above r h s k e f above = region_down h f (state_down_region s r e k above)

module _ {m : DraftMachine} (shape : HasShape m) where
  -- a State does not lie in a place that lies in it
  pub place_apart : (s : VertexId) (area : Scope) → IsPlaceIn m area s → LiesInScope m s area → ⊥
  place_apart s Nowhere inside lies = inside
  place_apart s (Inside w) inside lies =
      no_circle shape lies.0 (⊎_elim
      (λ same. further (subst (λ x. owner_of m (Region lies.0) ≡ Some (State x)) same lies.1) lies.2)
      (λ deep. further lies.1 (under_further deep.2 (further deep.1 lies.2)))
      inside)
  place_apart s (Within r) inside lies = no_circle shape r (under_further inside lies)
