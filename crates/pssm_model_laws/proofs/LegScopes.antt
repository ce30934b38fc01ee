-- What follows where a vertex lies in the scopes of two legs.
use Rattle.std.proofs.Common.{◌≡◌, ◌⊎◌, Some, sym, subst, inl, inr, ⊎_elim}
use Rattle.pssm_model.specs.declared.ids.VertexId.{VertexId}
use Rattle.pssm_model.specs.declared.ids.RegionId.{RegionId}
use Rattle.pssm_model.specs.declared.elements.DraftMachine.{DraftMachine}
use Rattle.pssm_model.specs.declared.elements.Owner.TheVariants.{Region, State}
use Rattle.pssm_model.specs.Forest.{owner_of, LiesInRegion, LiesInState, IsOrLiesIn}
use Rattle.pssm_model.specs.Legs.{Scope, LiesInScope}
use Rattle.pssm_model.specs.Legs.Scope.{Nowhere, Inside, Within}
use Rattle.pssm_model.proofs.Nesting.{lies_within}
use Rattle.pssm_model_laws.proofs.RegionChains.{on_one_chain, under_state}

-- A leg out of the State may exit there.
abbrev pub IsAround : DraftMachine → VertexId → Scope → Type 0
IsAround m s Nowhere = Unit {0}
IsAround m s (Inside q) = q ≡ s
IsAround m s (Within r) = LiesInRegion m s r

-- The scope of the first covers the second, or that of the second the first, or they are one, or one lies in the other.
abbrev pub Touch : DraftMachine → VertexId → Scope → VertexId → Scope → Type 0
Touch m s first q second = LiesInScope m q first ⊎ LiesInScope m s second ⊎ IsOrLiesIn m s q ⊎ IsOrLiesIn m q s

module _ (m : DraftMachine) (x s q : VertexId) where
  same_owner : (i j : RegionId) → i ≡ j → owner_of m (Region i) ≡ Some (State s) → owner_of m (Region j) ≡ Some (State q) → s ≡ q
  same_owner i j same e f = let at = subst (λ k. owner_of m (Region k) ≡ Some (State s)) same e in cc

  -- two States in which one vertex lies
  states_touch : LiesInState m x s → LiesInState m x q → IsOrLiesIn m s q ⊎ IsOrLiesIn m q s
  states_touch h g =
      ⊎_elim
      (λ within. ⊎_elim
      (λ same. inl (inl (same_owner h.0 g.0 same h.1 g.1)))
      (λ under. inl (inr (g.0, g.1, under_state m (Region h.0) s g.0 h.1 under)))
      within)
      (λ within. ⊎_elim
      (λ same. inl (inl (same_owner h.0 g.0 (sym same) h.1 g.1)))
      (λ under. inr (inr (h.0, h.1, under_state m (Region g.0) q h.0 g.1 under)))
      within)
      (on_one_chain m (State x) h.0 g.0 h.2 g.2)

  -- two regions
  regions_touch : (i j : RegionId) → LiesInRegion m s i → LiesInRegion m q j → LiesInRegion m x i → LiesInRegion m x j
      → LiesInRegion m q i ⊎ LiesInRegion m s j
  regions_touch i j first second h g =
      ⊎_elim (λ within. inr (lies_within m s i j first within)) (λ within. inl (lies_within m q j i second within)) (on_one_chain m (State x) i j h g)

  -- a State and a region around another
  state_touches : (j : RegionId) → LiesInRegion m q j → LiesInState m x s → LiesInRegion m x j → LiesInState m q s ⊎ LiesInRegion m s j
  state_touches j second h g =
      ⊎_elim
      (λ within. ⊎_elim
      (λ same. inl (h.0, h.1, subst (LiesInRegion m q) (sym same) second))
      (λ under. inr (under_state m (Region h.0) s j h.1 under))
      within)
      (λ within. inl (h.0, h.1, lies_within m q j h.0 second within))
      (on_one_chain m (State x) h.0 j h.2 g)

module _ (m : DraftMachine) (x s q : VertexId) where
  -- where a vertex lies in both scopes
  pub shared_touch : (first second : Scope) → IsAround m s first → IsAround m q second → LiesInScope m x first → LiesInScope m x second
      → Touch m s first q second
  shared_touch Nowhere second a c h g = absurd h
  shared_touch (Inside k) Nowhere a c h g = absurd g
  shared_touch (Within i) Nowhere a c h g = absurd g
  shared_touch (Inside k) (Inside j) a c h g =
      inr (inr (states_touch m x s q (subst (LiesInState m x) a h) (subst (LiesInState m x) c g)))
  shared_touch (Inside k) (Within j) a c h g =
      ⊎_elim
      (λ lies. inl (subst (LiesInState m q) (sym a) lies))
      (λ lies. inr (inl lies))
      (state_touches m x s q j c (subst (LiesInState m x) a h) g)
  shared_touch (Within i) (Inside j) a c h g =
      ⊎_elim
      (λ lies. inr (inl (subst (LiesInState m s) (sym c) lies)))
      (λ lies. inl lies)
      (state_touches m x q s i a (subst (LiesInState m x) c g) h)
  shared_touch (Within i) (Within j) a c h g =
      ⊎_elim (λ lies. inl lies) (λ lies. inr (inl lies)) (regions_touch m x s q i j a c h g)
