-- The States around a vertex, one after another from within, and where their entries stand.
use Rattle.std.proofs.Common.{◌≡◌, ◌⊎◌, ◌<◌, ◌≤◌, ℕ, List, Some, length, get_or, IsTrue, arith, refl, sym, subst, inl, inr, ⊎_elim}
use Rattle.std.proofs.lemmas.List.{get_or_default}
use Rattle.pssm_model.specs.declared.ids.VertexId.{VertexId}
use Rattle.pssm_model.specs.declared.ids.RegionId.{RegionId}
use Rattle.pssm_model.specs.declared.elements.DraftMachine.{DraftMachine}
use Rattle.pssm_model.specs.declared.elements.Owner.TheVariants.{Top, Region, State}
use Rattle.pssm_model.specs.declared.steps.Item.{Item}
use Rattle.pssm_model.specs.declared.steps.Item.TheVariants as items
use Rattle.pssm_model.specs.Forest.{owner_of, LiesInState, IsHome}
use Rattle.pssm_model.proofs.ElementLaws.{top_lies_nowhere}
use Rattle.pssm_model.proofs.Nesting.{under_cases}
use Rattle.pssm_plan.specs.declared.roster.Call.{Call}
use Rattle.pssm_plan.specs.inner.Marks.{IsPlaceOf}
use Rattle.pssm_plan.specs.inner.Passes.{AreFreeFrom}
use Rattle.pssm_plan.specs.inner.Places.{IsEntryFreeFrom}
use Rattle.pssm_plan.specs.inner.Sequence.{IsNestedPair}

module _ (m : DraftMachine) where
  -- the State of the innermost region in which a vertex lies is the innermost around it
  pub state_or_around : (v q : VertexId) (r : RegionId) → IsHome m v r → owner_of m (Region r) ≡ Some (State q) → (s : VertexId) → LiesInState m v s
      → (s ≡ q) ⊎ LiesInState m q s
  state_or_around v q r home e s h =
      ⊎_elim
      (λ same. inl (let f = h.1 in cc (same, e, f)))
      (λ under. ⊎_elim
      (λ is. absurd (cc is))
      (λ beyond. inr (h.0, h.1, beyond))
      (under_cases m (Region r) (State q) (Region h.0) e under))
      (home.innermost h.0 h.2)

  -- no State is around a vertex whose innermost region is a top region
  pub none_around : (v : VertexId) (r : RegionId) → IsHome m v r → owner_of m (Region r) ≡ Some Top → (s : VertexId) → LiesInState m v s → ⊥
  none_around v r home e s h =
      ⊎_elim
      (λ same. absurd (let f = h.1 in cc (same, e, f)))
      (λ under. ⊎_elim
      (λ is. absurd (cc is))
      (λ beyond. top_lies_nowhere (Region h.0) beyond)
      (under_cases m (Region r) Top (Region h.0) e under))
      (home.innermost h.0 h.2)

-- each State around the vertex is around the inner one too, or its entry does not stand between these places and wait
abbrev pub IsClimbed : DraftMachine → List Call → VertexId → VertexId → ℕ → ℕ → Type 0
IsClimbed m calls v inner last end = (s : VertexId) → LiesInState m v s → LiesInState m inner s ⊎ IsEntryFreeFrom calls s last end

module _ (calls : List Call) (s : VertexId) where
  pub entry_higher : (last more end : ℕ) → last ≤ more → IsEntryFreeFrom calls s last end → IsEntryFreeFrom calls s more end
  entry_higher last more end le free k d from = let low : last ≤ k = omega (arith, le, from) in free k d low

  pub entry_outside : (place from end : ℕ) → (place < from) ⊎ (end ≤ place) → IsPlaceOf calls (items.Enter s) place → IsEntryFreeFrom calls s from end
  entry_outside place from end out at k d low high inside is waits =
      let here = at k d inside is in ⊎_elim (λ lt. absurd (omega (arith, here, lt, low))) (λ le. absurd (omega (arith, here, le, high))) out

  pub entry_ran : (place from end : ℕ) → IsPlaceOf calls (items.Enter s) place → ((d : Call) → IsTrue (get_or calls place d).ran)
      → IsEntryFreeFrom calls s from end
  entry_ran place from end at ran k d low high inside is waits =
      waits (subst (λ (j : ℕ). IsTrue (get_or calls j d).ran) (sym (at k d inside is)) (ran d))

-- the call at a place has run, whatever stands for one past the end
pub ran_there : (calls : List Call) (place : ℕ) (d : Call) → place < length calls → IsTrue (get_or calls place d).ran → (e : Call)
    → IsTrue (get_or calls place e).ran
ran_there calls place d lt ran e = subst (λ (c : Call). IsTrue c.ran) (get_or_default calls place d e lt) ran

module _ (m : DraftMachine) (calls : List Call) (v : VertexId) where
  pub climbed_more : (inner q : VertexId) (last more end : ℕ) → ((s : VertexId) → LiesInState m inner s → (s ≡ q) ⊎ LiesInState m q s)
      → last ≤ more → IsEntryFreeFrom calls q more end → IsClimbed m calls v inner last end → IsClimbed m calls v q more end
  climbed_more inner q last more end around le free climbed s h =
      ⊎_elim
      (λ still. ⊎_elim
      (λ is. inr (subst (λ (x : VertexId). IsEntryFreeFrom calls x more end) (sym is) free))
      (λ further. inl further)
      (around s still))
      (λ was. inr (entry_higher calls s last more end le was))
      (climbed s h)

  entry_of : (x : Item) → IsNestedPair m x (items.Enter v) → (s : VertexId) × (x ≡ items.Enter s) × LiesInState m v s
  entry_of (items.Enter s) h = (s, refl, h)
  entry_of (items.Exit s) h = absurd h
  entry_of (items.Effect t) h = absurd h
  entry_of (items.Opened r mode) h = absurd h
  entry_of (items.Pick p) h = absurd h

  -- no entry of a State around the vertex stands between the places and waits
  pub climbed_all : (inner : VertexId) (last end : ℕ) → ((s : VertexId) → LiesInState m inner s → ⊥) → IsClimbed m calls v inner last end
      → AreFreeFrom (IsNestedPair m) calls (items.Enter v) last end
  climbed_all inner last end none climbed k d low high inside up =
      let entry = entry_of (get_or calls k d).item up.0 in
      ⊎_elim (λ still. none entry.0 still) (λ free. free k d low high inside entry.1 up.1) (climbed entry.0 entry.2)
