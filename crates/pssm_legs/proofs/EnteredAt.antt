-- What a leg enters, seen from where its transitions end.
use Rattle.std.proofs.Common.{◌≡◌, ◌⊎◌, ◌<◌, ℕ, length, Some, sym, subst, inl, inr, ⊎_elim}
use Rattle.pssm_model.specs.declared.ids.VertexId.{VertexId}
use Rattle.pssm_model.specs.declared.ids.RegionId.{RegionId}
use Rattle.pssm_model.specs.declared.elements.DraftMachine.{DraftMachine}
use Rattle.pssm_model.specs.declared.elements.Owner.TheVariants.{Region, State}
use Rattle.pssm_model.specs.Forest.{owner_of, LiesUnder, LiesInRegion, LiesInState, IsHome}
use Rattle.pssm_model.specs.Forest.LiesUnder.{further}
use Rattle.pssm_model.specs.Legs.{Enters, LiesInScope}
use Rattle.pssm_model.specs.Shapes.{HasShape}
use Rattle.pssm_model.proofs.OwnerChains.{under_further, circle_is_endless}
use Rattle.pssm_model.proofs.Nesting.{shallower}
use Rattle.pssm_model_laws.proofs.RegionChains.{counted}
use Rattle.pssm_legs.specs.declared.areas.Area.{Area}
use Rattle.pssm_legs.specs.declared.areas.Area.TheVariants.{Nowhere, Inside, Within}
use Rattle.pssm_legs.specs.declared.entering.Aim.{Aim}
use Rattle.pssm_legs.specs.declared.legs.Leg.{Leg}
use Rattle.pssm_legs.specs.Areas.{scope_of}
use Rattle.pssm_legs.specs.inner.Told.{IsHomeArea, IsPassed, HasTarget, Meets, EndsWhere, HasFurtherTarget}

-- no State lies between a vertex and the innermost region in which it lies
home_holds_none : (m : DraftMachine) → HasShape m → (v s : VertexId) (r : RegionId) → v.0 < length m.vertices → IsHome m v r → LiesInRegion m s r
    → LiesInState m v s → ⊥
home_holds_none m shape v s r there home lies around =
    let above = counted shape v there in
    let over = shallower m (State v) r above.0 home.lies above.1 in
    let up : LiesUnder m (Region around.0) (Region r) = further around.1 lies in
    ⊎_elim
    (λ same. circle_is_endless {m = m} (subst (λ (x : RegionId). LiesUnder m (Region x) (Region r)) (sym same) up) over.2)
    (λ under. circle_is_endless {m = m} (under_further {m = m} under up) over.2)
    (home.innermost around.0 around.2)

passes_none : (m : DraftMachine) → HasShape m → (v s : VertexId) (area : Area) → v.0 < length m.vertices → IsHomeArea m area v
    → LiesInScope m s (scope_of area) → LiesInState m v s → ⊥
passes_none m shape v s (Within r) there home lies around = home_holds_none m shape v s r there home lies around
passes_none m shape v s (Inside q) there home lies around = absurd home
passes_none m shape v s Nowhere there home lies around = absurd home

pub home_passes_none : (m : DraftMachine) → HasShape m → (a : Leg) (v s : VertexId) → v.0 < length m.vertices → IsHomeArea m a.area v
    → IsPassed m a v s → ⊥
home_passes_none m shape a v s there home h = passes_none m shape v s a.area there home h.0 h.1

-- a vertex on which a transition of the leg ends is that of the first or of a further one
pub target_meets : (m : DraftMachine) (a : Leg) (aim : Aim) (v : VertexId) → HasTarget m a v → Meets m a aim v
    → EndsWhere m (Meets m a aim) a.named ⊎ HasFurtherTarget m a (Meets m a aim)
target_meets m a aim v h is =
    ⊎_elim (λ same. inl (v, subst (λ t. Enters m t v) (sym same) h.2, is)) (λ more. inr (h.0, v, more, h.2, is)) h.1
