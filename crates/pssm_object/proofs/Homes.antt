-- What is active lies directly in a region of the machine.
use Rattle.std.proofs.Common.{◌≡◌, ◌<◌, length, Some, inl, inr, ⊎_elim}
use Rattle.pssm_model.specs.declared.ids.VertexId.{VertexId}
use Rattle.pssm_model.specs.declared.ids.RegionId.{RegionId}
use Rattle.pssm_model.specs.declared.elements.DraftMachine.{DraftMachine}
use Rattle.pssm_model.specs.declared.elements.Owner.{Owner}
use Rattle.pssm_model.specs.declared.elements.Owner.TheVariants.{Top, Region, State}
use Rattle.pssm_model.specs.declared.elements.Vertex.{Vertex}
use Rattle.pssm_model.specs.declared.elements.VertexKind.{VertexKind}
use Rattle.pssm_model.specs.declared.elements.VertexKind.TheVariants as kinds
use Rattle.pssm_model.specs.Configuration.{IsDirect}
use Rattle.pssm_model.specs.Forest.{vertex_at, owner_of, HasKind, IsStateOrFinal}
use Rattle.pssm_model.specs.Legs.{IsPoint}
use Rattle.pssm_model.specs.Shapes.{HasShape, OwnsVertex}
use Rattle.pssm_model.proofs.ElementLaws.{mapped_some}
use Rattle.pssm_config.specs.Tables.{Tables, Fits, configuration_of}

-- the region in which a place that is no connection point lies directly
owner_region : (m : DraftMachine) (v : VertexId) (p : Owner) → (IsPoint m v → ⊥) → owner_of m (State v) ≡ Some p → OwnsVertex m v p
    → (r : RegionId) × (owner_of m (State v) ≡ Some (Region r)) × (r.0 < length m.regions)
owner_region m v Top no_point e owns = absurd owns
owner_region m v (Region r) no_point e owns = (r, e, owns.1)
owner_region m v (State s) no_point e owns = absurd (no_point owns.0)

same_kind : (m : DraftMachine) (v : VertexId) (j k : VertexKind) → HasKind m v j → HasKind m v k → j ≡ k
same_kind m v j k h g = cc

no_state_is_point : (m : DraftMachine) (v : VertexId) → IsStateOrFinal m v → IsPoint m v → ⊥
no_state_is_point m v (inl state) (inl point) = let e = same_kind m v kinds.State kinds.EntryPoint state point in cc
no_state_is_point m v (inl state) (inr point) = let e = same_kind m v kinds.State kinds.ExitPoint state point in cc
no_state_is_point m v (inr final) (inl point) = let e = same_kind m v kinds.Final kinds.EntryPoint final point in cc
no_state_is_point m v (inr final) (inr point) = let e = same_kind m v kinds.Final kinds.ExitPoint final point in cc

home_of_kind : (m : DraftMachine) → HasShape m → (v : VertexId) (k : VertexKind) → HasKind m v k → (IsPoint m v → ⊥)
    → (r : RegionId) × (owner_of m (State v) ≡ Some (Region r)) × (r.0 < length m.regions)
home_of_kind m shape v k h no_point =
    let x = mapped_some (λ (x : Vertex). x.kind) (vertex_at m v) k h in
    owner_region m v x.0.owner no_point (let at = x.1 in cc) (shape.vertices v x.0 x.1).0

home_of_state : (m : DraftMachine) → HasShape m → (v : VertexId) → IsStateOrFinal m v
    → (r : RegionId) × (owner_of m (State v) ≡ Some (Region r)) × (r.0 < length m.regions)
home_of_state m shape v is =
    ⊎_elim (λ state. home_of_kind m shape v kinds.State state (no_state_is_point m v is)) (λ final. home_of_kind m shape v kinds.Final final (no_state_is_point m v is)) is

pub home_of_active : (m : DraftMachine) (t : Tables) → Fits m t → (v : VertexId) → (configuration_of t).Active v
    → (r : RegionId) × IsDirect m v r × (r.0 < length m.regions)
home_of_active m t fits v active =
    let state = fits.states v active in let home = home_of_state m fits.shape v state in (home.0, (home.1, state), home.2)
