-- What the shape of a machine says of numbers: what is named is there, and each thing has one of each.
use Rattle.std.proofs.Common.{◌≡◌, ◌<◌, length, Some, subst, ap, ◌∙◌, ⊎_elim}
use Rattle.std.proofs.lemmas.Option.{slice_get_within}
use Rattle.pssm_model.specs.declared.ids.VertexId.{VertexId}
use Rattle.pssm_model.specs.declared.ids.RegionId.{RegionId}
use Rattle.pssm_model.specs.declared.ids.TransId.{TransId}
use Rattle.pssm_model.specs.declared.elements.DraftMachine.{DraftMachine}
use Rattle.pssm_model.specs.declared.elements.Vertex.{Vertex}
use Rattle.pssm_model.specs.declared.elements.Transition.{Transition}
use Rattle.pssm_model.specs.declared.elements.VertexKind.{VertexKind}
use Rattle.pssm_model.specs.declared.elements.VertexKind.TheVariants as kinds
use Rattle.pssm_model.specs.WellFormed.{OwnsSome}
use Rattle.pssm_model.specs.declared.elements.Owner.{Owner}
use Rattle.pssm_model.specs.declared.elements.Owner.TheVariants.{Region, State}
use Rattle.pssm_model.specs.Forest.{transition_at, vertex_at, owner_of, HasKind}
use Rattle.pssm_model.specs.Shapes.{HasShape, OwnsVertex}
use Rattle.pssm_model.proofs.ElementLaws.{mapped_some, mapped_at, some_at, kind_unique}
use Rattle.pssm_wellformed.specs.declared.ends.End.{End}
use Rattle.pssm_wellformed.specs.declared.ends.End.TheVariants.{Source, Target}
use Rattle.pssm_wellformed.specs.inner.Ends.{HasEnd}

-- Both the transition and the vertex at its end are there.
pub end_there : (m : DraftMachine) → HasShape m → (end : End) (t : TransId) (v : VertexId) → HasEnd m end t v → (t.0 < length m.transitions) × (v.0 < length m.vertices)
end_there m shape Source t v h =
    let at = mapped_some (λ (x : Transition). x.source) (transition_at m t) v h in
    (slice_get_within m.transitions t.0 at.0 at.1, subst (λ (w : VertexId). w.0 < length m.vertices) at.2 (shape.ends t at.0 at.1).0)
end_there m shape Target t v h =
    let at = mapped_some (λ (x : Transition). x.target) (transition_at m t) v h in
    (slice_get_within m.transitions t.0 at.0 at.1, subst (λ (w : VertexId). w.0 < length m.vertices) at.2 (shape.ends t at.0 at.1).1)

-- It has one vertex at each end.
pub end_only : (m : DraftMachine) (end : End) (t : TransId) (v w : VertexId) → HasEnd m end t v → HasEnd m end t w → v ≡ w
end_only m Source t v w h g = cc
end_only m Target t v w h g = cc

-- A vertex of a kind is there.
pub kind_there : (m : DraftMachine) (v : VertexId) (kind : VertexKind) → HasKind m v kind → v.0 < length m.vertices
kind_there m v kind h = let at = mapped_some (λ (x : Vertex). x.kind) (vertex_at m v) kind h in slice_get_within m.vertices v.0 at.0 at.1

-- The owner of a vertex is one that it may have.
pub owner_may : (m : DraftMachine) → HasShape m → (v : VertexId) (p : Owner) → owner_of m (State v) ≡ Some p → OwnsVertex m v p
owner_may m shape v p h =
    let at = mapped_some (λ (x : Vertex). x.owner) (vertex_at m v) p h in
    subst (OwnsVertex m v) at.2 (shape.vertices v at.0 at.1).0

-- A region that owns a vertex is there.
pub owning_region_there : (m : DraftMachine) → HasShape m → (v : VertexId) (r : RegionId) → owner_of m (State v) ≡ Some (Region r) → r.0 < length m.regions
owning_region_there m shape v r h = (owner_may m shape v (Region r) h).1

-- A State that owns a region is there.
pub owning_state_there : (m : DraftMachine) → HasShape m → (r : RegionId) (s : VertexId) → owner_of m (Region r) ≡ Some (State s) → s.0 < length m.vertices
owning_state_there m shape r s h = kind_there m s _ (shape.regions r (State s) h).0

-- A region has one owner, and a vertex too.
pub one_owner : (m : DraftMachine) (p q s : Owner) → owner_of m p ≡ Some q → owner_of m p ≡ Some s → q ≡ s
one_owner m p q s h g = cc

pub one_region : (m : DraftMachine) (p : Owner) (r q : RegionId) → owner_of m p ≡ Some (Region r) → owner_of m p ≡ Some (Region q) → r ≡ q
one_region m p r q h g = cc

pub one_state : (m : DraftMachine) (p : Owner) (s q : VertexId) → owner_of m p ≡ Some (State s) → owner_of m p ≡ Some (State q) → s ≡ q
one_state m p s q h g = cc

-- A final state owns nothing.
pub final_owns_none : (m : DraftMachine) → HasShape m → (v : VertexId) → HasKind m v kinds.Final → OwnsSome m v → ⊥
final_owns_none m shape v final owns =
    let other : HasKind m v kinds.State → ⊥ = λ state. let e = kind_unique m v kinds.Final kinds.State final state in cc in
    ⊎_elim (λ r. other (shape.regions r.0 (State v) r.1).0) (λ p. other (owner_may m shape p.0 (State v) p.1).1) owns

-- A transition that is there has a vertex at each end.
pub end_exists : (m : DraftMachine) (end : End) (t : TransId) → t.0 < length m.transitions → (v : VertexId) × HasEnd m end t v
end_exists m Source t lt = let at = some_at m.transitions t.0 lt in (at.0.source, mapped_at (λ (x : Transition). x.source) (transition_at m t) at.0 at.1)
end_exists m Target t lt = let at = some_at m.transitions t.0 lt in (at.0.target, mapped_at (λ (x : Transition). x.target) (transition_at m t) at.0 at.1)

-- what the vertex of a number says of its owner
pub owner_at : (m : DraftMachine) (v : VertexId) (x : Vertex) (p : Owner) → vertex_at m v ≡ Some x → x.owner ≡ p → owner_of m (State v) ≡ Some p
owner_at m v x p at is = mapped_at (λ (y : Vertex). y.owner) (vertex_at m v) x at ∙ ap Some is
