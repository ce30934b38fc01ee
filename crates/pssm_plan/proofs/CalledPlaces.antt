-- What a way calls is there.
use Rattle.std.proofs.Common.{◌≡◌, ◌<◌, Some, length, slice_get, sym, subst, inl, ⊎_elim}
use Rattle.std.proofs.lemmas.Option.{slice_get_within}
use Rattle.pssm_model.specs.declared.ids.VertexId.{VertexId}
use Rattle.pssm_model.specs.declared.ids.RegionId.{RegionId}
use Rattle.pssm_model.specs.declared.elements.DraftMachine.{DraftMachine}
use Rattle.pssm_model.specs.declared.elements.Vertex.{Vertex}
use Rattle.pssm_model.specs.declared.elements.VertexKind.{VertexKind}
use Rattle.pssm_model.specs.declared.elements.VertexKind.TheVariants as kinds
use Rattle.pssm_model.specs.declared.elements.Owner.{Owner}
use Rattle.pssm_model.specs.declared.elements.Owner.TheVariants.{Region, State}
use Rattle.pssm_model.specs.declared.steps.Mode.{Mode}
use Rattle.pssm_model.specs.declared.steps.Mode.TheVariants.{Plain, Shallow, Deep}
use Rattle.pssm_model.specs.declared.steps.Item.TheVariants.{Exit, Enter, Opened}
use Rattle.pssm_model.specs.Forest.{HasKind, owner_of, vertex_at}
use Rattle.pssm_model.specs.Shapes.{HasShape, OwnsVertex}
use Rattle.pssm_model.specs.Legs.{IsEndState, LegEnters}
use Rattle.pssm_model.proofs.ElementLaws.{mapped_some}
use Rattle.pssm_model.proofs.OwnerChains.{owned_is_place}
use Rattle.pssm_model_laws.proofs.InnerPaths.{point_owner}
use Rattle.pssm_plan.specs.declared.ways.Way.{Way}
use Rattle.pssm_plan.specs.inner.ByWays.{calls_by}
use Rattle.pssm_plan.proofs.Depths.{scope_there}

module _ (m : DraftMachine) where
  -- what has a kind, or an owner, is there
  pub kind_there : (v : VertexId) (k : VertexKind) → HasKind m v k → v.0 < length m.vertices
  kind_there v k h =
      let at = mapped_some (λ (x : Vertex). x.kind) (vertex_at m v) k h in
      slice_get_within m.vertices v.0 at.0 at.1

  pub region_owned_there : (r : RegionId) (q : Owner) → owner_of m (Region r) ≡ Some q → r.0 < length m.regions
  region_owned_there r q e = owned_is_place m (Region r) q e

  -- the region that owns a vertex is there
  pub owner_there : HasShape m → (v : VertexId) (r : RegionId) → owner_of m (State v) ≡ Some (Region r) → r.0 < length m.regions
  owner_there shape v r e =
      let at = mapped_some (λ (x : Vertex). x.owner) (vertex_at m v) (Region r) e in
      owned at.0 at.1 at.2
    where
      owned : (x : Vertex) → vertex_at m v ≡ Some x → x.owner ≡ Region r → r.0 < length m.regions
      owned x is e = (subst (OwnsVertex m v) e (shape.vertices v x is).0).1

  -- a State that owns a region is there
  pub owning_there : HasShape m → (r : RegionId) (s : VertexId) → slice_get m.regions r.0 ≡ Some (State s) → s.0 < length m.vertices
  owning_there shape r s e = kind_there s kinds.State (shape.regions r (State s) e).0

module _ (m : DraftMachine) (way : Way) where
  pub exit_there : (s : VertexId) → calls_by m way (Exit s) → s.0 < length m.vertices
  exit_there s h = ⊎_elim (λ run. let area = run.0.1 in scope_there m s area.0 area.2) (λ e. ⊎_elim (λ b. absurd b) (λ b. absurd b) e) h.2

  end_there : HasShape m → (v s : VertexId) → IsEndState m v s → s.0 < length m.vertices
  end_there shape v s h =
      ⊎_elim
      (λ it. subst (λ (x : VertexId). x.0 < length m.vertices) (sym it.1) (⊎_elim (λ k. kind_there m v kinds.State k) (λ k. kind_there m v kinds.Final k) it.0))
      (λ entry. (
      let owner = point_owner shape v (inl entry.0) in
      let same : s ≡ owner.0 = (let e = entry.1 in let f = owner.1 in cc (e, f)) in
      subst (λ (x : VertexId). x.0 < length m.vertices) (sym same) (kind_there m owner.0 kinds.State owner.2)
      ))
      h

  pub enter_there : HasShape m → (s : VertexId) → calls_by m way (Enter s) → s.0 < length m.vertices
  enter_there shape s h =
      ⊎_elim
      (λ (run : LegEnters m way.route.value h.0 s). ⊎_elim
      (λ lies. scope_there m s lies.0 lies.2)
      (λ it. end_there shape run.0 s it)
      run.4)
      (λ e. ⊎_elim (λ b. absurd b) (λ b. absurd b) e)
      h.2

  pub opening_there : HasShape m → (mode : Mode) (r : RegionId) → calls_by m way (Opened r mode) → r.0 < length m.regions
  opening_there shape Plain r h =
      ⊎_elim (λ b. absurd b) (λ e. ⊎_elim (λ b. absurd b) (λ it. region_owned_there m r (State it.0) it.2) e) h.2
  opening_there shape Shallow r h =
      ⊎_elim (λ b. absurd b) (λ e. ⊎_elim (λ it. owner_there m shape it.0 r it.3) (λ b. absurd b) e) h.2
  opening_there shape Deep r h =
      ⊎_elim (λ b. absurd b) (λ e. ⊎_elim (λ it. owner_there m shape it.0 r it.3) (λ b. absurd b) e) h.2
