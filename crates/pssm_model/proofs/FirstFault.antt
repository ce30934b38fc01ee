-- The first fault of a draft, and the shape of one without any.
use Rattle.std.proofs.Common.{◌≡◌, ◌<◌, ◌≤◌, ℕ, suc, length, Some, subst, inl, inr, ⊎_elim, arith}
use Rattle.std.proofs.lemmas.Bool.{cases_lt}
use Rattle.std.proofs.lemmas.Option.{slice_get_within}
use Rattle.pssm_model.specs.declared.ids.VertexId.{VertexId}
use Rattle.pssm_model.specs.declared.ids.RegionId.{RegionId}
use Rattle.pssm_model.specs.declared.ids.TransId.{TransId}
use Rattle.pssm_model.specs.declared.elements.DraftMachine.{DraftMachine}
use Rattle.pssm_model.specs.declared.elements.Vertex.{Vertex}
use Rattle.pssm_model.specs.declared.elements.Transition.{Transition}
use Rattle.pssm_model.specs.declared.elements.Element.{Element}
use Rattle.pssm_model.specs.declared.elements.Element.TheVariants as elements
use Rattle.pssm_model.specs.declared.elements.Shape.{Shape}
use Rattle.pssm_model.specs.declared.shape.PlaceKind.TheVariants.{Regions, Vertices}
use Rattle.pssm_model.specs.Forest.{vertex_at, transition_at}
use Rattle.pssm_model.specs.Shapes.{place_of, OwnsVertex, HasShape, HasBadOwner, HasBadEnd, IsTooDeep, IsMisshapen, IsEarlier, IsShapeFault}
use Rattle.pssm_model.specs.inner.Depths.{IsPlace}
use Rattle.pssm_model.specs.inner.Faultless.{IsFaultless, place_element, transition_element, AreFaultless, IsFaultOf, IsFirstFault}
use Rattle.pssm_model.proofs.ElementLaws.{mapped_at, mapped_some}
use Rattle.pssm_model.proofs.OwnerChains.{owned_is_place, counted_is_place}
use Rattle.pssm_model.proofs.Faults.{sound_is_shapely, faulty_is_misshapen}

module _ (m : DraftMachine) where
  -- with no element that is not there is anything wrong
  absent_owner : (e : Element) → (IsPlace m (place_of e) → ⊥) → HasBadOwner m e → ⊥
  absent_owner e absent bad = absent (owned_is_place m (place_of e) bad.0 bad.1)

  absent_depth : (e : Element) → (IsPlace m (place_of e) → ⊥) → IsTooDeep m e → ⊥
  absent_depth e absent deep = absent (counted_is_place m deep.2)

  region_fine : AreFaultless m (place_element Regions) (length m.regions) → (r : RegionId) → IsMisshapen m (elements.Region r) → ⊥
  region_fine sound r wrong =
      ⊎_elim
      (λ lt. sound_is_shapely m (elements.Region r) (sound r.0 lt) wrong)
      (λ ge.
      let absent : r.0 < length m.regions → ⊥ = λ lt. omega arith in
      ⊎_elim
      (absent_owner (elements.Region r) absent)
      (λ rest. ⊎_elim (λ bad. bad) (λ more. ⊎_elim (λ past. absent past.1) (absent_depth (elements.Region r) absent) more) rest)
      wrong)
      (cases_lt r.0 (length m.regions))

  vertex_fine : AreFaultless m (place_element Vertices) (length m.vertices) → (v : VertexId) → IsMisshapen m (elements.Vertex v) → ⊥
  vertex_fine sound v wrong =
      ⊎_elim
      (λ lt. sound_is_shapely m (elements.Vertex v) (sound v.0 lt) wrong)
      (λ ge.
      let absent : v.0 < length m.vertices → ⊥ = λ lt. omega arith in
      ⊎_elim
      (absent_owner (elements.Vertex v) absent)
      (λ rest. ⊎_elim (λ bad. bad) (λ more. ⊎_elim (λ past. absent past.1) (absent_depth (elements.Vertex v) absent) more) rest)
      wrong)
      (cases_lt v.0 (length m.vertices))

  fault_at : (e : Element) (fault : Shape) → IsFaultOf m e fault → ((d : Element) → IsEarlier d e → IsMisshapen m d → ⊥) → IsShapeFault m fault
  fault_at e fault h before = (h.0, (e, h.1, (faulty_is_misshapen m e fault h, before)))

  pub first_region_fault : (fault : Shape) → IsFirstFault m (place_element Regions) fault → IsShapeFault m fault
  first_region_fault fault h = fault_at (place_element Regions h.number) fault h.here before
    where
      before : (d : Element) → IsEarlier d (place_element Regions h.number) → IsMisshapen m d → ⊥
      before (elements.Region r) lt wrong = sound_is_shapely m (elements.Region r) (h.before r.0 lt) wrong
      before (elements.Vertex v) lt wrong = lt
      before (elements.Transition t) lt wrong = lt

  pub first_vertex_fault : (fault : Shape) → AreFaultless m (place_element Regions) (length m.regions)
      → IsFirstFault m (place_element Vertices) fault → IsShapeFault m fault
  first_vertex_fault fault regions h = fault_at (place_element Vertices h.number) fault h.here before
    where
      before : (d : Element) → IsEarlier d (place_element Vertices h.number) → IsMisshapen m d → ⊥
      before (elements.Region r) lt wrong = region_fine regions r wrong
      before (elements.Vertex v) lt wrong = sound_is_shapely m (elements.Vertex v) (h.before v.0 lt) wrong
      before (elements.Transition t) lt wrong = lt

  pub first_transition_fault : (fault : Shape) → AreFaultless m (place_element Regions) (length m.regions)
      → AreFaultless m (place_element Vertices) (length m.vertices) → IsFirstFault m transition_element fault → IsShapeFault m fault
  first_transition_fault fault regions vertices h = fault_at (transition_element h.number) fault h.here before
    where
      before : (d : Element) → IsEarlier d (transition_element h.number) → IsMisshapen m d → ⊥
      before (elements.Region r) lt wrong = region_fine regions r wrong
      before (elements.Vertex v) lt wrong = vertex_fine vertices v wrong
      before (elements.Transition t) lt wrong = sound_is_shapely m (elements.Transition t) (h.before t.0 lt) wrong

  few : (n limit : ℕ) → (limit < n → ⊥) → n ≤ limit
  few n limit h = ⊎_elim (λ le. omega arith) (λ lt. absurd (h (omega arith))) (cases_lt n (suc limit))

  -- a draft without a fault has the shape of a machine
  pub sound_has_shape : AreFaultless m (place_element Regions) (length m.regions) → AreFaultless m (place_element Vertices) (length m.vertices)
      → AreFaultless m transition_element (length m.transitions) → HasShape m
  sound_has_shape regions vertices transitions = record {
    regions = λ r p e. (regions r.0 (slice_get_within m.regions r.0 p e)).owner p e;
    vertices = λ v x e.
        (vertices v.0 (slice_get_within m.vertices v.0 x e)).owner x.owner (mapped_at (λ (y : Vertex). y.owner) (vertex_at m v) x e);
    ends = λ t x e. ends_of t x e (transitions t.0 (slice_get_within m.transitions t.0 x e)).ends;
    limits = record {
      regions = few (length m.regions) 1024 (λ more. (regions 1024 more).limit (omega arith, more));
      vertices = few (length m.vertices) 4096 (λ more. (vertices 4096 more).limit (omega arith, more));
      transitions = few (length m.transitions) 8192 (λ more. (transitions 8192 more).limit (omega arith, more));
    };
  }
    where
      ends_of : (t : TransId) (x : Transition) → transition_at m t ≡ Some x → (HasBadEnd m (elements.Transition t) → ⊥)
          → (x.source.0 < length m.vertices) × (x.target.0 < length m.vertices)
      ends_of t x e fine = (
        ⊎_elim (λ lt. lt) (λ ge. absurd (fine (x, e, inl ge))) (cases_lt x.source.0 (length m.vertices)),
        ⊎_elim (λ lt. lt) (λ ge. absurd (fine (x, e, inr ge))) (cases_lt x.target.0 (length m.vertices)),
      )

  -- nothing is wrong with an element of a machine
  pub shape_is_sound : HasShape m → (e : Element) → IsFaultless m e
  shape_is_sound shape (elements.Region r) = record {
    owner = λ p e. shape.regions r p e;
    ends = λ bad. bad;
    limit = λ past. let limit = shape.limits.regions in omega (arith, past.0, past.1);
  }
  shape_is_sound shape (elements.Vertex v) = record {
    owner = λ p e.
        let at = mapped_some (λ (x : Vertex). x.owner) (vertex_at m v) p e in
        let fine = shape.vertices v at.0 at.1 in
        (subst (OwnsVertex m v) at.2 fine.0, fine.1);
    ends = λ bad. bad;
    limit = λ past. let limit = shape.limits.vertices in omega (arith, past.0, past.1);
  }
  shape_is_sound shape (elements.Transition t) = record {
    owner = λ p e. absurd (cc);
    ends = λ bad.
        let fine = shape.ends t bad.0 bad.1 in
        ⊎_elim (λ wrong. omega (arith, fine.0, wrong)) (λ wrong. omega (arith, fine.1, wrong)) bad.2;
    limit = λ past. let limit = shape.limits.transitions in omega (arith, past.0, past.1);
  }

  -- so a machine has no fault
  pub shape_has_no_fault : HasShape m → (fault : Shape) → IsShapeFault m fault → ⊥
  shape_has_no_fault shape fault h = sound_is_shapely m h.1.0 (shape_is_sound shape h.1.0) h.1.2.0
