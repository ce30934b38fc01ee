-- When a route with one start is a late one.
use Rattle.std.proofs.Common.{◌≡◌, ◌<◌, ◌↔◌, List, length, Contains, sym, subst, ⊎_elim}
use Rattle.std.proofs.lemmas.Option.{slice_get_within}
use Rattle.pssm_model.specs.declared.ids.VertexId.{VertexId}
use Rattle.pssm_model.specs.declared.ids.TransId.{TransId}
use Rattle.pssm_model.specs.declared.elements.DraftMachine.{DraftMachine}
use Rattle.pssm_model.specs.declared.elements.Vertex.{Vertex}
use Rattle.pssm_model.specs.declared.elements.VertexKind.{VertexKind}
use Rattle.pssm_model.specs.declared.elements.VertexKind.TheVariants as kinds
use Rattle.pssm_model.specs.Forest.{vertex_at, HasKind}
use Rattle.pssm_model.specs.Legs.{Leaves, On}
use Rattle.pssm_model.specs.Routes.{Truth, IsTrueAt, IsRoute}
use Rattle.pssm_model.specs.FiringSets.{IsLateOrigin, IsLateRoute}
use Rattle.pssm_model_laws.specs.inner.RouteWords.{IsThrough}
use Rattle.pssm_model.proofs.ElementLaws.{mapped_some, leaves_one}
use Rattle.pssm_model_laws.proofs.Through.{not_through}
use Rattle.pssm_model.proofs.RouteLaws.{is_one, one_in_order, all_of_one}
use Rattle.pssm_enabled.specs.Fitting.{route_with, AreInOrder, StartsOutside}
use Rattle.pssm_routes.specs.inner.Late.{StartsLate}
use Rattle.pssm_enabled.proofs.Leaving.{leaving_is_there}

-- a late origin is there
pub late_is_there : (m : DraftMachine) (v : VertexId) → IsLateOrigin m v → v.0 < length m.vertices
late_is_there m v late =
    ⊎_elim
    (λ initial. kind_is_there kinds.Initial initial)
    (λ more. ⊎_elim
    (λ history. ⊎_elim (λ shallow. kind_is_there kinds.ShallowHistory shallow) (λ deep. kind_is_there kinds.DeepHistory deep) history)
    (λ choice. kind_is_there kinds.Choice choice)
    more)
    late
  where
    kind_is_there : (kind : VertexKind) → HasKind m v kind → v.0 < length m.vertices
    kind_is_there kind is =
        let at = mapped_some (λ (x : Vertex). x.kind) (vertex_at m v) kind is in slice_get_within m.vertices v.0 at.0 at.1

-- a late origin is none through which a route goes on
pub late_not_through : (m : DraftMachine) (origin : VertexId) → IsLateOrigin m origin → IsThrough m origin → ⊥
late_not_through m origin late through =
    ⊎_elim
    (λ initial. not_through m origin kinds.Initial (λ none. none) initial through)
    (λ more. ⊎_elim
    (λ history. ⊎_elim
    (λ shallow. not_through m origin kinds.ShallowHistory (λ none. none) shallow through)
    (λ deep. not_through m origin kinds.DeepHistory (λ none. none) deep through)
    history)
    (λ choice. not_through m origin kinds.Choice (λ none. none) choice through)
    more)
    late

-- nor is what a transition out of it leaves
pub late_not_outside : (m : DraftMachine) (origin : VertexId) → IsLateOrigin m origin → (start : TransId) → Leaves m start origin → (v : VertexId)
    → Leaves m start v → IsThrough m v → ⊥
late_not_outside m origin late start leaves v left through =
    late_not_through m origin late (subst (IsThrough m) (leaves_one m start v origin left leaves) through)

module _ (m : DraftMachine) (origin : VertexId) (starts : List TransId) (h : StartsLate m origin starts) where
  pub late_in_order : AreInOrder m starts
  late_in_order =
      subst (AreInOrder m) (sym h.1.1) (
        one_in_order (λ (t u : TransId). t.0 < u.0) h.1.0,
        all_of_one (λ (t : TransId). t.0 < length m.transitions) h.1.0 (leaving_is_there m h.1.0 origin h.1.2),
      )

  pub late_outside : StartsOutside m starts
  late_outside t v inside leaves through =
      let is : t ≡ h.1.0 = is_one h.1.0 t (subst (λ ts. Contains ts t) h.1.1 inside) in
      let at : v ≡ origin = leaves_one m h.1.0 v origin (subst (λ u. Leaves m u v) is leaves) h.1.2 in
      late_not_through m origin h.0 (subst (IsThrough m) at through)

-- a late route is one that starts late and is true
module _ (m : DraftMachine) (truth : Truth) (origin : VertexId) (starts rest : List TransId) where
  pub late_is : IsLateRoute m truth origin (route_with starts rest)
      ↔ ((StartsLate m origin starts × IsRoute m (route_with starts rest)) × ((t : TransId) → On (route_with starts rest) t → IsTrueAt m truth t))
  late_is = (
    λ h. (((h.origin_is, h.leaves), h.route_is), h.guards),
    λ h. record { origin_is = h.0.0.0; route_is = h.0.1; leaves = h.0.0.1; guards = h.1 },
  )
