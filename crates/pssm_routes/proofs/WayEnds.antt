-- From the end of a way out a route goes on: a way leads on from there, and it is no join.
use Rattle.std.proofs.Common.{List, Option, subst, inl, inr, ⊎_elim}
use Rattle.pssm_model.specs.declared.ids.VertexId.{VertexId}
use Rattle.pssm_model.specs.declared.ids.RegionId.{RegionId}
use Rattle.pssm_model.specs.declared.ids.TransId.{TransId}
use Rattle.pssm_model.specs.declared.elements.DraftMachine.{DraftMachine}
use Rattle.pssm_model.specs.declared.elements.Transition.{Transition}
use Rattle.pssm_model.specs.declared.elements.VertexKind.TheVariants as kinds
use Rattle.pssm_model.specs.Forest.{HasKind, transition_at}
use Rattle.pssm_model.specs.Legs.{Enters}
use Rattle.pssm_model.specs.Routes.{Truth}
use Rattle.pssm_model.specs.WellFormed.{KeepsModelRules}
use Rattle.pssm_model.proofs.ElementLaws.{mapped_at}
use Rattle.pssm_model_laws.proofs.KnownPlaces.{known_vertex_kind}
use Rattle.pssm_routes.specs.inner.Starts.{GoesOnBy}
use Rattle.pssm_enabled.specs.Ways.{HasWay, IsWayOut}
use Rattle.pssm_enabled.specs.Ways.HasWay.{ends as way_ends}
use Rattle.pssm_enabled.specs.Behind.{LeadsFurther}
use Rattle.pssm_enabled.proofs.LeadingOn.{passed_through}
use Rattle.pssm_enabled.proofs.Trees.{no_join_after}
use Rattle.pssm_enabled.proofs.WayPaths.{true_is_there, way_has_last, way_is_open, way_leaves}

module _ {m : DraftMachine} (rules : KeepsModelRules m) (truth : Truth) (within : Option RegionId) (t first last : TransId) (path : List TransId)
    (way : IsWayOut m truth within first last path) (on : GoesOnBy m t first) where
  first_no_join : (v : VertexId) → Enters m first v → HasKind m v kinds.Join → ⊥
  first_no_join v enters join =
      ⊎_elim
      (λ single. single.1 v (subst (λ x. Enters m x v) single.0 enters) join)
      (λ other. no_join_after rules first other.0 v (inr (inr (inl other.2))) other.3 enters join)
      on

  pub out_no_join : (v : VertexId) → Enters m last v → HasKind m v kinds.Join → ⊥
  out_no_join v enters join =
      ⊎_elim
      (λ same. first_no_join v (subst (λ x. Enters m x v) same enters) join)
      (λ left. no_join_after rules last left.0 v (passed_through m left.0 left.2) left.3 enters join)
      (way_leaves way.way last (way_has_last way.way))

  out_way : (v : VertexId) → Enters m last v → HasWay m truth v
  out_way v enters =
      ⊎_elim
      (λ entry. (way_is_open way.way last (way_has_last way.way)).pass v enters entry)
      (λ other. way_ends (way.ends v enters) other)
      (known_vertex_kind m v kinds.EntryPoint)

  pub out_leads_further : LeadsFurther m truth last
  out_leads_further =
      let at = true_is_there m truth last (way_is_open way.way last (way_has_last way.way)).guard in
      let enters : Enters m last at.0.target = mapped_at (λ (x : Transition). x.target) (transition_at m last) at.0 at.1 in
      (at.0.target, enters, (out_way at.0.target enters, out_no_join at.0.target enters))
