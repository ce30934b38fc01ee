-- The transition by which a route goes on from its starts, and where the sources of these lie.
use Rattle.std.proofs.Common.{◌≡◌, ◌↔◌, ◌<◌, List, length, Some, Contains, refl, sym, subst, ◌∙◌, inl, inr, ⊎_elim}
use Rattle.pssm_model.specs.declared.ids.VertexId.{VertexId}
use Rattle.pssm_model.specs.declared.ids.TransId.{TransId}
use Rattle.pssm_model.specs.declared.elements.DraftMachine.{DraftMachine}
use Rattle.pssm_model.specs.declared.elements.Vertex.{Vertex}
use Rattle.pssm_model.specs.declared.elements.VertexKind.TheVariants as kinds
use Rattle.pssm_model.specs.declared.steps.Route.{Route}
use Rattle.pssm_model.specs.Forest.{HasKind, vertex_at}
use Rattle.pssm_model.specs.Legs.{Leaves, Enters, On}
use Rattle.pssm_model.specs.Routes.{IsRoute}
use Rattle.pssm_model.specs.WellFormed.{KeepsModelRules}
use Rattle.pssm_model.proofs.ElementLaws.{kind_at, enters_one}
use Rattle.pssm_model.proofs.RouteLaws.{is_one}
use Rattle.pssm_model_laws.proofs.KnownPlaces.{known_vertex_kind}
use Rattle.pssm_model_laws.proofs.Through.{join_one_out}
use Rattle.pssm_model_laws.proofs.RouteOrder.{of_start}
use Rattle.pssm_enabled.specs.Starts.{AreStartsWith}
use Rattle.pssm_routes.specs.inner.Starts.{GoesOnBy, StartsAmong}
use Rattle.pssm_enabled.specs.Ways.{EndsInside}
use Rattle.pssm_enabled.proofs.LeadingOn.{join_out}
use Rattle.pssm_enabled.proofs.StartLaws.{entering_is_there, one_starts}

module _ (m : DraftMachine) where
  -- a start by which a route goes on is there
  pub goes_on_there : (t u : TransId) (v : VertexId) → GoesOnBy m t u → Enters m u v → t.0 < length m.transitions
  goes_on_there t u v on enters =
      ⊎_elim
      (λ single. subst (λ (x : TransId). x.0 < length m.transitions) single.0 (entering_is_there m u v enters))
      (λ join. entering_is_there m t join.0 join.1)
      on

  -- a transition whose end is no junction, exit point or join goes on to no junction or exit point
  pub wants_none : (t u : TransId) (v : VertexId) (x : Vertex) → Enters m t v → vertex_at m v ≡ Some x → (x.kind ≡ kinds.Junction → ⊥)
      → (x.kind ≡ kinds.ExitPoint → ⊥) → (x.kind ≡ kinds.Join → ⊥) → GoesOnBy m t u → EndsInside m u → ⊥
  wants_none t u v x enters at junction exit join on ends =
      ⊎_elim
      (λ single.
      let here : ends.0 ≡ v = enters_one m t ends.0 v (subst (λ y. Enters m y ends.0) single.0 ends.1) enters in
      ⊎_elim
      (λ j. junction ((kind_at m v x kinds.Junction at).0 (subst (λ w. HasKind m w kinds.Junction) here j)))
      (λ e. exit ((kind_at m v x kinds.ExitPoint at).0 (subst (λ w. HasKind m w kinds.ExitPoint) here e)))
      ends.2)
      (λ other. join ((kind_at m v x kinds.Join at).0 (subst (λ w. HasKind m w kinds.Join) (enters_one m t other.0 v other.1 enters) other.2)))
      on

  -- where the sources of the starts lie among the States
  pub among_alone : (states : List VertexId) (t : TransId) → ((v : VertexId) → Enters m t v → HasKind m v kinds.Join → ⊥)
      → ((s : VertexId) → Leaves m t s → Contains states s) → StartsAmong m states t
  among_alone states t none source starts s are left =
      ⊎_elim
      (λ single.
      let same = is_one t left.0 (subst (λ ts. Contains ts left.0) single.0 left.1) in
      source s (subst (λ x. Leaves m x s) same left.2))
      (λ join. absurd (none join.0 join.1 join.2))
      are

  pub among_joined : (states : List VertexId) (t : TransId) (starts : List TransId) → AreStartsWith m t starts
      → ((u : TransId) (s : VertexId) → Contains starts u → Leaves m u s → Contains states s) ↔ StartsAmong m states t
  among_joined states t starts are = (
    λ all others s these left. all left.0 s (subst (λ ts. Contains ts left.0) (one_starts m t others starts these are) left.1) left.2,
    λ among u s inside leaves. among starts s are (u, inside, leaves),
  )

module _ {m : DraftMachine} (rules : KeepsModelRules m) where
  -- a route goes on from its starts by one transition
  pub one_onward : (t u w : TransId) → GoesOnBy m t u → GoesOnBy m t w → u ≡ w
  one_onward t u w first second =
      ⊎_elim
      (λ a. ⊎_elim (λ c. a.0 ∙ sym c.0) (λ join. absurd (a.1 join.0 join.1 join.2)) second)
      (λ join. ⊎_elim
      (λ c. absurd (c.1 join.0 join.1 join.2))
      (λ other.
      let here = enters_one m t other.0 join.0 other.1 join.1 in
      join_one_out rules join.0 u w join.2 join.3 (subst (Leaves m w) here other.3))
      second)
      first

  pub some_onward : (t : TransId) (v : VertexId) → Enters m t v → (u : TransId) × GoesOnBy m t u
  some_onward t v e =
      ⊎_elim
      (λ join. let out = join_out rules v join in (out.0, inr (v, e, join, out.1)))
      (λ none. (t, inl (refl, λ w f join. none (subst (λ x. HasKind m x kinds.Join) (enters_one m t w v f e) join))))
      (known_vertex_kind m v kinds.Join)

  pub onward_on : (p : Route) (t u : TransId) → IsRoute m p → Contains p.starts t → GoesOnBy m t u → On p u
  onward_on p t u route start h =
      ⊎_elim
      (λ same. subst (On p) (sym same.0) (of_start m p t start))
      (λ join. route.goes_on t join.0 kinds.Join (of_start m p t start) join.1 join.2 u join.3)
      h
