-- By which ways regions open: there always is one, and each is short.
use Rattle.std.proofs.Common.{◌<◌, length, refl, inl, inr, ⊎_elim, arith}
use Rattle.pssm_model.specs.declared.ids.VertexId.{VertexId}
use Rattle.pssm_model.specs.declared.ids.RegionId.{RegionId}
use Rattle.pssm_model.specs.declared.elements.DraftMachine.{DraftMachine}
use Rattle.pssm_model.specs.declared.elements.VertexKind.{VertexKind}
use Rattle.pssm_model.specs.declared.elements.VertexKind.TheVariants as kinds
use Rattle.pssm_model.specs.declared.steps.Route.{Route}
use Rattle.pssm_model.specs.declared.steps.Mode.{Mode}
use Rattle.pssm_model.specs.declared.steps.Mode.TheVariants.{Plain, Shallow, Deep}
use Rattle.pssm_model.specs.declared.steps.How.{How}
use Rattle.pssm_model.specs.declared.steps.How.TheVariants.{By, Restore, Nothing}
use Rattle.pssm_model.specs.inner.Listed.{vertex_number}
use Rattle.pssm_model.specs.Routes.{Truth}
use Rattle.pssm_model.specs.FiringSets.{IsLateRoute}
use Rattle.pssm_model.specs.Ways.{Memory, IsRemembered, IsHistoryOf, OpensByDefault, OpensByHistory, CanOpen}
use Rattle.pssm_model.specs.Shapes.{HasShape}
use Rattle.pssm_model.specs.WellFormed.{KeepsModelRules}
use Rattle.pssm_model_laws.proofs.Known.{Known, known_as, known_both, known_below}
use Rattle.pssm_model_laws.proofs.KnownPlaces.{known_vertex_kind}
use Rattle.pssm_semantics.specs.Known.{IsWayOf}
use Rattle.pssm_semantics.specs.Forms.{IsShortWay}
use Rattle.pssm_object.specs.inner.Firing.{IsHistoryKind}
use Rattle.pssm_object.proofs.MachineLaws.{kind_there, known_initial, known_history}
use Rattle.pssm_object.proofs.LateRoutes.{from_initial, from_history, late_is_short}

module _ {m : DraftMachine} (shape : HasShape m) (rules : KeepsModelRules m) (truth : Truth) (r : RegionId) where
  -- there always is a way by default
  pub some_default_way : (how : How) × OpensByDefault m truth r how
  some_default_way =
      ⊎_elim
      (λ (v, is). let (route, late) = from_initial shape rules truth v is.0 in (By route, (v, is, late)))
      (λ none. (Nothing, λ v is. none (v, is)))
      (known_initial m r)

  module _ (memory : Memory) where
    -- whether the region remembers a State is known where that is known of each vertex
    known_state : ((s : VertexId) → Known (memory r s)) → Known ((s : VertexId) × IsRemembered m memory r s)
    known_state known =
        known_as
        (λ h. (vertex_number h.0, h.2))
        (λ h. (h.0.0, kind_there m h.0 kinds.State h.1.1, h.1))
        (known_below
        (λ k. IsRemembered m memory r (vertex_number k))
        (λ k. known_both (known (vertex_number k)) (known_vertex_kind m (vertex_number k) kinds.State))
        (length m.vertices))

    -- where it remembers none it opens by its history vertex, and else by default
    by_default : (kind : VertexKind) → ((s : VertexId) → IsRemembered m memory r s → ⊥) → ((v : VertexId) → IsHistoryOf m r kind v → ⊥) → (how : How)
        → OpensByDefault m truth r how → (how : How) × OpensByHistory m truth memory r kind how
    by_default kind none lacks (By route) opens = (By route, (none, inr (lacks, opens)))
    by_default kind none lacks (Restore s) opens = absurd opens
    by_default kind none lacks Nothing opens = (Nothing, (none, inr (lacks, opens)))

    by_history : (kind : VertexKind) → IsHistoryKind kind → ((s : VertexId) → IsRemembered m memory r s → ⊥) → (v : VertexId) → IsHistoryOf m r kind v
        → (how : How) × OpensByHistory m truth memory r kind how
    by_history kind is none v history =
        let late = from_history shape rules truth v kind is history.0 history.2 in (By late.0, (none, inl (v, history, late.1)))

    unremembered : (kind : VertexKind) → IsHistoryKind kind → ((s : VertexId) → IsRemembered m memory r s → ⊥)
        → (how : How) × OpensByHistory m truth memory r kind how
    unremembered kind is none =
        ⊎_elim
        (λ history. by_history kind is none history.0 history.1)
        (λ lacks. by_default kind none (λ v history. lacks (v, history)) some_default_way.0 some_default_way.1)
        (known_history m r kind)

    some_history_way : (kind : VertexKind) → IsHistoryKind kind → ((s : VertexId) → Known (memory r s)) → (how : How) × OpensByHistory m truth memory r kind how
    some_history_way kind is known =
        ⊎_elim
        (λ some. (Restore some.0, some.1))
        (λ none. unremembered kind is (λ s h. none (s, h)))
        (known_state known)

    -- so there always is a way in each mode
    pub some_opening_way : (mode : Mode) → ((s : VertexId) → Known (memory r s)) → (how : How) × CanOpen m truth memory r mode how
    some_opening_way Plain known = some_default_way
    some_opening_way Shallow known = some_history_way kinds.ShallowHistory tt known
    some_opening_way Deep known = some_history_way kinds.DeepHistory tt known

    -- a way is a route by which a step goes on, or restores a State
    history_route : (kind : VertexKind) (route : Route) → OpensByHistory m truth memory r kind (By route) → (v : VertexId) × IsLateRoute m truth v route
    history_route kind route h = ⊎_elim (λ goes. (goes.0, goes.2)) (λ default. (default.1.0, default.1.2)) h.1

    way_route : (mode : Mode) (route : Route) → CanOpen m truth memory r mode (By route) → (v : VertexId) × IsLateRoute m truth v route
    way_route Plain route h = (h.0, h.2)
    way_route Shallow route h = history_route kinds.ShallowHistory route h
    way_route Deep route h = history_route kinds.DeepHistory route h

    way_state : (mode : Mode) (s : VertexId) → CanOpen m truth memory r mode (Restore s) → s.0 < length m.vertices
    way_state Plain s h = absurd h
    way_state Shallow s h = kind_there m s kinds.State h.1
    way_state Deep s h = kind_there m s kinds.State h.1

    -- what a way names is of the machine
    pub way_there : (mode : Mode) (how : How) → CanOpen m truth memory r mode how → IsWayOf m how
    way_there mode (By route) h = (way_route mode route h).1.route_is.in_range
    way_there mode (Restore s) h = way_state mode s h
    way_there mode Nothing h = tt

    -- and each way is short
    few_vertices : (s : VertexId) → s.0 < length m.vertices → s.0 < 4096
    few_vertices s lt = let few = shape.limits.vertices in omega (arith, lt, few)

    pub opening_way_is_short : (mode : Mode) (how : How) → CanOpen m truth memory r mode how → IsShortWay how
    opening_way_is_short mode (By route) h = let late = way_route mode route h in inr (inl (route, refl, late_is_short shape rules truth late.0 route late.1))
    opening_way_is_short mode (Restore s) h = inr (inr (s, refl, few_vertices s (way_state mode s h)))
    opening_way_is_short mode Nothing h = inl refl
