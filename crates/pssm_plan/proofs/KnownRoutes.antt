-- What routes and their legs exit, enter, end on and open is known.
use Rattle.std.proofs.Common.{◌≡◌, ◌⊎◌, Some, refl, subst, inr}
use Rattle.pssm_model.specs.declared.ids.VertexId.{VertexId}
use Rattle.pssm_model.specs.declared.ids.RegionId.{RegionId}
use Rattle.pssm_model.specs.declared.ids.TransId.{TransId}
use Rattle.pssm_model.specs.declared.elements.DraftMachine.{DraftMachine}
use Rattle.pssm_model.specs.declared.elements.VertexKind.TheVariants as kinds
use Rattle.pssm_model.specs.declared.elements.Owner.TheVariants.{Region, State}
use Rattle.pssm_model.specs.declared.elements.TransKind.{TransKind}
use Rattle.pssm_model.specs.declared.elements.TransKind.TheVariants.{Local}
use Rattle.pssm_model.specs.declared.steps.Route.{Route}
use Rattle.pssm_model.specs.declared.steps.Mode.{Mode}
use Rattle.pssm_model.specs.declared.steps.Mode.TheVariants.{Plain, Shallow, Deep}
use Rattle.pssm_model.specs.declared.steps.Item.{Item}
use Rattle.pssm_model.specs.declared.steps.Item.TheVariants as items
use Rattle.pssm_model.specs.Forest.{HasKind, owner_of, LiesInRegion, LiesInState}
use Rattle.pssm_model.specs.Legs.{Leaves, Enters, Goes, On, transitions_of, SameLeg, LaterLeg, IsLastVertex, IsInternal, IsEnteredFor, IsEndState, Scope, LiesInScope, LegScope, WouldExit, LegExits, LegEnters}
use Rattle.pssm_model.specs.Items.{IsAimedAt, LegEnds, LegOpens}
use Rattle.pssm_model.specs.Routes.{EndsAt}
use Rattle.pssm_model.specs.RouteWords.{IsStepRoute}
use Rattle.pssm_model.specs.Shapes.{HasShape}
use Rattle.pssm_model.specs.WellFormed.{KeepsModelRules}
use Rattle.pssm_model_laws.specs.inner.RouteWords.{GoesAs, EndsOn, EndsIn, IsEnteredBy}
use Rattle.pssm_plan.specs.inner.OverRoutes.{LiesInArea, LeavesOwner, OpensBeside, EndsOnChoice, IsHistoryFor, EndsOnHistory}
use Rattle.pssm_model_laws.proofs.LegRoots.{leg_begins}
use Rattle.pssm_model_laws.proofs.LegShapes.{later_begins_on}
use Rattle.pssm_model_laws.proofs.Widening.{known_in_scope}
use Rattle.pssm_model_laws.proofs.RouteAreas.{has_area}
use Rattle.pssm_plan.proofs.Stations.{route_enters}
use Rattle.pssm_model_laws.proofs.OneLegScope.{one_area, leg_has_scope}
use Rattle.pssm_model_laws.proofs.KnownClosures.{known_same_leg, known_in_leg, known_later_leg, known_last_vertex, known_internal, known_ends_at}
use Rattle.pssm_model_laws.proofs.Known.{Known, known_as, known_both, known_either, known_not, known_among, known_all, known_vertex}
use Rattle.pssm_model_laws.proofs.KnownPlaces.{known_owner, known_vertex_kind, known_goes, known_source_some, known_target_some, known_in_region, known_in_state}
use Rattle.pssm_plan.proofs.KnownHistories.{known_state_or_final, known_history_kind}

-- for what something is entered, and what stands at an end
known_entered_for : (m : DraftMachine) (v : VertexId) → Known (IsEnteredFor m v)
known_entered_for m v =
    known_as
    (λ h. (h.0, h.1.0, h.1.1))
    (λ h. (h.0, (h.1, h.2)))
    (known_both
    (known_not (known_vertex_kind m v kinds.Terminate))
    (known_both (known_not (known_vertex_kind m v kinds.ExitPoint)) (known_not (known_vertex_kind m v kinds.Join))))

known_end_state : {m : DraftMachine} → HasShape m → (v s : VertexId) → Known (IsEndState m v s)
known_end_state {m = m} shape v s =
    known_either
    (known_both (known_state_or_final shape v) (known_vertex s v))
    (known_both (known_vertex_kind m v kinds.EntryPoint) (known_owner m (State v) (State s)))

module _ {m : DraftMachine} (shape : HasShape m) (rules : KeepsModelRules m) (p : Route) (step : IsStepRoute m p) where
  -- where it exits and enters
  pub known_in_area : (s : VertexId) → Known (LiesInArea m p s)
  known_in_area s =
      let area = has_area shape rules p step in
      known_as
      (λ lies. (area.0, area.1, lies))
      (λ h. subst (λ a. LiesInScope m s a) (one_area shape rules p step h.0 area.0 h.1 area.1) h.2)
      (known_in_scope shape rules p step s area.0)

  -- what its legs exit
  known_would : (Active : VertexId → Type 0) → ((s : VertexId) → Known (Active s)) → (t : TransId) → On p t → (s : VertexId)
      → Known (WouldExit m Active p t s)
  known_would Active active t on s =
      let scope = leg_has_scope shape rules p step t on in
      known_as
      (λ h. (h.0, (scope.scope, scope.is, h.1)))
      (λ h. (h.0, subst (λ a. LiesInScope m s a) (scope.only h.1.0 h.1.1) h.1.2))
      (known_both (active s) (known_in_scope shape rules p step s scope.scope))

  pub known_leg_exits : (Active : VertexId → Type 0) → ((s : VertexId) → Known (Active s)) → (t : TransId) → On p t → (s : VertexId)
      → Known (LegExits m Active p t s)
  known_leg_exits Active active t on s =
      known_as
      (λ h. (h.0, λ u more would. h.1 u (later_begins_on m p u t more) (more, would)))
      (λ h. (h.0, λ u u_on both. h.1 u both.0 both.1))
      (known_both
      (known_would Active active t on s)
      (known_all
      (λ u. LaterLeg m p u t × WouldExit m Active p u s → ⊥)
      (transitions_of p)
      (λ u u_on. known_not (known_both (known_later_leg m p u t) (known_would Active active u u_on s)))))

  -- some vertex on which a leg ends is such
  known_last : (P : VertexId → Type 0) → ((v : VertexId) → Known (P v)) → (t : TransId) → Known ((v : VertexId) × IsLastVertex m p t v × P v)
  known_last P each t =
      known_as
      (λ h. (h.2.0, (h.0, h.1, h.2.1, h.2.2.0), h.2.2.1))
      (λ h. (h.1.0, h.1.1, (h.0, h.1.2, (h.1.3, h.2))))
      (known_in_leg m p
      (λ u. (v : VertexId) × Enters m u v × ((HasKind m v kinds.Junction → ⊥) × P v))
      (λ u. known_target_some m
      (λ v. (HasKind m v kinds.Junction → ⊥) × P v)
      (λ v. known_both (known_not (known_vertex_kind m v kinds.Junction)) (each v))
      u)
      t)

  -- what its legs enter
  abbrev IsEnteredAt : TransId → VertexId → VertexId → Type 0
  IsEnteredAt t s v =
      ((scope : Scope) × LegScope m p t scope × LiesInScope m s scope × LiesInState m v s) ⊎ IsEndState m v s

  known_entered_at : (t : TransId) → On p t → (s v : VertexId) → Known (IsEnteredAt t s v)
  known_entered_at t on s v =
      let scope = leg_has_scope shape rules p step t on in
      known_either
      (known_as
      (λ h. (scope.scope, scope.is, h.0, h.1))
      (λ h. (subst (λ a. LiesInScope m s a) (scope.only h.0 h.1) h.2, h.3))
      (known_both (known_in_scope shape rules p step s scope.scope) (known_in_state shape v s)))
      (known_end_state shape v s)

  pub known_leg_enters : (t : TransId) → On p t → (s : VertexId) → Known (LegEnters m p t s)
  known_leg_enters t on s =
      known_as
      (λ h. (h.0, h.1, h.2.0, h.2.1.0, h.2.1.1))
      (λ h. (h.0, h.1, (h.2, (h.3, h.4))))
      (known_last
      (λ v. IsEnteredFor m v × ((IsInternal m p t → ⊥) × IsEnteredAt t s v))
      (λ v. known_both (known_entered_for m v) (known_both (known_not (known_internal m p t)) (known_entered_at t on s v)))
      t)

  pub known_entered : (s : VertexId) → Known (IsEnteredBy m p s)
  known_entered s =
      known_as
      (λ h. (route_enters shape rules p step s).0 h)
      (λ h. (route_enters shape rules p step s).1 h)
      (known_among (λ t. LegEnters m p t s) (transitions_of p) (λ t on. known_leg_enters t on s))

  -- some vertex on which it ends is such
  known_end : (P : VertexId → Type 0) → ((v : VertexId) → Known (P v)) → Known ((v : VertexId) × EndsOn m p v × P v)
  known_end P each =
      known_as
      (λ h. (h.2.0, (h.0, h.1, h.2.1, h.2.2.0), h.2.2.1))
      (λ h. (h.1.0, h.1.1, (h.0, h.1.2, (h.1.3, h.2))))
      (known_among
      (λ t. (v : VertexId) × Enters m t v × (EndsAt m p v × P v))
      (transitions_of p)
      (λ t on. known_target_some m (λ v. EndsAt m p v × P v) (λ v. known_both (known_ends_at m p v) (each v)) t))

  -- whether it ends in a region, on a choice or on a history of a region
  pub known_ends : (r : RegionId) → Known (EndsIn m p r)
  known_ends r = known_end (λ v. LiesInRegion m v r) (λ v. known_in_region shape v r)

  pub known_choice : (c : VertexId) → Known (EndsOnChoice m p c)
  known_choice c =
      known_both
      (known_as (λ h. subst (EndsOn m p) h.2 h.1) (λ h. (c, h, refl)) (known_end (λ v. v ≡ c) (λ v. known_vertex v c)))
      (known_vertex_kind m c kinds.Choice)

  pub known_end_history : (r : RegionId) (mode : Mode) → Known (EndsOnHistory m p r mode)
  known_end_history r mode =
      known_as
      (λ h. (h.0, h.1, h.2.0, h.2.1))
      (λ h. (h.0, h.1, (h.2, h.3)))
      (known_end
      (λ v. IsHistoryFor m v mode × (owner_of m (State v) ≡ Some (Region r)))
      (λ v. known_both (known_history_kind shape v mode) (known_owner m (State v) (Region r))))

  -- whether it opens a region beside what it enters
  known_goes_as : (kind : TransKind) → Known (GoesAs m p kind)
  known_goes_as kind = known_among (λ t. Goes m t kind) p.starts (λ t inside. known_goes m t kind)

  known_leaves_owner : (r : RegionId) → Known (LeavesOwner m p r)
  known_leaves_owner r =
      known_as
      (λ h. (h.2.0, (h.0, h.1, h.2.1), h.2.2))
      (λ h. (h.1.0, h.1.1, (h.0, h.1.2, h.2)))
      (known_among
      (λ t. (s : VertexId) × Leaves m t s × (owner_of m (Region r) ≡ Some (State s)))
      p.starts
      (λ t inside. known_source_some m (λ s. owner_of m (Region r) ≡ Some (State s)) (λ s. known_owner m (Region r) (State s)) t))

  pub known_beside : (r : RegionId) → Known (OpensBeside m p r)
  known_beside r =
      known_as
      (λ h. (h.0, h.1.0, h.1.1))
      (λ h. (h.0, (h.1, h.2)))
      (known_both (known_goes_as Local) (known_both (known_leaves_owner r) (known_not (known_ends r))))

  -- what its legs call at their ends
  pub known_leg_ends : (t : TransId) (item : Item) → Known (LegEnds m p t item)
  known_leg_ends t (items.Exit s) = inr (λ none. none)
  known_leg_ends t (items.Effect u) = inr (λ none. none)
  known_leg_ends t (items.Enter s) = inr (λ none. none)
  known_leg_ends t (items.Opened r Plain) = inr (λ none. none)
  known_leg_ends t (items.Opened r Shallow) =
      known_as
      (λ h. (h.0, h.1, h.2.0, h.2.1))
      (λ h. (h.0, h.1, (h.2, h.3)))
      (known_last
      (λ v. HasKind m v kinds.ShallowHistory × (owner_of m (State v) ≡ Some (Region r)))
      (λ v. known_both (known_vertex_kind m v kinds.ShallowHistory) (known_owner m (State v) (Region r)))
      t)
  known_leg_ends t (items.Opened r Deep) =
      known_as
      (λ h. (h.0, h.1, h.2.0, h.2.1))
      (λ h. (h.0, h.1, (h.2, h.3)))
      (known_last
      (λ v. HasKind m v kinds.DeepHistory × (owner_of m (State v) ≡ Some (Region r)))
      (λ v. known_both (known_vertex_kind m v kinds.DeepHistory) (known_owner m (State v) (Region r)))
      t)
  known_leg_ends t (items.Pick c) = known_both (known_last_vertex m p t c) (known_vertex_kind m c kinds.Choice)

  -- and what they open
  known_aimed : (t : TransId) (r : RegionId) → Known (IsAimedAt m p t r)
  known_aimed t r =
      known_as
      (λ h. (h.0, h.2.1.0, h.2.0, h.2.1.1, h.2.1.2))
      (λ h. (h.0, leg_begins m p h.3.1, (h.2, (h.1, h.3, h.4))))
      (known_among
      (λ u. (SameLeg m p t u ⊎ LaterLeg m p t u) × ((v : VertexId) × IsLastVertex m p u v × LiesInRegion m v r))
      (transitions_of p)
      (λ u on. known_both
      (known_either (known_same_leg m p t u) (known_later_leg m p t u))
      (known_last (λ v. LiesInRegion m v r) (λ v. known_in_region shape v r) u)))

  abbrev IsLocalTo : TransId → RegionId → TransId → VertexId → Type 0
  IsLocalTo t r u s =
      HasKind m s kinds.State × (Goes m u Local × ((owner_of m (Region r) ≡ Some (State s)) × (IsAimedAt m p t r → ⊥)))

  pub known_leg_opens : (t : TransId) (item : Item) → Known (LegOpens m p t item)
  known_leg_opens t (items.Exit s) = inr (λ none. none)
  known_leg_opens t (items.Effect u) = inr (λ none. none)
  known_leg_opens t (items.Enter s) = inr (λ none. none)
  known_leg_opens t (items.Opened r Plain) =
      known_as
      (λ h. (h.2.0, (h.0, h.1, h.2.1, h.2.2.0, h.2.2.1.0), h.2.2.1.1.0, h.2.2.1.1.1))
      (λ h. (h.1.0, h.1.1, (h.0, h.1.2, (h.1.3, (h.1.4, (h.2, h.3))))))
      (known_in_leg m p
      (λ u. (s : VertexId) × Leaves m u s × IsLocalTo t r u s)
      (λ u. known_source_some m
      (IsLocalTo t r u)
      (λ s. known_both
      (known_vertex_kind m s kinds.State)
      (known_both (known_goes m u Local) (known_both (known_owner m (Region r) (State s)) (known_not (known_aimed t r)))))
      u)
      t)
  known_leg_opens t (items.Opened r Shallow) = inr (λ none. none)
  known_leg_opens t (items.Opened r Deep) = inr (λ none. none)
  known_leg_opens t (items.Pick c) = inr (λ none. none)
