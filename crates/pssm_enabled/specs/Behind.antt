-- How a route goes on behind a vertex at which a search has ended: over all branches of a fork or an entry point, and from there on.
use Rattle.std.specs.Prelude.{◌≡◌, ◌≢◌, ◌⊎◌, ◌↔◌, List, ◌++◌, Contains}
use Rattle.pssm_model.specs.declared.ids.VertexId.{VertexId}
use Rattle.pssm_model.specs.declared.ids.TransId.{TransId}
use Rattle.pssm_model.specs.declared.elements.DraftMachine.{DraftMachine}
use Rattle.pssm_model.specs.declared.elements.VertexKind.TheVariants as kinds
use Rattle.pssm_model.specs.declared.steps.Route.{Route}
use Rattle.pssm_model.specs.Forest.{HasKind}
use Rattle.pssm_model.specs.Legs.{Leaves, Enters}
use Rattle.pssm_model.specs.Paths.{LeadsOn}
use Rattle.pssm_model.specs.Routes.{Truth, IsAscending, IsTrueAt}
use Rattle.pssm_enabled.specs.Fitting.{IsThrough, PassesBy}
use Rattle.pssm_enabled.specs.Starts.{AreStartsWith}
use Rattle.pssm_enabled.specs.Ways.{HasWay}

-- A way leads on from the vertex, which is no join (UML 2.5.1 14.2.3.9, enabled transitions; 14.2.3.7, join: a route starts into it).
abbrev pub CanGoOn : DraftMachine → Truth → VertexId → Type 0
CanGoOn m truth v = HasWay m truth v × (HasKind m v kinds.Join → ⊥)

-- the transitions by which a route goes on from the vertex, with true guards: what they come to, and that it goes on from all that they come to
-- (UML 2.5.1 14.2.3.8, compound transitions and guards)
pub record GoesOnFrom (m : DraftMachine) (truth : Truth) (v : VertexId) (ts : List TransId) : Type 0 where
  pub come : List VertexId
  pub begins : Contains come v
  pub guards : (t : TransId) → Contains ts t → IsTrueAt m truth t
  pub leave : (t : TransId) → Contains ts t → (w : VertexId) × Contains come w × Leaves m t w × IsThrough m w
  pub ends : (t : TransId) (w : VertexId) → Contains ts t → Enters m t w → Contains come w
  pub entered : (w : VertexId) → Contains come w → (w ≡ v) ⊎ ((t : TransId) × Contains ts t × Enters m t w)
  pub passes : (w : VertexId) → Contains come w → PassesBy m (Contains ts) w
  pub led : (w : VertexId) → Contains come w → IsThrough m w → (v ≡ w) ⊎ (IsThrough m v × LeadsOn m v w)

-- the route of the starts with this one that takes the other transitions of the path, in ascending number
-- (UML 2.5.1 14.2.3.8, compound transitions; the order is this profile's own choice)
pub record IsRouteOver (m : DraftMachine) (start : TransId) (path : List TransId) (q : Route) : Type 0 where
  pub starts : AreStartsWith m start q.starts
  pub rest : (u : TransId) → Contains q.rest u ↔ (Contains path u × (u ≢ start))
  pub ascending : IsAscending q.rest

-- the route of the starts with this one that takes the path, and goes on from the end of its last transition
-- (UML 2.5.1 14.2.3.8, compound transitions)
pub record IsRouteBehind (m : DraftMachine) (truth : Truth) (start last : TransId) (path : List TransId) (q : Route) : Type 0 where
  pub end : VertexId
  pub enters : Enters m last end
  pub behind : List TransId
  pub goes_on : GoesOnFrom m truth end behind
  pub over : IsRouteOver m start (path ++ behind) q

-- A way leads on from the end of the transition, which is no join (UML 2.5.1 14.2.3.9, enabled transitions).
abbrev pub LeadsFurther : DraftMachine → Truth → TransId → Type 0
LeadsFurther m truth t = (v : VertexId) × Enters m t v × CanGoOn m truth v
