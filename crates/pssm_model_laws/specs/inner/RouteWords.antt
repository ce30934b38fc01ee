-- Words for a whole route, for the laws that speak of it: through which vertices it goes on, where it exits and enters, where it is anchored, where
-- it ends and what it enters. No clause of a public call rests on these words.
use Rattle.std.specs.Prelude.{◌≡◌, ◌⊎◌, [], ◌∷◌, Contains}
use Rattle.pssm_model.specs.declared.ids.VertexId.{VertexId}
use Rattle.pssm_model.specs.declared.ids.RegionId.{RegionId}
use Rattle.pssm_model.specs.declared.ids.TransId.{TransId}
use Rattle.pssm_model.specs.declared.elements.DraftMachine.{DraftMachine}
use Rattle.pssm_model.specs.declared.elements.TransKind.{TransKind}
use Rattle.pssm_model.specs.declared.elements.TransKind.TheVariants.{External, Local, Internal}
use Rattle.pssm_model.specs.declared.elements.VertexKind.TheVariants as kinds
use Rattle.pssm_model.specs.declared.elements.Owner.TheVariants.{State}
use Rattle.pssm_model.specs.declared.steps.Route.{Route}
use Rattle.pssm_model.specs.Forest.{HasKind, owner_of, IsScope, LiesInRegion, LiesInState}
use Rattle.pssm_model.specs.Legs.{Leaves, Enters, Goes, On, SameLeg, LaterLeg, IsCut, IsEnteredFor, IsEndState, Scope, LiesInScope}
use Rattle.pssm_model.specs.Legs.Scope.{Nowhere, Inside, Within}
use Rattle.pssm_model.specs.Routes.{IsSource, EndsAt}

-- a vertex through which a route goes on: a junction, fork, join, entry or exit point (UML 2.5.1 14.2.3.7, pseudostates)
abbrev pub IsThrough : DraftMachine → VertexId → Type 0
IsThrough m v = HasKind m v kinds.Junction ⊎ IsCut m v

-- A start of the route is external, local or internal (UML 2.5.1 14.5.12, transition kinds).
abbrev pub GoesAs : DraftMachine → Route → TransKind → Type 0
GoesAs m p kind = (t : TransId) × Contains p.starts t × Goes m t kind

-- a vertex at which a transition of the route begins or ends (UML 2.5.1 14.2.3.8, compound transitions)
abbrev pub IsEndOf : DraftMachine → Route → VertexId → Type 0
IsEndOf m p v = (t : TransId) × On p t × (Leaves m t v ⊎ Enters m t v)

-- where the route exits and enters: nowhere where it is internal, in the State that it leaves where it is local, and else in the innermost region
-- in which all its vertices lie (UML 2.5.1 14.2.3.9, transition execution sequence: the least common ancestor)
abbrev pub IsAreaOf : DraftMachine → Route → Scope → Type 0
IsAreaOf m p Nowhere = GoesAs m p Internal
IsAreaOf m p (Inside s) = GoesAs m p Local × IsSource m p s
IsAreaOf m p (Within r) = GoesAs m p External × IsScope m (IsEndOf m p) r

-- The route starts with one transition, which leaves this State (UML 2.5.1 14.2.3.8, compound transitions).
pub record IsFrom (m : DraftMachine) (p : Route) (t : TransId) (s : VertexId) : Type 0 where
  pub starts : p.starts ≡ t ∷ []
  pub leaves : Leaves m t s
  pub state : HasKind m s kinds.State

-- the State from which the route starts: its one source, or the State beside its join in which the sources lie (UML 2.5.1 14.2.3.7, join)
abbrev pub IsAnchorOf : DraftMachine → Route → VertexId → Type 0
IsAnchorOf m p s =
    ((t : TransId) × IsFrom m p t s × ((v : VertexId) → Enters m t v → HasKind m v kinds.Join → ⊥))
    ⊎ ((j : VertexId) × (t : TransId) × Contains p.starts t × Enters m t j × HasKind m j kinds.Join × HasKind m s kinds.State
    × (owner_of m (State s) ≡ owner_of m (State j)) × ((q : VertexId) → IsSource m p q → LiesInState m q s))

-- The route ends on the vertex: a transition of it does, and none goes on from there (UML 2.5.1 14.2.3.8, compound transitions).
abbrev pub EndsOn : DraftMachine → Route → VertexId → Type 0
EndsOn m p v = (t : TransId) × On p t × Enters m t v × EndsAt m p v

-- The route ends on a vertex in the region (UML 2.5.1 14.2.3.4, explicit entry).
abbrev pub EndsIn : DraftMachine → Route → RegionId → Type 0
EndsIn m p r = (v : VertexId) × EndsOn m p v × LiesInRegion m v r

-- a vertex on which a leg of the route ends and for which something is entered (UML 2.5.1 14.2.3.4, entering a State; for legs this profile's choice)
abbrev pub IsStation : DraftMachine → Route → VertexId → Type 0
IsStation m p v = IsEnteredFor m v × (HasKind m v kinds.Junction → ⊥) × ((t : TransId) × On p t × Enters m t v)

-- The route enters the State: it is not internal, and the State is at a station of it or lies in its area around one
-- (UML 2.5.1 14.2.3.4, entering a State).
abbrev pub IsEnteredBy : DraftMachine → Route → VertexId → Type 0
IsEnteredBy m p s =
    (GoesAs m p Internal → ⊥)
    × ((v : VertexId) × IsStation m p v
    × (IsEndState m v s ⊎ ((area : Scope) × IsAreaOf m p area × LiesInScope m s area × LiesInState m v s)))

-- The leg, or one before it, begins at a fork or an entry point (UML 2.5.1 14.2.3.7, fork and entryPoint).
abbrev pub IsDownLeg : DraftMachine → Route → TransId → Type 0
IsDownLeg m p t =
    (u : TransId) × (v : VertexId) × (SameLeg m p t u ⊎ LaterLeg m p u t) × Leaves m u v × (HasKind m v kinds.Fork ⊎ HasKind m v kinds.EntryPoint)
