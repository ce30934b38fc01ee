-- By what a route goes on from its starts, and the States that react to an event.
use Rattle.std.specs.Prelude.{◌≡◌, ◌⊎◌, ◌↔◌, ◌<◌, List, [], ◌∷◌, length, Option, Some, None, Contains}
use Rattle.pssm_model.specs.declared.ids.VertexId.{VertexId}
use Rattle.pssm_model.specs.declared.ids.RegionId.{RegionId}
use Rattle.pssm_model.specs.declared.ids.TransId.{TransId}
use Rattle.pssm_model.specs.declared.elements.DraftMachine.{DraftMachine}
use Rattle.pssm_model.specs.declared.elements.VertexKind.TheVariants as kinds
use Rattle.pssm_model.specs.declared.steps.Route.{Route}
use Rattle.pssm_model.specs.declared.steps.Event.{Event}
use Rattle.pssm_model.specs.Forest.{HasKind, LiesInState}
use Rattle.pssm_model.specs.Configuration.{Configuration, IsDirect}
use Rattle.pssm_model.specs.Legs.{Leaves, Enters}
use Rattle.pssm_model.specs.Routes.{Truth, IsSource, IsEnabled}
use Rattle.pssm_enabled.specs.Starts.{IsLeftBy, AreStarted, AreStartsWith}
use Rattle.pssm_enabled.specs.declared.seeking.Search.{Search}
use Rattle.pssm_enabled.specs.Ways.{EndsInside, LeadsOut}

-- The event starts the transition, alone or with the others into its join.
abbrev pub IsStartedWith : DraftMachine → Configuration → Event → TransId → Type 0
IsStartedWith m now event t = (starts : List TransId) × AreStartsWith m t starts × AreStarted m now event starts

-- the transition by which a route with this start goes on: itself, or the one out of the join on which it ends
abbrev pub GoesOnBy : DraftMachine → TransId → TransId → Type 0
GoesOnBy m t u =
    ((u ≡ t) × ((v : VertexId) → Enters m t v → HasKind m v kinds.Join → ⊥))
    ⊎ ((v : VertexId) × Enters m t v × HasKind m v kinds.Join × Leaves m u v)

-- The sources of the starts among which is the transition are among the States.
abbrev pub StartsAmong : DraftMachine → List VertexId → TransId → Type 0
StartsAmong m states t = (starts : List TransId) (s : VertexId) → AreStartsWith m t starts → IsLeftBy m starts s → Contains states s

-- A route that the event enables has the transition as a start.
abbrev pub HasRouteBy : DraftMachine → Configuration → Truth → Event → TransId → Type 0
HasRouteBy m now truth event t = (p : Route) × IsEnabled m now truth event p × Contains p.starts t

-- A route that the event enables starts at the State.
abbrev pub Reacts : DraftMachine → Configuration → Truth → Event → VertexId → Type 0
Reacts m now truth event s = (p : Route) × IsEnabled m now truth event p × IsSource m p s

-- A State in it reacts.
abbrev pub IsOutranked : DraftMachine → Configuration → Truth → Event → VertexId → Type 0
IsOutranked m now truth event s = (q : VertexId) × Reacts m now truth event q × LiesInState m q s

-- The State reacts, and no State in it does.
abbrev pub IsCandidate : DraftMachine → Configuration → Truth → Event → VertexId → Type 0
IsCandidate m now truth event s = Reacts m now truth event s × (IsOutranked m now truth event s → ⊥)

-- The event starts the transition, and a way leads out from that by which a route with it goes on.
abbrev pub StartsWay : DraftMachine → Configuration → Truth → Event → TransId → Type 0
StartsWay m now truth event t = IsStartedWith m now event t × ((u : TransId) × GoesOnBy m t u × LeadsOut m truth None u)

-- It is the State that lies directly in the region and reacts, if one does.
abbrev pub IsReactingIn : DraftMachine → Configuration → Truth → Event → RegionId → Option VertexId → Type 0
IsReactingIn m now truth event r found = (s : VertexId) → (found ≡ Some s) ↔ (IsDirect m s r × Reacts m now truth event s)

-- The vertex reacts, and no other does.
abbrev pub ReactsAlone : DraftMachine → Configuration → Truth → Event → VertexId → Type 0
ReactsAlone m now truth event s = (q : VertexId) → Contains (s ∷ []) q ↔ Reacts m now truth event q

-- It is the vertex that reacts, if one does.
abbrev pub IsOneReacting : DraftMachine → Configuration → Truth → Event → Option VertexId → Type 0
IsOneReacting m now truth event found = (s : VertexId) → (found ≡ Some s) ↔ Reacts m now truth event s

-- The list has the vertex that was found, if one was, and no other.
abbrev pub AreListed : Option VertexId → List VertexId → Type 0
AreListed found states = (s : VertexId) → Contains states s ↔ (found ≡ Some s)

-- None of the transitions out of the vertex ends on a join.
abbrev pub StartAlone : DraftMachine → VertexId → Type 0
StartAlone m s = (t : TransId) → Leaves m t s → (v : VertexId) → Enters m t v → HasKind m v kinds.Join → ⊥

-- There is a search, where the event starts a transition and the route goes on to a junction or an exit point.
abbrev pub HasSearch : DraftMachine → Configuration → Event → List Search → Type 0
HasSearch m now event search = (t u : TransId) → IsStartedWith m now event t → GoesOnBy m t u → EndsInside m u → 0 < length search
