-- How a route goes on from a vertex, and what is asked of its starts.
use Rattle.std.specs.Prelude.{◌≡◌, ◌⊎◌, ◌<◌, List, length, All, Contains}
use Rattle.pssm_model.specs.declared.ids.VertexId.{VertexId}
use Rattle.pssm_model.specs.declared.ids.TransId.{TransId}
use Rattle.pssm_model.specs.declared.elements.DraftMachine.{DraftMachine}
use Rattle.pssm_model.specs.declared.elements.VertexKind.TheVariants as kinds
use Rattle.pssm_model.specs.declared.steps.Route.{Route}
use Rattle.pssm_model.specs.Forest.{HasKind}
use Rattle.pssm_model.specs.Legs.{Leaves, IsCut}
use Rattle.pssm_model.specs.Routes.{IsAscending}

-- the route of these starts and other transitions (UML 2.5.1 14.2.3.8, compound transitions)
abbrev pub route_with : List TransId → List TransId → Route
route_with starts rest = record { starts = starts; rest = rest }

-- a vertex through which a route goes on: a junction, fork, join, entry or exit point (UML 2.5.1 14.2.3.7, pseudostates)
abbrev pub IsThrough : DraftMachine → VertexId → Type 0
IsThrough m v = HasKind m v kinds.Junction ⊎ IsCut m v

-- Exactly one of these transitions leaves the vertex (UML 2.5.1 14.2.3.7, junction).
abbrev pub HasOneBy : DraftMachine → (TransId → Type 0) → VertexId → Type 0
HasOneBy m These v = (t : TransId) × These t × Leaves m t v × ((u : TransId) → These u → Leaves m u v → u ≡ t)

-- All transitions out of the vertex are among these (UML 2.5.1 14.2.3.7, fork and entryPoint).
abbrev pub HasEveryBy : DraftMachine → (TransId → Type 0) → VertexId → Type 0
HasEveryBy m These v = (t : TransId) → Leaves m t v → These t

-- One of these transitions goes on from a junction, and all that there are from a fork, join, entry or exit point
-- (UML 2.5.1 14.2.3.7, pseudostates).
pub record PassesBy (m : DraftMachine) (These : TransId → Type 0) (v : VertexId) : Type 0 where
  pub one : HasKind m v kinds.Junction → HasOneBy m These v
  pub every : IsCut m v → HasEveryBy m These v

-- No start leaves a vertex through which a route goes on (UML 2.5.1 14.2.3.8, compound transitions).
abbrev pub StartsOutside : DraftMachine → List TransId → Type 0
StartsOutside m starts = (t : TransId) (v : VertexId) → Contains starts t → Leaves m t v → IsThrough m v → ⊥

-- The transitions are of the machine, each once, in ascending number (this profile's own choice).
abbrev pub AreInOrder : DraftMachine → List TransId → Type 0
AreInOrder m ts = IsAscending ts × All (λ t. t.0 < length m.transitions) ts
