-- How the transitions of a route fit together, by each of them and by each vertex on which one of them ends.
use Rattle.std.specs.Prelude.{◌≡◌, ◌⊎◌, ◌↔◌, ◌<◌, ℕ, List, [], ◌∷◌, length, Bool, true, false, Contains, IsTrue, slice_index_or, slice_set}
use Rattle.pssm_model.specs.declared.ids.VertexId.{VertexId}
use Rattle.pssm_model.specs.declared.ids.TransId.{TransId}
use Rattle.pssm_model.specs.declared.elements.DraftMachine.{DraftMachine}
use Rattle.pssm_model.specs.declared.elements.VertexKind.TheVariants as kinds
use Rattle.pssm_model.specs.declared.steps.Route.{Route}
use Rattle.pssm_model.specs.Forest.{HasKind}
use Rattle.pssm_model.specs.Legs.{Leaves, Enters, On}
use Rattle.pssm_enabled.specs.Fitting.{route_with, IsThrough, PassesBy}

-- The place of the list is marked.
abbrev pub IsMarked : List Bool → ℕ → Type 0
IsMarked marks n = slice_index_or marks n false ≡ true

-- The transition of the number is marked.
abbrev pub IsMarkedTransition : List Bool → TransId → Type 0
IsMarkedTransition marks t = IsMarked marks t.0

-- The transitions after the starts leave vertices through which a route goes on and on which one of the route ends, and the route goes on from each
-- vertex on which one ends.
pub record FitsTogether (m : DraftMachine) (p : Route) : Type 0 where
  pub leave : (t : TransId) (v : VertexId) → Contains p.rest t → Leaves m t v → IsThrough m v × ((u : TransId) × On p u × Enters m u v)
  pub passes : (t : TransId) (v : VertexId) → On p t → Enters m t v → PassesBy m (On p) v

-- They are all transitions into one join.
abbrev pub AreInto : DraftMachine → List TransId → Type 0
AreInto m starts =
    (v : VertexId) × HasKind m v kinds.Join × ((t : TransId) → Contains starts t → Enters m t v) × ((t : TransId) → Enters m t v → Contains starts t)

-- The starts are one transition that ends on no join, or all transitions into one join.
abbrev pub CanStart : DraftMachine → List TransId → Type 0
CanStart m starts = ((t : TransId) × (starts ≡ t ∷ []) × ((v : VertexId) → Enters m t v → HasKind m v kinds.Join → ⊥)) ⊎ AreInto m starts

-- A route that comes to the end of the transition ends there.
abbrev pub EndsAlone : DraftMachine → TransId → Type 0
EndsAlone m t = (v : VertexId) → Enters m t v → PassesBy m (λ u. ⊥) v

-- The transition is this one or not marked.
abbrev pub IsOrUnmarked : List Bool → TransId → TransId → Type 0
IsOrUnmarked on t u = (u ≡ t) ⊎ (IsMarkedTransition on u → ⊥)

-- The transition is this one or not among these.
abbrev pub IsOrOff : (TransId → Type 0) → TransId → TransId → Type 0
IsOrOff These t u = (u ≡ t) ⊎ (These u → ⊥)

-- The route of these transitions goes on from the vertex on which this one ends.
abbrev pub GoesOnBehind : DraftMachine → (TransId → Type 0) → TransId → Type 0
GoesOnBehind m These t = (v : VertexId) → Enters m t v → PassesBy m These v

-- The transition leaves a vertex through which a route goes on, and on which one of these ends.
abbrev pub LeavesEntered : DraftMachine → (TransId → Type 0) → TransId → Type 0
LeavesEntered m These t = (v : VertexId) → Leaves m t v → IsThrough m v × ((u : TransId) × These u × Enters m u v)

-- The place is marked as well.
abbrev pub IsSet : List Bool → List Bool → ℕ → Type 0
IsSet before after n = (n < length before) × (after ≡ slice_set before n true)

-- The transitions are marked as well.
abbrev pub AreSet : List Bool → List Bool → List TransId → Type 0
AreSet before after ts = (t : TransId) → IsMarkedTransition after t ↔ (IsMarkedTransition before t ⊎ Contains ts t)

-- What coming to the end of the transition makes of the marks of vertices, and whether the route goes on from there if it had no mark.
pub data ComesTo (m : DraftMachine) (on before after : List Bool) (t : TransId) : Bool → Type 0 where
  again : {v : VertexId} → Enters m t v → IsMarked before v.0 → after ≡ before → ComesTo m on before after t true
  first : {v : VertexId} {passes : Bool} → Enters m t v → IsSet before after v.0 → (IsTrue passes ↔ PassesBy m (IsMarkedTransition on) v)
      → ComesTo m on before after t passes

-- The vertices on which one of the transitions ends are marked as well, and the route goes on from each that was not marked.
pub record AreComeTo (m : DraftMachine) (on before after : List Bool) (ts : List TransId) : Type 0 where
  pub marks : (v : VertexId) → IsMarked after v.0 ↔ (IsMarked before v.0 ⊎ ((t : TransId) × Contains ts t × Enters m t v))
  pub passes : (v : VertexId) → IsMarked after v.0 → IsMarked before v.0 ⊎ PassesBy m (IsMarkedTransition on) v

-- The transitions of the route are marked, and the vertices on which its starts end, from which the route goes on.
pub record IsBegun (m : DraftMachine) (on seen : List Bool) (starts rest : List TransId) : Type 0 where
  pub marked : (t : TransId) → IsMarkedTransition on t ↔ On (route_with starts rest) t
  pub none : List Bool
  pub unseen : (n : ℕ) → IsMarked none n → ⊥
  pub come : AreComeTo m on none seen starts

-- One of the transitions ends on a vertex from which the route does not go on.
abbrev pub HasDeadEnd : DraftMachine → List Bool → List TransId → Type 0
HasDeadEnd m on ts = (t : TransId) × (v : VertexId) × Contains ts t × Enters m t v × (PassesBy m (IsMarkedTransition on) v → ⊥)

-- The transition leaves a marked vertex through which a route goes on.
abbrev pub LeavesMarked : DraftMachine → List Bool → TransId → Type 0
LeavesMarked m seen t = (v : VertexId) → Leaves m t v → IsThrough m v × IsMarked seen v.0
