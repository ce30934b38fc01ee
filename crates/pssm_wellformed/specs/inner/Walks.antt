-- The arrows that the rules of paths follow.
use Rattle.std.specs.Prelude.{◌≡◌, ◌↔◌, ◌⊎◌, ◌<◌, ◌+◌, ℕ, List, [], ◌∷◌, length, Contains, Some, Vec}
use Rattle.std.specs.declared.alloc.Global.{Global}
use Rattle.pssm_model.specs.declared.ids.VertexId.{VertexId}
use Rattle.pssm_model.specs.declared.ids.RegionId.{RegionId}
use Rattle.pssm_model.specs.declared.ids.TransId.{TransId}
use Rattle.pssm_model.specs.declared.elements.DraftMachine.{DraftMachine}
use Rattle.pssm_model.specs.declared.elements.VertexKind.TheVariants as kinds
use Rattle.pssm_model.specs.declared.elements.Owner.{Owner}
use Rattle.pssm_model.specs.declared.elements.Owner.TheVariants.{Top, Region, State}
use Rattle.pssm_model.specs.Forest.{HasKind, owner_of, LiesInRegion, LiesInState}
use Rattle.pssm_model.specs.Legs.{Leaves, Enters}
use Rattle.pssm_model.specs.FiringSets.{IsHistory, IsLateOrigin}
use Rattle.pssm_model.specs.Paths.{HasOut, IsPseudostate, IsInner, IsInitialOf}
use Rattle.pssm_wellformed.specs.declared.ends.End.{End}
use Rattle.pssm_wellformed.specs.declared.ends.End.TheVariants.{Source, Target}
use Rattle.pssm_wellformed.specs.declared.walks.Walk.{Walk}
use Rattle.pssm_wellformed.specs.declared.walks.Walk.TheVariants.{Junctions, Inner, Back, Through}
use Rattle.pssm_wellformed.specs.inner.Lists.{list_at}
use Rattle.pssm_wellformed.specs.inner.Reach.{IsReached}
use Rattle.pssm_wellformed.specs.inner.Ends.{HasEnd, vertex_number, transition_number}

-- A walk goes on from the vertex.
abbrev pub Passes : DraftMachine → Walk → VertexId → Type 0
Passes m Junctions v = HasKind m v kinds.Junction
Passes m Inner v = IsInner m v
Passes m Back v = HasKind m v kinds.Junction
Passes m Through v = IsPseudostate m v

-- the end of a transition at which a walk comes to it
abbrev pub near_end : Walk → End
near_end Back = Target
near_end _ = Source

-- the end of a transition to which it leads a walk
abbrev pub far_end : Walk → End
far_end Back = Source
far_end _ = Target

-- The transition leads the walk from the first vertex on to the second.
abbrev pub LeadsWalk : DraftMachine → Walk → TransId → VertexId → VertexId → Type 0
LeadsWalk m walk t a b = Passes m walk a × HasEnd m (near_end walk) t a × HasEnd m (far_end walk) t b

-- the arrows of a walk, over the transitions below a number alone
pub record AreArrowsBelow (m : DraftMachine) (walk : Walk) (n : ℕ) (onward : List (Vec ℕ Global)) : Type 0 where
  pub width : length onward ≡ length m.vertices
  pub arrows : (a b : ℕ) → Contains (list_at onward a) b ↔ ((t : ℕ) × (t < n) × LeadsWalk m walk (transition_number t) (vertex_number a) (vertex_number b))

-- the arrows of a walk
pub record AreArrows (m : DraftMachine) (walk : Walk) (onward : List (Vec ℕ Global)) : Type 0 where
  pub width : length onward ≡ length m.vertices
  pub arrows : (a b : ℕ) → Contains (list_at onward a) b ↔ ((t : TransId) × LeadsWalk m walk t (vertex_number a) (vertex_number b))

-- Arrows lead where the relation does.
pub record AreArrowsAlong (count : ℕ) (Leads : ℕ → ℕ → Type 0) (onward : List (Vec ℕ Global)) : Type 0 where
  pub width : length onward ≡ count
  pub arrows : (a b : ℕ) → Contains (list_at onward a) b ↔ Leads a b

-- Arrows lead where the first relation does, and from the numbers below a number where the second does.
abbrev pub AreArrowsWith : ℕ → ℕ → (ℕ → ℕ → Type 0) → (ℕ → ℕ → Type 0) → List (Vec ℕ Global) → Type 0
AreArrowsWith count n Leads More onward = AreArrowsAlong count (λ a b. Leads a b ⊎ ((a < n) × More a b)) onward

-- The vertex is a history vertex of the region, without transitions: it leads by default to the initial vertices of the region.
abbrev pub IsDefault : DraftMachine → VertexId → RegionId → Type 0
IsDefault m v r = IsHistory m v × (HasOut m v → ⊥) × (owner_of m (State v) ≡ Some (Region r))

-- the number of a region among arrows, behind the numbers of all vertices
abbrev pub number_of_region : DraftMachine → RegionId → ℕ
number_of_region m r = length m.vertices + r.0

-- A transition leads from the first vertex, which is a pseudostate, to the second.
abbrev pub LeadsThrough : DraftMachine → ℕ → ℕ → Type 0
LeadsThrough m a b = (t : TransId) × LeadsWalk m Through t (vertex_number a) (vertex_number b)

-- A history vertex without transitions leads to the number of its region.
abbrev pub LeadsToRegion : DraftMachine → ℕ → ℕ → Type 0
LeadsToRegion m a b = (r : RegionId) × (b ≡ number_of_region m r) × IsDefault m (vertex_number a) r

-- The number of a region leads to its initial vertices.
abbrev pub LeadsFromRegion : DraftMachine → ℕ → ℕ → Type 0
LeadsFromRegion m a b = (r : RegionId) × (a ≡ number_of_region m r) × IsInitialOf m r (vertex_number b)

-- Vertices lead to vertices and to the numbers of regions.
abbrev pub LeadsOut : DraftMachine → ℕ → ℕ → Type 0
LeadsOut m a b = LeadsThrough m a b ⊎ LeadsToRegion m a b

-- the arrows out of vertices
abbrev pub AreLeadsOut : DraftMachine → List (Vec ℕ Global) → Type 0
AreLeadsOut m onward = AreArrowsAlong (length m.vertices) (LeadsOut m) onward

-- the arrows through pseudostates, and by the numbers of regions those of history vertices without transitions
abbrev pub AreLeads : DraftMachine → List (Vec ℕ Global) → Type 0
AreLeads m onward = AreArrowsAlong (length m.vertices + length m.regions) (λ a b. LeadsOut m a b ⊎ LeadsFromRegion m a b) onward

-- by number, the vertices at which the transitions out of initial, history and choice vertices end
abbrev pub IsLateTarget : DraftMachine → ℕ → Type 0
IsLateTarget m b = (t : TransId) × (w : VertexId) × IsLateOrigin m w × Leaves m t w × Enters m t (vertex_number b)

-- the same over the transitions below a number alone
abbrev pub IsLateTargetBelow : DraftMachine → ℕ → ℕ → Type 0
IsLateTargetBelow m n b =
    (t : ℕ) × (t < n) × ((w : VertexId) × IsLateOrigin m w × Leaves m (transition_number t) w × Enters m (transition_number t) (vertex_number b))

-- The vertex lies in the region or State.
abbrev pub LiesIn : DraftMachine → VertexId → Owner → Type 0
LiesIn m v Top = Unit {0}
LiesIn m v (Region r) = LiesInRegion m v r
LiesIn m v (State s) = LiesInState m v s

-- The region is there, or the vertex is a State.
abbrev pub IsThere : DraftMachine → Owner → Type 0
IsThere m Top = Unit {0}
IsThere m (Region r) = r.0 < length m.regions
IsThere m (State s) = HasKind m s kinds.State

-- A walk from the vertex comes to one that lies outside the place.
abbrev pub Strays : DraftMachine → List (Vec ℕ Global) → VertexId → Owner → Type 0
Strays m onward start place = (w : ℕ) × IsReached onward (start.0 ∷ []) w × (LiesIn m (vertex_number w) place → ⊥)
