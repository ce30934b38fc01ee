-- The lists that a machine keeps of what stands where, each by the numbers of what it stands at.
use Rattle.std.specs.Prelude.{◌≡◌, ◌↔◌, ◌<◌, ℕ, List, [], Some, length, Contains, AllPairs, slice_index_or}
use Rattle.pssm_model.specs.declared.ids.VertexId.{VertexId}
use Rattle.pssm_model.specs.declared.ids.RegionId.{RegionId}
use Rattle.pssm_model.specs.declared.ids.TransId.{TransId}
use Rattle.pssm_model.specs.declared.elements.DraftMachine.{DraftMachine}
use Rattle.pssm_model.specs.declared.elements.VertexKind.TheVariants as kinds
use Rattle.pssm_model.specs.declared.elements.Owner.TheVariants.{Top, Region, State}
use Rattle.pssm_model.specs.declared.index.Index.{Index}
use Rattle.pssm_model.specs.declared.listing.Listing.{Listing}
use Rattle.pssm_model.specs.declared.listing.Listing.TheVariants.{Outgoing, Incoming, Elses, Regions, TopRegions, Vertices}
use Rattle.pssm_model.specs.Forest.{HasKind, owner_of}
use Rattle.pssm_model.specs.Legs.{Leaves, Enters}
use Rattle.pssm_model.specs.WellFormed.{HasElse}

-- the vertex, region or transition of a number
abbrev pub vertex_number : ℕ → VertexId
vertex_number n = record { 0 = n }

abbrev pub region_number : ℕ → RegionId
region_number n = record { 0 = n }

abbrev pub transition_number : ℕ → TransId
transition_number n = record { 0 = n }

-- The second number is one that is listed at the first.
abbrev pub IsListed : DraftMachine → Listing → ℕ → ℕ → Type 0
IsListed m Outgoing v t = Leaves m (transition_number t) (vertex_number v)
IsListed m Incoming v t = Enters m (transition_number t) (vertex_number v)
IsListed m Elses v t = Leaves m (transition_number t) (vertex_number v) × HasElse m (transition_number t)
IsListed m Regions s r = owner_of m (Region (region_number r)) ≡ Some (State (vertex_number s))
IsListed m TopRegions k r = (k ≡ 0) × (owner_of m (Region (region_number r)) ≡ Some Top)
IsListed m (Vertices kind) r v = HasKind m (vertex_number v) kind × (owner_of m (State (vertex_number v)) ≡ Some (Region (region_number r)))

-- how many there are to be listed
abbrev pub count_of : DraftMachine → Listing → ℕ
count_of m Outgoing = length m.transitions
count_of m Incoming = length m.transitions
count_of m Elses = length m.transitions
count_of m Regions = length m.regions
count_of m TopRegions = length m.regions
count_of m (Vertices _) = length m.vertices

-- how many lists there are
abbrev pub width_of : DraftMachine → Listing → ℕ
width_of m Outgoing = length m.vertices
width_of m Incoming = length m.vertices
width_of m Elses = length m.vertices
width_of m Regions = length m.vertices
width_of m TopRegions = 1
width_of m (Vertices _) = length m.regions

-- the list at a number, which is empty where there is none
abbrev pub list_at : {A : Type 0} → List (List A) → ℕ → List A
list_at lists k = slice_index_or lists k []

-- At each number below the width stand the items whose numbers are related to it, ascending.
pub record AreLists {A : Type 0} (number : A → ℕ) (width : ℕ) (Of : ℕ → ℕ → Type 0) (lists : List (List A)) : Type 0 where
  pub all : length lists ≡ width
  pub items : (k : ℕ) (x : A) → Contains (list_at lists k) x ↔ Of k (number x)
  pub ascending : (k : ℕ) → AllPairs (λ x y. number x < number y) (list_at lists k)

-- the same for the items whose numbers stand below a number alone
abbrev pub AreListsBelow : {A : Type 0} → (A → ℕ) → ℕ → ℕ → (ℕ → ℕ → Type 0) → List (List A) → Type 0
AreListsBelow number width n Of lists = AreLists number width (λ k i. (i < n) × Of k i) lists

-- what a machine keeps of its transitions, regions and vertices
abbrev pub AreTransitionLists : DraftMachine → Listing → List (List TransId) → Type 0
AreTransitionLists m listing lists = AreLists (λ t. t.0) (width_of m listing) (IsListed m listing) lists

abbrev pub AreRegionLists : DraftMachine → Listing → List (List RegionId) → Type 0
AreRegionLists m listing lists = AreLists (λ r. r.0) (width_of m listing) (IsListed m listing) lists

abbrev pub AreVertexLists : DraftMachine → Listing → List (List VertexId) → Type 0
AreVertexLists m listing lists = AreLists (λ v. v.0) (width_of m listing) (IsListed m listing) lists

-- the index of a machine
pub record IsIndex (m : DraftMachine) (index : Index) : Type 0 where
  pub outgoing : AreTransitionLists m Outgoing index.outgoing
  pub incoming : AreTransitionLists m Incoming index.incoming
  pub elses : AreTransitionLists m Elses index.elses
  pub regions : AreRegionLists m Regions index.regions
  pub tops : AreRegionLists m TopRegions index.tops
  pub initials : AreVertexLists m (Vertices kinds.Initial) index.initials
  pub shallows : AreVertexLists m (Vertices kinds.ShallowHistory) index.shallows
  pub deeps : AreVertexLists m (Vertices kinds.DeepHistory) index.deeps
  pub states : AreVertexLists m (Vertices kinds.State) index.states
