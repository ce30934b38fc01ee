-- How the progress of a step begins, and how it goes on as an item runs.
use Rattle.std.specs.Prelude.{◌≡◌, ◌⊎◌, ◌↔◌, ◌<◌, ◌++◌, List, [], ◌∷◌, length, Contains, false}
use Rattle.pssm_model.specs.declared.ids.VertexId.{VertexId}
use Rattle.pssm_model.specs.declared.ids.RegionId.{RegionId}
use Rattle.pssm_model.specs.declared.elements.DraftMachine.{DraftMachine}
use Rattle.pssm_model.specs.declared.steps.Route.{Route}
use Rattle.pssm_model.specs.declared.steps.How.{How}
use Rattle.pssm_model.specs.declared.steps.How.TheVariants.{By, Restore, Nothing}
use Rattle.pssm_model.specs.declared.steps.Mode.{Mode}
use Rattle.pssm_model.specs.declared.steps.Item.{Item}
use Rattle.pssm_model.specs.declared.steps.Item.TheVariants.{Opened}
use Rattle.pssm_model.specs.RouteWords.{IsStepRoute}
use Rattle.pssm_plan.specs.declared.ways.Way.{Way}
use Rattle.pssm_plan.specs.declared.roster.Call.{Call}
use Rattle.pssm_plan.specs.declared.progress.Progress.{Progress}
use Rattle.pssm_plan.specs.Ways.{IsWayIn, AreWaysIn, IsWayTaken, IsWayFired}
use Rattle.pssm_plan.specs.inner.Marks.{IsListed, IsMarked, IsLonger, IsNoted, IsAlike, ArePairwise}
use Rattle.pssm_plan.specs.inner.ByWays.{calls_by}
use Rattle.pssm_plan.specs.inner.Passes.{AreAllSure}
use Rattle.pssm_plan.specs.inner.Sequence.{IsSequence, IsOrderedBySome, IsRoster, IsExtended}
use Rattle.pssm_plan.specs.inner.Calling.{IsNoExit, IsLate, IsOfRestored, IsEntered}

-- the list of a roster that has these items, none of which has run, and each of which says for which one it waits
pub record IsMadeOf (m : DraftMachine) (ways : List Way) (Added : Item → Type 0) (calls : List Call) : Type 0 where
  pub roster : IsRoster m calls
  pub listed : (x : Item) → IsListed calls x ↔ Added x
  pub marked : (x : Item) → IsMarked calls x → ⊥
  pub sure : AreAllSure (IsSequence m ways) calls

-- the ways of routes that fire, and no others
pub record AreFired (m : DraftMachine) (routes : List Route) (ways : List Way) : Type 0 where
  pub inside : AreWaysIn m ways
  pub taken : (p : Route) → IsWayTaken ways p ↔ Contains routes p
  pub fired : (p : Route) → IsWayFired ways p ↔ Contains routes p

-- The item may run in this way: by a route by which steps go, or an opening by restoring a State that is there, or without a way.
abbrev pub CanRunSo : DraftMachine → Item → How → Type 0
CanRunSo m item (By p) = IsStepRoute m p
CanRunSo m item (Restore s) = (s.0 < length m.vertices) × ((r : RegionId) × (mode : Mode) × (item ≡ Opened r mode))
CanRunSo m item Nothing = Unit {0}

-- Of two items one of which is listed, more ways order none that the ways so far do not.
abbrev pub KeepsOrder : DraftMachine → List Call → List Way → List Way → Type 0
KeepsOrder m calls ways more = (x y : Item) → (IsListed calls x ⊎ IsListed calls y) → IsOrderedBySome m more x y → IsOrderedBySome m ways x y

-- What the ways call is listed, but for exits.
abbrev pub AreCovered : DraftMachine → List Way → List Call → Type 0
AreCovered m ways calls = (way : Way) (x : Item) → Contains ways way → IsNoExit x → calls_by m way x → IsListed calls x

-- More is listed, gone by and restored than before.
pub record IsLongerProgress (old new : Progress) : Type 0 where
  pub calls : IsLonger old.roster.calls.items new.roster.calls.items
  pub ways : IsLonger old.ways.items new.ways.items
  pub restored : IsLonger old.restored.items new.restored.items
  pub spans : IsLonger old.spans.items new.spans.items

-- The step has gone by a late route, and what this calls is listed.
pub record IsFollowedBy (m : DraftMachine) (old : Progress) (p : Route) (new : Progress) : Type 0 where
  pub way : Way
  pub inside : IsWayIn m way
  pub route : way.route.value ≡ p
  pub late : way.fires ≡ false
  pub ways : new.ways.items ≡ old.ways.items ++ way ∷ []
  pub restored : new.restored.items ≡ old.restored.items
  pub extended : IsExtended m old.roster.calls.items (IsLate m old.roster.calls.items way) new.roster.calls.items

-- The State was restored by an opening in this mode, and what it calls is listed.
pub record IsFollowedRestoring (m : DraftMachine) (old : Progress) (mode : Mode) (s : VertexId) (new : Progress) : Type 0 where
  pub ways : new.ways.items ≡ old.ways.items
  pub restored : new.restored.items ≡ old.restored.items ++ (record { mode = mode; state = s }) ∷ []
  pub extended : IsExtended m old.roster.calls.items (IsOfRestored m old.roster.calls.items mode s) new.roster.calls.items

-- What the item calls once it has run without a way is listed.
pub record IsFollowedPlainly (m : DraftMachine) (old : Progress) (item : Item) (new : Progress) : Type 0 where
  pub ways : new.ways.items ≡ old.ways.items
  pub restored : new.restored.items ≡ old.restored.items
  pub extended : IsExtended m old.roster.calls.items (IsEntered m old.ways.items old.restored.items item) new.roster.calls.items

-- What the item calls once it has run in this way is listed, and by what it went or what it restored is kept.
abbrev pub IsFollowedSo : DraftMachine → Progress → Item → How → Progress → Type 0
IsFollowedSo m old item (By p) new = IsFollowedBy m old p new
IsFollowedSo m old item (Restore s) new = (r : RegionId) × (mode : Mode) × (item ≡ Opened r mode) × IsFollowedRestoring m old mode s new
IsFollowedSo m old item Nothing new = IsFollowedPlainly m old item new

-- The item is noted as one that has run, and each call says for which one it waits.
pub record IsFinished (m : DraftMachine) (ways : List Way) (item : Item) (grown : List Call) (calls : List Call) : Type 0 where
  pub now : List Call
  pub noted : ArePairwise (IsNoted item) grown now
  pub alike : ArePairwise IsAlike now calls
  pub sure : AreAllSure (IsSequence m ways) calls

-- the progress of a step once an item has run in this way
pub record IsRunSo (m : DraftMachine) (old : Progress) (item : Item) (how : How) (new : Progress) : Type 0 where
  pub grown : Progress
  pub followed : IsFollowedSo m old item how grown
  pub ways : new.ways.items ≡ grown.ways.items
  pub restored : new.restored.items ≡ grown.restored.items
  pub finished : IsFinished m new.ways.items item grown.roster.calls.items new.roster.calls.items

-- The progress is as before; there may be more room.
pub record IsUnchanged (old new : Progress) : Type 0 where
  pub calls : new.roster.calls.items ≡ old.roster.calls.items
  pub ways : new.ways.items ≡ old.ways.items
  pub restored : new.restored.items ≡ old.restored.items
  pub spans : IsLonger old.spans.items new.spans.items
