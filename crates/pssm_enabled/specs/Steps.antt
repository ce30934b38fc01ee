-- What a search keeps: by which transition it came to each junction and exit point, and from which step.
use Rattle.std.specs.Prelude.{◌≡◌, ℕ, List, [], ◌∷◌, ◌++◌, true, false, Option, Some, None, slice_get, slice_index_or}
use Rattle.pssm_model.specs.declared.ids.VertexId.{VertexId}
use Rattle.pssm_model.specs.declared.ids.RegionId.{RegionId}
use Rattle.pssm_model.specs.declared.ids.TransId.{TransId}
use Rattle.pssm_model.specs.declared.elements.DraftMachine.{DraftMachine}
use Rattle.pssm_model.specs.Legs.{Leaves}
use Rattle.pssm_model.specs.Routes.{Truth}
use Rattle.pssm_enabled.specs.declared.seeking.Step.{Step}
use Rattle.pssm_enabled.specs.declared.seeking.Search.{Search}
use Rattle.pssm_enabled.specs.Ways.{LeadsOut, IsWayOut}

-- The steps before say that this path leads to the step (this profile's own choice).
pub data IsTrail (steps : List Step) : Step → List TransId → Type 0 where
  first : (t : TransId) → IsTrail steps (record { by = t; before = None }) (t ∷ [])
  further : {k : ℕ} {step : Step} {path : List TransId} (u : TransId) → slice_get steps k ≡ Some step → IsTrail steps step path
      → IsTrail steps (record { by = u; before = Some k }) (path ++ u ∷ [])

-- The junction or exit point was seen by the search (this profile's own choice).
abbrev pub IsSeen : Search → VertexId → Type 0
IsSeen search v = slice_index_or search.seen v.0 false ≡ true

-- No way out leads over a junction or exit point that the search has seen (this profile's own choice).
abbrev pub SeesDeadEnds : DraftMachine → Truth → Option RegionId → Search → Type 0
SeesDeadEnds m truth within search = (v : VertexId) (u : TransId) → IsSeen search v → Leaves m u v → LeadsOut m truth within u → ⊥

-- The search, if there is one, has seen only dead ends (this profile's own choice).
abbrev pub KnowsDeadEnds : DraftMachine → Truth → Option RegionId → List Search → Type 0
KnowsDeadEnds m truth within [] = Unit {0}
KnowsDeadEnds m truth within (search ∷ more) = SeesDeadEnds m truth within search

-- the steps of the search, if there is one (this profile's own choice)
abbrev pub steps_of : List Search → List Step
steps_of [] = []
steps_of (search ∷ more) = search.steps

-- A way out from the start was found, which the steps tell (UML 2.5.1 14.2.3.9, enabled transitions; the steps are this profile's own choice).
abbrev pub IsFound : DraftMachine → Truth → Option RegionId → List Step → TransId → Step → Type 0
IsFound m truth within steps start last =
    (path : List TransId) × IsTrail steps last path × IsWayOut m truth within start last.by path
