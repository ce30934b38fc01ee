-- The forms of the entries of runs: how many outputs they have, and how many transitions their routes.
use Rattle.std.specs.Prelude.{◌≡◌, ◌⊎◌, ◌<◌, ◌≤◌, length}
use Rattle.std.specs.List.{AllByRecursion, sum_by}
use Rattle.pssm_model.specs.declared.ids.VertexId.{VertexId}
use Rattle.pssm_model.specs.declared.steps.Route.{Route}
use Rattle.pssm_model.specs.declared.steps.Firing.{Firing}
use Rattle.pssm_model.specs.declared.steps.How.{How}
use Rattle.pssm_model.specs.declared.steps.How.TheVariants.{By, Restore, Nothing}
use Rattle.pssm_model.specs.Legs.{transitions_of}
use Rattle.pssm_semantics.specs.declared.entry.Entry.{Entry}
use Rattle.pssm_semantics.specs.declared.entry.Entry.TheVariants.{Post, Start, Take, Done, Exit, Effect, Enter, Opened, Pick, DoStep}

-- a route that starts somewhere, each transition of which is one of the first 8,192
abbrev pub IsRunRoute : Route → Type 0
IsRunRoute route = (0 < length route.starts) × AllByRecursion (λ u. u.0 < 8192) (transitions_of route)

-- such routes, with at most 8,192 transitions in all
abbrev pub IsShortFiring : Firing → Type 0
IsShortFiring firing = AllByRecursion IsRunRoute firing.routes × (sum_by (λ route. length (transitions_of route)) firing.routes ≤ 8192)

-- such a route, with at most 8,192 transitions
abbrev pub IsShortRoute : Route → Type 0
IsShortRoute route = IsRunRoute route × (length (transitions_of route) ≤ 8192)

-- by no way, by such a route, or by one of the first 4,096 vertices that is restored
abbrev pub IsShortWay : How → Type 0
IsShortWay how =
    (how ≡ Nothing) ⊎ ((route : Route) × (how ≡ By route) × IsShortRoute route) ⊎ ((s : VertexId) × (how ≡ Restore s) × (s.0 < 4096))

-- an entry of a form that the entries of runs have: at most 64 outputs; openings by no way, by a route or by a vertex that is restored, picks by a
-- route, and firings of routes; routes start somewhere, and there are at most 8,192 transitions in all (this profile's choice of entries)
abbrev pub HasForm : Entry → Type 0
HasForm (Post o signal args) = Unit {0}
HasForm (Start o) = Unit {0}
HasForm (Take o number firing) = IsShortFiring firing
HasForm (Done o state firing) = IsShortFiring firing
HasForm (Exit o state outs) = length outs ≤ 64
HasForm (Effect o transition outs) = length outs ≤ 64
HasForm (Enter o state outs) = length outs ≤ 64
HasForm (Opened o region mode how) = IsShortWay how
HasForm (Pick o choice route) = IsShortRoute route
HasForm (DoStep o state step outs) = length outs ≤ 64

-- A take names a number from 1 (this profile's choice).
abbrev pub CountsFromOne : Entry → Type 0
CountsFromOne (Take o number firing) = 0 < number
CountsFromOne _ = Unit {0}

-- an entry of a run of a setting
pub record IsRunEntry (e : Entry) : Type 0 where
  pub form : HasForm e
  pub numbered : CountsFromOne e
