-- Which lines are of the grammar of journals.
use Rattle.std.specs.Prelude.{ℕ, ℤ, ◌<◌, ◌≤◌, List, length, FitsSigned}
use Rattle.std.specs.Int.{w64}
use Rattle.std.specs.List.{AllByRecursion}
use Rattle.pssm_model.specs.declared.steps.Route.{Route}
use Rattle.pssm_model.specs.declared.steps.Firing.{Firing}
use Rattle.pssm_model.specs.declared.steps.How.{How}
use Rattle.pssm_model.specs.declared.steps.How.TheVariants.{By, Restore, Nothing}
use Rattle.pssm_semantics.specs.declared.line.Line.{Line}
use Rattle.pssm_semantics.specs.declared.line.Line.TheVariants.{Post, Start, Take, Done, Exit, Effect, Enter, Opened, Pick, DoStep}
use Rattle.pssm_semantics.specs.declared.line.LineOut.{LineOut}
use Rattle.pssm_semantics.specs.declared.line.LineOut.TheVariants.{Mark, Send}
use Rattle.pssm_spelling.specs.Spelling.{IsName}

-- the number of an element or of a do step
abbrev pub IsIndex : ℕ → Type 0
IsIndex n = n < 65536

-- at most eight numbers of 64 bits
abbrev pub AreArgs : List ℤ → Type 0
AreArgs args = (length args ≤ 8) × AllByRecursion (FitsSigned w64) args

abbrev pub IsSpelledOut : LineOut → Type 0
IsSpelledOut (Mark mark args) = IsName mark × AreArgs args
IsSpelledOut (Send object signal args) = IsName object × IsName signal × AreArgs args

-- at most 64 outputs
abbrev pub AreSpelledOuts : List LineOut → Type 0
AreSpelledOuts outs = (length outs ≤ 64) × AllByRecursion IsSpelledOut outs

-- A route starts somewhere.
abbrev pub IsSpelledRoute : Route → Type 0
IsSpelledRoute route = (0 < length route.starts) × AllByRecursion (λ t. IsIndex t.0) route.starts × AllByRecursion (λ t. IsIndex t.0) route.rest

abbrev pub IsSpelledFiring : Firing → Type 0
IsSpelledFiring firing = AllByRecursion IsSpelledRoute firing.routes

abbrev pub IsSpelledHow : How → Type 0
IsSpelledHow (By route) = IsSpelledRoute route
IsSpelledHow (Restore state) = IsIndex state.0
IsSpelledHow Nothing = Unit {0}

-- a line of the grammar: its names are names, and its numbers, lists and outputs are within the limits of a line (this profile's choice)
abbrev pub IsLine : Line → Type 0
IsLine (Post object signal args) = IsName object × IsName signal × AreArgs args
IsLine (Start object) = IsName object
IsLine (Take object number firing) = IsName object × (0 < number) × (number < 4294967296) × IsSpelledFiring firing
IsLine (Done object state firing) = IsName object × IsIndex state.0 × IsSpelledFiring firing
IsLine (Exit object state outs) = IsName object × IsIndex state.0 × AreSpelledOuts outs
IsLine (Effect object transition outs) = IsName object × IsIndex transition.0 × AreSpelledOuts outs
IsLine (Enter object state outs) = IsName object × IsIndex state.0 × AreSpelledOuts outs
IsLine (Opened object region mode how) = IsName object × IsIndex region.0 × IsSpelledHow how
IsLine (Pick object choice route) = IsName object × IsIndex choice.0 × IsSpelledRoute route
IsLine (DoStep object state step outs) = IsName object × IsIndex state.0 × IsIndex step × AreSpelledOuts outs
