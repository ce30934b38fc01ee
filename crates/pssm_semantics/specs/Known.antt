-- Entries and stimuli that name what the setting has.
use Rattle.std.specs.Prelude.{◌≡◌, ◌<◌, length, Some, All}
use Rattle.pssm_model.specs.declared.ids.VertexId.{VertexId}
use Rattle.pssm_model.specs.declared.elements.DraftMachine.{DraftMachine}
use Rattle.pssm_model.specs.declared.steps.Route.{Route}
use Rattle.pssm_model.specs.declared.steps.Firing.{Firing}
use Rattle.pssm_model.specs.declared.steps.How.{How}
use Rattle.pssm_model.specs.declared.steps.How.TheVariants.{By, Restore, Nothing}
use Rattle.pssm_model.specs.Legs.{transitions_of}
use Rattle.pssm_semantics.specs.declared.entry.Out.{Out}
use Rattle.pssm_semantics.specs.declared.entry.Out.TheVariants as outs
use Rattle.pssm_semantics.specs.declared.entry.Entry.{Entry}
use Rattle.pssm_semantics.specs.declared.entry.Entry.TheVariants.{Post, Start, Take, Done, Exit, Effect, Enter, Opened, Pick, DoStep}
use Rattle.pssm_semantics.specs.declared.setting.Class.{Class}
use Rattle.pssm_semantics.specs.declared.setting.Setting.{Setting}
use Rattle.pssm_semantics.specs.declared.stimulus.Stimulus.{Stimulus}
use Rattle.pssm_semantics.specs.Settings.{class_of, HasCount}

-- The transitions of the route are those of the machine (this profile's choice).
abbrev pub IsRouteOf : DraftMachine → Route → Type 0
IsRouteOf m route = All (λ t. t.0 < length m.transitions) (transitions_of route)

-- Those of every route of the firing are (this profile's choice).
abbrev pub IsFiringOf : DraftMachine → Firing → Type 0
IsFiringOf m firing = All (IsRouteOf m) firing.routes

-- The vertex is one of the machine (this profile's choice).
abbrev pub IsVertexOf : DraftMachine → VertexId → Type 0
IsVertexOf m v = v.0 < length m.vertices

-- What the way names is of the machine (this profile's choice).
abbrev pub IsWayOf : DraftMachine → How → Type 0
IsWayOf m (By route) = IsRouteOf m route
IsWayOf m (Restore s) = IsVertexOf m s
IsWayOf m Nothing = Unit {0}

-- a mark of the class, or a send of a signal of the setting with its count of arguments to one of the objects (this profile's choice)
abbrev pub IsOutOf : Setting → Class → Out → Type 0
IsOutOf setting class (outs.Mark mark args) = mark.0 < length class.program.marks
IsOutOf setting class (outs.Send object signal args) = (object.0 < length setting.objects) × HasCount setting signal (length args)

-- Every name of the entry is one of the model's, every number is in range, and every argument count is the signal's (this profile's choice).
abbrev pub NamesKnown : Setting → Class → Entry → Type 0
NamesKnown setting class (Post o signal args) = HasCount setting signal (length args)
NamesKnown setting class (Start o) = Unit {0}
NamesKnown setting class (Take o number firing) = IsFiringOf class.machine firing
NamesKnown setting class (Done o state firing) = IsVertexOf class.machine state × IsFiringOf class.machine firing
NamesKnown setting class (Exit o state outs) = IsVertexOf class.machine state × All (IsOutOf setting class) outs
NamesKnown setting class (Effect o t outs) = (t.0 < length class.machine.transitions) × All (IsOutOf setting class) outs
NamesKnown setting class (Enter o state outs) = IsVertexOf class.machine state × All (IsOutOf setting class) outs
NamesKnown setting class (Opened o region mode how) = (region.0 < length class.machine.regions) × IsWayOf class.machine how
NamesKnown setting class (Pick o choice route) = IsVertexOf class.machine choice × IsRouteOf class.machine route
NamesKnown setting class (DoStep o state step outs) = IsVertexOf class.machine state × All (IsOutOf setting class) outs

-- The stimulus names an object of the setting, and a signal with as many parameters as it has arguments (this profile's choice).
abbrev pub IsStimulusOf : Setting → Stimulus → Type 0
IsStimulusOf setting x = (class : Class) × (class_of setting x.object ≡ Some class) × HasCount setting x.signal (length x.args)
