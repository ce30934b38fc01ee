-- The line of an entry, with the names that its numbers stand for.
use Rattle.std.specs.Prelude.{◌<◌, ℕ, List, [], map, slice_get}
use Rattle.std.specs.Option.{option_map_or}
use Rattle.std.specs.List.{AllByRecursion}
use Rattle.pssm_model.specs.declared.ids.SignalId.{SignalId}
use Rattle.pssm_model.specs.declared.ids.MarkId.{MarkId}
use Rattle.pssm_model.specs.declared.steps.Route.{Route}
use Rattle.pssm_model.specs.declared.steps.Firing.{Firing}
use Rattle.pssm_model.specs.declared.steps.How.{How}
use Rattle.pssm_model.specs.declared.steps.How.TheVariants.{By, Restore, Nothing}
use Rattle.pssm_semantics.specs.declared.entry.ObjectId.{ObjectId}
use Rattle.pssm_semantics.specs.declared.entry.Out.{Out}
use Rattle.pssm_semantics.specs.declared.entry.Out.TheVariants as outs
use Rattle.pssm_semantics.specs.declared.entry.Entry.{Entry}
use Rattle.pssm_semantics.specs.declared.entry.Entry.TheVariants as entries
use Rattle.pssm_semantics.specs.declared.line.Line.{Line}
use Rattle.pssm_semantics.specs.declared.line.Line.TheVariants.{Post, Start, Take, Done, Exit, Effect, Enter, Opened, Pick, DoStep}
use Rattle.pssm_semantics.specs.declared.line.LineOut.{LineOut}
use Rattle.pssm_semantics.specs.declared.line.LineOut.TheVariants.{Mark, Send}
use Rattle.pssm_semantics.specs.declared.setting.Setting.{Setting}
use Rattle.pssm_semantics.specs.Settings.{class_of}
use Rattle.pssm_lines.specs.Grammar.{IsIndex, AreArgs}

-- the name of an object; empty where there is no such object, and so of the others
abbrev pub name_of_object : Setting → ObjectId → List ℕ
name_of_object setting o = option_map_or (λ d. d.name) (slice_get setting.objects o.0) []

abbrev pub name_of_signal : Setting → SignalId → List ℕ
name_of_signal setting s = option_map_or (λ d. d.name) (slice_get setting.signals s.0) []

-- the name of a mark of an object's class
abbrev pub name_of_mark : Setting → ObjectId → MarkId → List ℕ
name_of_mark setting o k = option_map_or (λ class. option_map_or (λ mark. mark) (slice_get class.program.marks k.0) []) (class_of setting o) []

-- an output of an object
abbrev pub out_line : Setting → ObjectId → Out → LineOut
out_line setting o (outs.Mark mark args) = Mark (name_of_mark setting o mark) args
out_line setting o (outs.Send object signal args) = Send (name_of_object setting object) (name_of_signal setting signal) args

unfoldable pub line_of_entry : Setting → Entry → Line
line_of_entry setting (entries.Post o signal args) = Post (name_of_object setting o) (name_of_signal setting signal) args
line_of_entry setting (entries.Start o) = Start (name_of_object setting o)
line_of_entry setting (entries.Take o number firing) = Take (name_of_object setting o) number firing
line_of_entry setting (entries.Done o state firing) = Done (name_of_object setting o) state firing
line_of_entry setting (entries.Exit o state outs) = Exit (name_of_object setting o) state (map (out_line setting o) outs)
line_of_entry setting (entries.Effect o transition outs) = Effect (name_of_object setting o) transition (map (out_line setting o) outs)
line_of_entry setting (entries.Enter o state outs) = Enter (name_of_object setting o) state (map (out_line setting o) outs)
line_of_entry setting (entries.Opened o region mode how) = Opened (name_of_object setting o) region mode how
line_of_entry setting (entries.Pick o choice route) = Pick (name_of_object setting o) choice route
line_of_entry setting (entries.DoStep o state step outs) = DoStep (name_of_object setting o) state step (map (out_line setting o) outs)

-- ---- numbers within the ranges of their types

abbrev pub RouteFits : Route → Type 0
RouteFits route = AllByRecursion (λ t. IsIndex t.0) route.starts × AllByRecursion (λ t. IsIndex t.0) route.rest

abbrev pub FiringFits : Firing → Type 0
FiringFits firing = AllByRecursion RouteFits firing.routes

abbrev pub HowFits : How → Type 0
HowFits (By route) = RouteFits route
HowFits (Restore state) = IsIndex state.0
HowFits Nothing = Unit {0}

abbrev pub OutFits : Out → Type 0
OutFits (outs.Mark mark args) = AreArgs args
OutFits (outs.Send object signal args) = AreArgs args

abbrev pub EntryFits : Entry → Type 0
EntryFits (entries.Post o signal args) = AreArgs args
EntryFits (entries.Start o) = Unit {0}
EntryFits (entries.Take o number firing) = (number < 4294967296) × FiringFits firing
EntryFits (entries.Done o state firing) = IsIndex state.0 × FiringFits firing
EntryFits (entries.Exit o state outs) = IsIndex state.0 × AllByRecursion OutFits outs
EntryFits (entries.Effect o transition outs) = IsIndex transition.0 × AllByRecursion OutFits outs
EntryFits (entries.Enter o state outs) = IsIndex state.0 × AllByRecursion OutFits outs
EntryFits (entries.Opened o region mode how) = IsIndex region.0 × HowFits how
EntryFits (entries.Pick o choice route) = IsIndex choice.0 × RouteFits route
EntryFits (entries.DoStep o state step outs) = IsIndex state.0 × IsIndex step × AllByRecursion OutFits outs
