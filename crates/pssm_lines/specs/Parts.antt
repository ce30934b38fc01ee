-- What the parts of a line, as they lie in a text, say: the line whose parts they are.
use Rattle.std.specs.Prelude.{◌≡◌, ℕ, List, [], ◌∷◌}
use Rattle.pssm_model.specs.declared.ids.TransId.{TransId}
use Rattle.pssm_model.specs.declared.steps.Firing.{Firing}
use Rattle.pssm_semantics.specs.declared.line.Line.{Line}
use Rattle.pssm_semantics.specs.declared.line.Line.TheVariants.{Post, Start, Take, Done, Exit, Effect, Enter, Opened, Pick, DoStep}
use Rattle.pssm_semantics.specs.declared.line.LineOut.{LineOut}
use Rattle.pssm_semantics.specs.declared.line.LineOut.TheVariants.{Mark, Send}
use Rattle.pssm_lines.specs.declared.parts.OutsText.{OutsText}
use Rattle.pssm_lines.specs.declared.parts.OutParts.{OutParts}
use Rattle.pssm_lines.specs.declared.parts.OutParts.TheVariants as out_parts
use Rattle.pssm_lines.specs.declared.parts.LineParts.{LineParts}
use Rattle.pssm_lines.specs.declared.parts.LineParts.TheVariants as parts
use Rattle.pssm_lines.specs.declared.parts.BriefAct.{BriefAct}
use Rattle.pssm_lines.specs.declared.parts.BriefAct.TheVariants as acts
use Rattle.pssm_lines.specs.declared.parts.BriefParts.{BriefParts}
use Rattle.pssm_lines.specs.LineText.{outs_text}

-- The text spells these outputs, each with a space before it.
abbrev pub ShowsOuts : OutsText → List LineOut → Type 0
ShowsOuts text outs = text.bytes.now ≡ outs_text outs

-- The parts show the output: its names are the bytes, and its arguments are equal.
abbrev pub ShowsOut : OutParts → LineOut → Type 0
ShowsOut (out_parts.Mark mark args) out = out ≡ Mark mark.now args
ShowsOut (out_parts.Send object signal args) out = out ≡ Send object.now signal.now args

-- The parts show the line: its names are the bytes, its numbers and lists are equal, and its outputs are what the text of outputs spells.
abbrev pub Shows : LineParts → Line → Type 0
Shows (parts.Post object signal args) l = l ≡ Post object.now signal.now args
Shows (parts.Start object) l = l ≡ Start object.now
Shows (parts.Take object number firing) l = l ≡ Take object.now number firing
Shows (parts.Done object state firing) l = l ≡ Done object.now state firing
Shows (parts.Exit object state text) l = (outs : List LineOut) × (l ≡ Exit object.now state outs) × ShowsOuts text outs
Shows (parts.Effect object transition text) l = (outs : List LineOut) × (l ≡ Effect object.now transition outs) × ShowsOuts text outs
Shows (parts.Enter object state text) l = (outs : List LineOut) × (l ≡ Enter object.now state outs) × ShowsOuts text outs
Shows (parts.Opened object region mode how) l = l ≡ Opened object.now region mode how
Shows (parts.Pick object choice route) l = l ≡ Pick object.now choice route
Shows (parts.DoStep object state step text) l = (outs : List LineOut) × (l ≡ DoStep object.now state step outs) × ShowsOuts text outs

-- The first of the outputs is shown by the parts, and the text spells the others.
abbrev pub IsNextOut : OutParts → OutsText → List LineOut → Type 0
IsNextOut part text outs = (first : LineOut) × (others : List LineOut) × (outs ≡ first ∷ others) × ShowsOut part first × ShowsOuts text others

-- a firing of one route that has one start alone
abbrev pub firing_of_one : TransId → Firing
firing_of_one start = record { routes = record { starts = start ∷ []; rest = [] } ∷ [] }

-- the line of an object that tells this of it
abbrev pub line_of_act : List ℕ → BriefAct → Line
line_of_act object (acts.Post signal) = Post object signal.now []
line_of_act object (acts.Take number start) = Take object number (firing_of_one start)
line_of_act object (acts.Exit state) = Exit object state []
line_of_act object (acts.Effect transition) = Effect object transition []
line_of_act object (acts.Enter state) = Enter object state []

-- the line that the parts of a brief line show
abbrev pub brief_line : BriefParts → Line
brief_line parts = line_of_act parts.object.now parts.act
