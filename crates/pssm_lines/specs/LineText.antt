-- The one spelling of each line of a journal, without its line feed, and the text of a journal.
use Rattle.std.specs.Prelude.{ℕ, ℤ, List, [], ◌∷◌, ◌++◌, map, codes}
use Rattle.std.specs.List.{flat_map, join_with_byte}
use Rattle.std.specs.Fmt.{decimal, signed_decimal}
use Rattle.pssm_model.specs.declared.ids.TransId.{TransId}
use Rattle.pssm_model.specs.declared.steps.Route.{Route}
use Rattle.pssm_model.specs.declared.steps.Firing.{Firing}
use Rattle.pssm_model.specs.declared.steps.Mode.{Mode}
use Rattle.pssm_model.specs.declared.steps.Mode.TheVariants.{Plain, Shallow, Deep}
use Rattle.pssm_model.specs.declared.steps.How.{How}
use Rattle.pssm_model.specs.declared.steps.How.TheVariants.{By, Restore, Nothing}
use Rattle.pssm_semantics.specs.declared.line.Line.{Line}
use Rattle.pssm_semantics.specs.declared.line.Line.TheVariants.{Post, Start, Take, Done, Exit, Effect, Enter, Opened, Pick, DoStep}
use Rattle.pssm_semantics.specs.declared.line.LineOut.{LineOut}
use Rattle.pssm_semantics.specs.declared.line.LineOut.TheVariants.{Mark, Send}

-- numbers between commas, in parentheses
abbrev pub args_text : List ℤ → List ℕ
args_text args = codes "(" ++ (join_with_byte 44 (map signed_decimal args) ++ codes ")")

-- a signal at an object, with its arguments: `a.Go(1,-2)`
abbrev pub call_text : List ℕ → List ℕ → List ℤ → List ℕ
call_text object signal args = object ++ (codes "." ++ (signal ++ args_text args))

-- a transition: `t5`
abbrev pub transition_text : TransId → List ℕ
transition_text t = codes "t" ++ decimal t.0

-- the starts joined by `+`, and each further transition behind a comma: `t5+t6,t7`
abbrev pub route_text : Route → List ℕ
route_text route = join_with_byte 43 (map transition_text route.starts) ++ flat_map (λ t. codes "," ++ transition_text t) route.rest

-- the routes with a space between two, or `-` where there is none
abbrev pub routes_text : List Route → List ℕ
routes_text [] = codes "-"
routes_text (r ∷ rs) = join_with_byte 32 (map route_text (r ∷ rs))

abbrev pub firing_text : Firing → List ℕ
firing_text firing = routes_text firing.routes

-- an output: `!m(1)` for a mark, `>b.Go()` for a signal sent
abbrev pub out_text : LineOut → List ℕ
out_text (Mark mark args) = codes "!" ++ (mark ++ args_text args)
out_text (Send object signal args) = codes ">" ++ call_text object signal args

-- the outputs, each with a space before it
abbrev pub outs_text : List LineOut → List ℕ
outs_text outs = flat_map (λ out. codes " " ++ out_text out) outs

abbrev pub mode_text : Mode → List ℕ
mode_text Plain = codes "default"
mode_text Shallow = codes "shallow"
mode_text Deep = codes "deep"

-- how a region opens: by a route, into a State as it was, or not at all
abbrev pub how_text : How → List ℕ
how_text (By route) = codes "by " ++ route_text route
how_text (Restore state) = codes "state v" ++ decimal state.0
how_text Nothing = codes "none"

-- a line (this profile's choice, as all spellings here)
abbrev pub line_text : Line → List ℕ
line_text (Post object signal args) = codes "post " ++ call_text object signal args
line_text (Start object) = codes "start " ++ object
line_text (Take object number firing) = codes "take " ++ (object ++ (codes " " ++ (decimal number ++ (codes " " ++ firing_text firing))))
line_text (Done object state firing) = codes "done " ++ (object ++ (codes " v" ++ (decimal state.0 ++ (codes " " ++ firing_text firing))))
line_text (Exit object state outs) = codes "exit " ++ (object ++ (codes " v" ++ (decimal state.0 ++ outs_text outs)))
line_text (Effect object transition outs) = codes "effect " ++ (object ++ (codes " t" ++ (decimal transition.0 ++ outs_text outs)))
line_text (Enter object state outs) = codes "enter " ++ (object ++ (codes " v" ++ (decimal state.0 ++ outs_text outs)))
line_text (Opened object region mode how) = codes "open " ++ (object ++ (codes " r" ++ (decimal region.0 ++ (codes " " ++ (mode_text mode ++ (codes " " ++ how_text how))))))
line_text (Pick object choice route) = codes "pick " ++ (object ++ (codes " v" ++ (decimal choice.0 ++ (codes " " ++ route_text route))))
line_text (DoStep object state step outs) = codes "do " ++ (object ++ (codes " v" ++ (decimal state.0 ++ (codes " " ++ (decimal step ++ outs_text outs)))))

-- the words of the first line
abbrev pub header_text : List ℕ
header_text = codes "pssm-journal 1"

-- the first line, with its line feed
abbrev pub header_line : List ℕ
header_line = header_text ++ 10 ∷ []

-- lines, each with its line feed
abbrev pub text_of : List Line → List ℕ
text_of lines = flat_map (λ l. line_text l ++ 10 ∷ []) lines

-- the text of a journal
abbrev pub journal_text : List Line → List ℕ
journal_text lines = header_line ++ text_of lines
