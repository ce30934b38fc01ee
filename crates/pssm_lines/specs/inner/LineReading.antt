-- Reading a line from left to right: the value at the front of the bytes, and the bytes after it.
use Rattle.std.specs.Prelude.{ℕ, zero, suc, ◌+◌, ◌-◌, ◌^◌, ℤ, pos, negsuc, ◌&&◌, List, [], ◌∷◌, ◌++◌, take, drop, length, slice_index, Option, Some, None, nat_lt, ◌==◌, if◌then◌else◌, codes}
use Rattle.std.specs.List.{prefix_len}
use Rattle.std.specs.Option.{option_map, option_map_or}
use Rattle.std.specs.Str.Parse.{digits_value}
use Rattle.pssm_model.specs.declared.ids.VertexId.{VertexId}
use Rattle.pssm_model.specs.declared.ids.RegionId.{RegionId}
use Rattle.pssm_model.specs.declared.ids.TransId.{TransId}
use Rattle.pssm_model.specs.declared.steps.Route.{Route}
use Rattle.pssm_model.specs.declared.steps.Firing.{Firing}
use Rattle.pssm_model.specs.declared.steps.Mode.{Mode}
use Rattle.pssm_model.specs.declared.steps.Mode.TheVariants.{Plain, Shallow, Deep}
use Rattle.pssm_model.specs.declared.steps.How.{How}
use Rattle.pssm_model.specs.declared.steps.How.TheVariants.{By, Restore, Nothing}
use Rattle.pssm_semantics.specs.declared.line.Line.{Line}
use Rattle.pssm_semantics.specs.declared.line.Line.TheVariants as lines
use Rattle.pssm_semantics.specs.declared.line.LineOut.{LineOut}
use Rattle.pssm_semantics.specs.declared.line.LineOut.TheVariants.{Mark, Send}
use Rattle.pssm_spelling.specs.SpellingReading.{is_digit, is_plain, stripped, name_taken, number_taken, index_taken}
use Rattle.pssm_lines.specs.declared.parts.OutParts.{OutParts}
use Rattle.pssm_lines.specs.declared.parts.OutParts.TheVariants as out_parts
use Rattle.pssm_lines.specs.declared.parts.LineParts.{LineParts}
use Rattle.pssm_lines.specs.declared.parts.LineParts.TheVariants as parts
use Rattle.pssm_lines.specs.LineText.{outs_text}

infixl 10 ◌>>=◌
abbrev pub ◌>>=◌ : {A B : Type 0} → Option A → (A → Option B) → Option B
None >>= f = None
(Some x) >>= f = f x

-- what is read at the front of a text: a value, and the bytes after it
abbrev pub Reader : Type 0 → Type 0
Reader A = List ℕ → Option (A × List ℕ)

-- ---- pieces in a row

-- pieces with a byte before each, where there are not more than these many
unfoldable pub each_taken : {A : Type 0} → ℕ → Reader A → ℕ → Reader (List A)
each_taken before read most [] = Some ([], [])
each_taken before read zero (c ∷ bytes) = if c == before then None else Some ([], c ∷ bytes)
each_taken before read (suc most) (c ∷ bytes) =
    if c == before then (read bytes >>= λ x. each_taken before read most x.1 >>= λ y. Some (x.0 ∷ y.0, y.1)) else Some ([], c ∷ bytes)

-- the same behind pieces that were read before
abbrev pub behind_first : {A : Type 0} → List A → Option (List A × List ℕ) → Option (List A × List ℕ)
behind_first first others = option_map (λ y. (first ++ y.0, y.1)) others

-- one piece, and more of them with a byte between two
abbrev pub joined_taken : {A : Type 0} → ℕ → Reader A → ℕ → Reader (List A)
joined_taken between read most bytes = do
  first ← read bytes
  others ← each_taken between read most first.1
  Some (first.0 ∷ others.0, others.1)

-- ---- numbers

-- the longest front of digits, where it spells a number below the limit
unfoldable pub digits_taken : ℕ → Reader ℕ
digits_taken limit bytes =
    let n = prefix_len is_digit bytes in
    let digits = take n bytes in
    if is_plain digits && nat_lt (digits_value 10 digits) limit then Some (digits_value 10 digits, drop n bytes) else None

unfoldable pub natural_taken : Reader ℤ
natural_taken bytes = do
  value ← digits_taken (2 ^ 63) bytes
  Some (pos value.0, value.1)

unfoldable pub negative_taken : Reader ℤ
negative_taken bytes = do
  value ← digits_taken (2 ^ 63 + 1) bytes
  if value.0 == 0 then None else Some (negsuc (value.0 - 1), value.1)

-- a number of 64 bits with a sign where it is below zero
unfoldable pub signed_taken : Reader ℤ
signed_taken bytes = option_map_or negative_taken (stripped (codes "-") bytes) (natural_taken bytes)

-- ---- arguments and outputs

-- at most eight numbers between commas, in parentheses
unfoldable pub args_taken : Reader (List ℤ)
args_taken bytes = do
  inside ← stripped (codes "(") bytes
  option_map_or (λ rest. Some ([], rest)) (stripped (codes ")") inside) (do
    args ← joined_taken 44 signed_taken 7 inside
    rest ← stripped (codes ")") args.1
    Some (args.0, rest))

-- a signal at an object, up to its arguments
unfoldable pub called_taken : Reader (List ℕ × List ℕ)
called_taken bytes = do
  object ← name_taken bytes
  dot ← stripped (codes ".") object.1
  signal ← name_taken dot
  Some ((object.0, signal.0), signal.1)

-- an output that is a mark, behind its sign
unfoldable pub mark_taken : Reader LineOut
mark_taken bytes = do
  mark ← name_taken bytes
  args ← args_taken mark.1
  Some (Mark mark.0 args.0, args.1)

-- an output that is a signal sent, behind its sign
unfoldable pub send_taken : Reader LineOut
send_taken bytes = do
  called ← called_taken bytes
  args ← args_taken called.1
  Some (Send called.0.0 called.0.1 args.0, args.1)

unfoldable pub out_taken : Reader LineOut
out_taken bytes =
    option_map_or mark_taken (stripped (codes "!") bytes) (
    option_map_or send_taken (stripped (codes ">") bytes) None)

-- what parts of an output that lie in a text say
abbrev pub shown_out : OutParts → LineOut
shown_out (out_parts.Mark mark args) = Mark mark.now args
shown_out (out_parts.Send object signal args) = Send object.now signal.now args

-- at most 64 outputs, each with a space before it
abbrev pub outs_taken : Reader (List LineOut)
outs_taken bytes = each_taken 32 out_taken 64 bytes

-- the text of such outputs
unfoldable pub outs_span_taken : Reader (List ℕ)
outs_span_taken bytes = option_map (λ outs. (outs_text outs.0, outs.1)) (outs_taken bytes)

-- ---- routes

abbrev pub vertex : ℕ → VertexId
vertex n = record { 0 = n }

abbrev pub region : ℕ → RegionId
region n = record { 0 = n }

abbrev pub transition : ℕ → TransId
transition n = record { 0 = n }

unfoldable pub transition_taken : Reader TransId
transition_taken bytes = do
  digits ← stripped (codes "t") bytes
  number ← index_taken digits
  Some (transition number.0, number.1)

unfoldable pub route_taken : Reader Route
route_taken bytes = do
  starts ← joined_taken 43 transition_taken (length bytes) bytes
  others ← each_taken 44 transition_taken (length starts.1) starts.1
  Some (record { starts = starts.0; rest = others.0 }, others.1)

abbrev pub firing_with : List Route → Firing
firing_with routes = record { routes = routes }

-- routes with a space between two
abbrev pub routes_taken : Reader Firing
routes_taken bytes = do
  routes ← joined_taken 32 route_taken (length bytes) bytes
  Some (firing_with routes.0, routes.1)

unfoldable pub firing_taken : Reader Firing
firing_taken bytes = option_map_or (λ rest. Some (firing_with [], rest)) (stripped (codes "-") bytes) (routes_taken bytes)

-- ---- openings

unfoldable pub mode_taken : Reader Mode
mode_taken bytes =
    option_map_or (λ rest. Some (Plain, rest)) (stripped (codes "default") bytes) (
    option_map_or (λ rest. Some (Shallow, rest)) (stripped (codes "shallow") bytes) (
    option_map_or (λ rest. Some (Deep, rest)) (stripped (codes "deep") bytes) None))

-- the mode of an opening between two spaces
unfoldable pub opened_taken : Reader Mode
opened_taken bytes = do
  space ← stripped (codes " ") bytes
  mode ← mode_taken space
  space ← stripped (codes " ") mode.1
  Some (mode.0, space)

unfoldable pub how_taken : Reader How
how_taken bytes =
    option_map_or (λ rest. route_taken rest >>= λ x. Some (By x.0, x.1)) (stripped (codes "by ") bytes) (
    option_map_or (λ rest. index_taken rest >>= λ x. Some (Restore (vertex x.0), x.1)) (stripped (codes "state v") bytes) (
    option_map_or (λ rest. Some (Nothing, rest)) (stripped (codes "none") bytes) None))

-- ---- lines

-- a line with its outputs as text
pub data Shown : Type 0 where
  Post : List ℕ → List ℕ → List ℤ → Shown
  Start : List ℕ → Shown
  Take : List ℕ → ℕ → Firing → Shown
  Done : List ℕ → VertexId → Firing → Shown
  Exit : List ℕ → VertexId → List ℕ → Shown
  Effect : List ℕ → TransId → List ℕ → Shown
  Enter : List ℕ → VertexId → List ℕ → Shown
  Opened : List ℕ → RegionId → Mode → How → Shown
  Pick : List ℕ → VertexId → Route → Shown
  DoStep : List ℕ → VertexId → ℕ → List ℕ → Shown

-- what parts that lie in a text say
abbrev pub shown : LineParts → Shown
shown (parts.Post object signal args) = Post object.now signal.now args
shown (parts.Start object) = Start object.now
shown (parts.Take object number firing) = Take object.now number firing
shown (parts.Done object state firing) = Done object.now state firing
shown (parts.Exit object state outs) = Exit object.now state outs.bytes.now
shown (parts.Effect object transition outs) = Effect object.now transition outs.bytes.now
shown (parts.Enter object state outs) = Enter object.now state outs.bytes.now
shown (parts.Opened object region mode how) = Opened object.now region mode how
shown (parts.Pick object choice route) = Pick object.now choice route
shown (parts.DoStep object state step outs) = DoStep object.now state step outs.bytes.now

-- a value, and the line feed after it
abbrev pub ended : {A : Type 0} → A → List ℕ → Option (A × List ℕ)
ended x bytes = option_map (λ rest. (x, rest)) (stripped (codes "\n") bytes)

-- an object, and an element behind a fixed word
unfoldable pub place_taken : List ℕ → Reader (List ℕ × ℕ)
place_taken word bytes = do
  object ← name_taken bytes
  digits ← stripped word object.1
  number ← index_taken digits
  Some ((object.0, number.0), number.1)

unfoldable pub post_taken : Reader Shown
post_taken bytes = do
  called ← called_taken bytes
  args ← args_taken called.1
  ended (Post called.0.0 called.0.1 args.0) args.1

unfoldable pub start_taken : Reader Shown
start_taken bytes = do
  object ← name_taken bytes
  ended (Start object.0) object.1

-- an object, and the number of a signal, which is not 0
unfoldable pub turn_taken : Reader (List ℕ × ℕ)
turn_taken bytes = do
  object ← name_taken bytes
  digits ← stripped (codes " ") object.1
  number ← number_taken digits
  if number.0 == 0 then None else Some ((object.0, number.0), number.1)

unfoldable pub take_taken : Reader Shown
take_taken bytes = do
  turn ← turn_taken bytes
  space ← stripped (codes " ") turn.1
  firing ← firing_taken space
  ended (Take turn.0.0 turn.0.1 firing.0) firing.1

unfoldable pub done_taken : Reader Shown
done_taken bytes = do
  place ← place_taken (codes " v") bytes
  space ← stripped (codes " ") place.1
  firing ← firing_taken space
  ended (Done place.0.0 (vertex place.0.1) firing.0) firing.1

unfoldable pub exit_taken : Reader Shown
exit_taken bytes = do
  place ← place_taken (codes " v") bytes
  outs ← outs_span_taken place.1
  ended (Exit place.0.0 (vertex place.0.1) outs.0) outs.1

unfoldable pub effect_taken : Reader Shown
effect_taken bytes = do
  place ← place_taken (codes " t") bytes
  outs ← outs_span_taken place.1
  ended (Effect place.0.0 (transition place.0.1) outs.0) outs.1

unfoldable pub enter_taken : Reader Shown
enter_taken bytes = do
  place ← place_taken (codes " v") bytes
  outs ← outs_span_taken place.1
  ended (Enter place.0.0 (vertex place.0.1) outs.0) outs.1

unfoldable pub open_taken : Reader Shown
open_taken bytes = do
  place ← place_taken (codes " r") bytes
  mode ← opened_taken place.1
  how ← how_taken mode.1
  ended (Opened place.0.0 (region place.0.1) mode.0 how.0) how.1

unfoldable pub pick_taken : Reader Shown
pick_taken bytes = do
  place ← place_taken (codes " v") bytes
  space ← stripped (codes " ") place.1
  route ← route_taken space
  ended (Pick place.0.0 (vertex place.0.1) route.0) route.1

unfoldable pub do_taken : Reader Shown
do_taken bytes = do
  place ← place_taken (codes " v") bytes
  space ← stripped (codes " ") place.1
  step ← index_taken space
  outs ← outs_span_taken step.1
  ended (DoStep place.0.0 (vertex place.0.1) step.0 outs.0) outs.1

-- the first reader whose word stands at the front
abbrev pub worded : {A : Type 0} → List ℕ → Reader A → List ℕ → Option (A × List ℕ) → Option (A × List ℕ)
worded word read bytes otherwise = option_map_or read (stripped word bytes) otherwise

-- an item of a step that begins with `e`
abbrev pub item_taken : Reader Shown
item_taken bytes = worded (codes "effect ") effect_taken bytes (worded (codes "enter ") enter_taken bytes (worded (codes "exit ") exit_taken bytes None))

abbrev pub post_or_pick_taken : Reader Shown
post_or_pick_taken bytes = worded (codes "post ") post_taken bytes (worded (codes "pick ") pick_taken bytes None)

abbrev pub done_or_do_taken : Reader Shown
done_or_do_taken bytes = worded (codes "done ") done_taken bytes (worded (codes "do ") do_taken bytes None)

-- a line that begins with another letter
abbrev pub other_taken : Reader Shown
other_taken bytes = worded (codes "take ") take_taken bytes (worded (codes "open ") open_taken bytes (worded (codes "start ") start_taken bytes None))

-- a line that begins with this letter
abbrev pub line_by : ℕ → Reader Shown
line_by letter bytes =
    if letter == 101 then item_taken bytes
    else if letter == 112 then post_or_pick_taken bytes
    else if letter == 100 then done_or_do_taken bytes
    else other_taken bytes

-- a line with its line feed
unfoldable pub line_taken : Reader Shown
line_taken bytes = line_by (slice_index bytes 0) bytes

-- a line with its outputs as text
abbrev pub shown_of : Line → Shown
shown_of (lines.Post object signal args) = Post object signal args
shown_of (lines.Start object) = Start object
shown_of (lines.Take object number firing) = Take object number firing
shown_of (lines.Done object state firing) = Done object state firing
shown_of (lines.Exit object state outs) = Exit object state (outs_text outs)
shown_of (lines.Effect object transition outs) = Effect object transition (outs_text outs)
shown_of (lines.Enter object state outs) = Enter object state (outs_text outs)
shown_of (lines.Opened object region mode how) = Opened object region mode how
shown_of (lines.Pick object choice route) = Pick object choice route
shown_of (lines.DoStep object state step outs) = DoStep object state step (outs_text outs)
