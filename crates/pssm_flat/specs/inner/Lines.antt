-- Reading one line of the flat form: the line that the bytes spell, where they spell one.
use Rattle.std.specs.Prelude.{ℕ, suc, zero, ◌-◌, ◌^◌, ℤ, pos, negsuc, List, [], ◌∷◌, ◌++◌, length, ◌&&◌, ◌==◌, nat_lt, nat_le, if◌then◌else◌, Option, Some, None, codes}
use Rattle.std.specs.Option.{option_map}
use Rattle.std.specs.List.{list_all}
use Rattle.std.specs.Str.{bytes_eq, is_utf8}
use Rattle.std.specs.Str.Parse.{digits_value}
use Rattle.std.specs.Fmt.{decimal, signed_decimal}
use Rattle.pssm_model.specs.declared.ids.RegionId.{RegionId}
use Rattle.pssm_model.specs.declared.ids.VertexId.{VertexId}
use Rattle.pssm_model.specs.declared.elements.Owner.{Owner}
use Rattle.pssm_model.specs.declared.elements.Owner.TheVariants as owners
use Rattle.pssm_model.specs.declared.elements.VertexKind.{VertexKind}
use Rattle.pssm_model.specs.declared.elements.VertexKind.TheVariants as kinds
use Rattle.pssm_model.specs.declared.elements.TransKind.{TransKind}
use Rattle.pssm_model.specs.declared.elements.TransKind.TheVariants.{External, Local, Internal}
use Rattle.pssm_spelling.specs.Numbers.{is_natural}
use Rattle.pssm_spelling.specs.SpellingReading.{stripped, name_taken, index_taken}
use Rattle.pssm_flat.specs.declared.action.ActionLine.{ActionLine}
use Rattle.pssm_flat.specs.declared.action.ActionLine.TheVariants as actions
use Rattle.pssm_flat.specs.declared.line.Line.{Line}
use Rattle.pssm_flat.specs.declared.line.Line.TheVariants as lines
use Rattle.pssm_flat.specs.Text.{owner_word, kind_word, transition_word, label_text}
use Rattle.pssm_flat.specs.Flat.{is_label_byte}
use Rattle.pssm_flat.specs.Faults.{action_word}

infixl 10 ◌>>=◌
abbrev pub ◌>>=◌ : {A B : Type 0} → Option A → (A → Option B) → Option B
None >>= f = None
(Some x) >>= f = f x

-- the first of two, where it is there
abbrev pub or_else : {A : Type 0} → Option A → Option A → Option A
or_else None other = other
or_else (Some x) other = Some x

-- the text of a line of the grammar
abbrev pub line_text : Line → List ℕ
line_text lines.Header = codes "pssm-flat 1"
line_text (lines.Signal name count) = codes "signal " ++ (name ++ (codes " " ++ decimal count))
line_text (lines.Class name) = codes "class " ++ name
line_text (lines.Object name class) = codes "object " ++ (name ++ (codes " " ++ class))
line_text (lines.Machine name) = codes "machine " ++ name
line_text (lines.Var name first) = codes "var " ++ (name ++ (codes " " ++ signed_decimal first))
line_text (lines.Region number owner) = codes "region r" ++ (decimal number ++ (codes " " ++ owner_word owner))
line_text (lines.Vertex number owner kind label) = codes "vertex v" ++ (decimal number ++ (codes " " ++ (owner_word owner ++ (codes " " ++ (kind_word kind ++ label_text label)))))
line_text (lines.Defer signal) = codes "defer " ++ signal
line_text (lines.Transition number source target kind) =
    codes "transition t" ++ (decimal number ++ (codes " v" ++ (decimal source.0 ++ (codes " v" ++ (decimal target.0 ++ (codes " " ++ transition_word kind))))))
line_text (lines.On signal) = codes "on " ++ signal
line_text (lines.Action word text) = action_word word ++ text
line_text lines.EmptyStep = codes "step"
line_text lines.Otherwise = codes "else"
line_text lines.End = codes "end"

-- ---- parts of lines

-- the value, where nothing is behind it
abbrev pub ended : {A : Type 0} → A × List ℕ → Option A
ended read = if length read.1 == 0 then Some read.0 else None

-- a word and a name, and nothing behind it
unfoldable pub named_taken : List ℕ → List ℕ → Option (List ℕ)
named_taken word bytes = do
  rest ← stripped word bytes
  name ← name_taken rest
  ended name

-- `r5` or `v5` behind a letter: the owner with the number
abbrev pub region_owner : ℕ × List ℕ → Owner × List ℕ
region_owner read = let r : RegionId = record { 0 = read.0 } in (owners.Region r, read.1)

abbrev pub vertex_owner : ℕ × List ℕ → Owner × List ℕ
vertex_owner read = let v : VertexId = record { 0 = read.0 } in (owners.State v, read.1)

-- an owner: `top`, `r5` or `v5`
abbrev pub top_taken : List ℕ → Option (Owner × List ℕ)
top_taken bytes = option_map (λ rest. (owners.Top, rest)) (stripped (codes "top") bytes)

unfoldable pub region_taken : List ℕ → Option (Owner × List ℕ)
region_taken bytes = do
  digits ← stripped (codes "r") bytes
  option_map region_owner (index_taken digits)

unfoldable pub vertex_taken : List ℕ → Option (Owner × List ℕ)
vertex_taken bytes = do
  digits ← stripped (codes "v") bytes
  option_map vertex_owner (index_taken digits)

unfoldable pub owner_taken : List ℕ → Option (Owner × List ℕ)
owner_taken bytes = or_else (top_taken bytes) (or_else (region_taken bytes) (vertex_taken bytes))

-- the first of these kinds whose word it is
abbrev pub kind_among : List VertexKind → List ℕ → Option VertexKind
kind_among [] word = None
kind_among (kind ∷ kinds) word = if bytes_eq word (kind_word kind) then Some kind else kind_among kinds word

abbrev pub kind_of : List ℕ → Option VertexKind
kind_of word =
    kind_among (kinds.State ∷ kinds.Final ∷ kinds.Initial ∷ kinds.DeepHistory ∷ kinds.ShallowHistory ∷ kinds.Join ∷ kinds.Fork ∷ kinds.Junction ∷ kinds.Choice ∷ kinds.EntryPoint ∷ kinds.ExitPoint ∷ kinds.Terminate ∷ []) word

abbrev pub transition_among : List TransKind → List ℕ → Option TransKind
transition_among [] word = None
transition_among (kind ∷ kinds) word = if bytes_eq word (transition_word kind) then Some kind else transition_among kinds word

abbrev pub transition_of : List ℕ → Option TransKind
transition_of word = transition_among (External ∷ Local ∷ Internal ∷ []) word

-- a label of at least one byte
abbrev pub label_of : List ℕ → Option (List ℕ)
label_of label = if nat_lt 0 (length label) && (list_all is_label_byte label && is_utf8 label) then Some label else None

-- nothing, or one blank and a label
abbrev pub label_taken : List ℕ → Option (List ℕ)
label_taken [] = Some []
label_taken (b ∷ bytes) = if b == 32 then label_of bytes else None

-- one digit from 0 to 8, and nothing behind it
abbrev pub count_taken : List ℕ → Option ℕ
count_taken (c ∷ []) = if nat_le 48 c && nat_le c 56 then Some (c - 48) else None
count_taken _ = None

-- a number of 64 bits, with `-` before it where it is below zero
unfoldable pub natural_first : List ℕ → Option ℤ
natural_first digits =
    if is_natural digits then (if nat_lt (digits_value 10 digits) (2 ^ 63) then Some (pos (digits_value 10 digits)) else None) else None

abbrev pub negative_value : ℕ → Option ℤ
negative_value zero = None
negative_value (suc below) = if nat_lt below (2 ^ 63) then Some (negsuc below) else None

unfoldable pub negative_first : List ℕ → Option ℤ
negative_first digits = if is_natural digits then negative_value (digits_value 10 digits) else None

unfoldable pub first_taken : List ℕ → Option ℤ
first_taken [] = natural_first []
first_taken (c ∷ cs) = if c == 45 then negative_first cs else natural_first (c ∷ cs)

-- an action text behind its word
unfoldable pub behind_word : ActionLine → List ℕ → Option (ActionLine × List ℕ)
behind_word word bytes = do
  text ← stripped (action_word word) bytes
  if is_utf8 text then Some (word, text) else None

unfoldable pub action_taken : List ℕ → Option (ActionLine × List ℕ)
action_taken bytes =
    or_else (behind_word actions.Entry bytes)
    (or_else (behind_word actions.Exit bytes)
    (or_else (behind_word actions.Step bytes) (or_else (behind_word actions.When bytes) (behind_word actions.Effect bytes))))

-- ---- lines

abbrev pub whole_line : List ℕ → Line → List ℕ → Option Line
whole_line word l bytes = if bytes_eq bytes word then Some l else None

unfoldable pub signal_taken : List ℕ → Option (List ℕ × ℕ)
signal_taken bytes = do
  rest ← stripped (codes "signal ") bytes
  name ← name_taken rest
  digit ← stripped (codes " ") name.1
  count ← count_taken digit
  Some (name.0, count)

unfoldable pub object_taken : List ℕ → Option (List ℕ × List ℕ)
object_taken bytes = do
  rest ← stripped (codes "object ") bytes
  name ← name_taken rest
  class ← named_taken (codes " ") name.1
  Some (name.0, class)

unfoldable pub var_taken : List ℕ → Option (List ℕ × ℤ)
var_taken bytes = do
  rest ← stripped (codes "var ") bytes
  name ← name_taken rest
  word ← stripped (codes " ") name.1
  first ← first_taken word
  Some (name.0, first)

unfoldable pub region_line_taken : List ℕ → Option Line
region_line_taken bytes = do
  digits ← stripped (codes "region r") bytes
  number ← index_taken digits
  rest ← stripped (codes " ") number.1
  read ← owner_taken rest
  owner ← ended read
  Some (lines.Region number.0 owner)

-- the number, owner, kind and label of a vertex
unfoldable pub vertex_line_taken : List ℕ → Option (ℕ × Owner × VertexKind × List ℕ)
vertex_line_taken bytes = do
  digits ← stripped (codes "vertex v") bytes
  number ← index_taken digits
  rest ← stripped (codes " ") number.1
  owner ← owner_taken rest
  word ← stripped (codes " ") owner.1
  name ← name_taken word
  kind ← kind_of name.0
  label ← label_taken name.1
  Some (number.0, owner.0, kind, label)

-- the number of a vertex behind a blank and a `v`
unfoldable pub end_taken : List ℕ → Option (ℕ × List ℕ)
end_taken bytes = do
  digits ← stripped (codes " v") bytes
  index_taken digits

-- the number, ends and kind of a transition
unfoldable pub transition_line_taken : List ℕ → Option (ℕ × ℕ × ℕ × TransKind)
transition_line_taken bytes = do
  digits ← stripped (codes "transition t") bytes
  number ← index_taken digits
  source ← end_taken number.1
  target ← end_taken source.1
  word ← stripped (codes " ") target.1
  kind ← transition_of word
  Some (number.0, source.0, target.0, kind)

abbrev pub vertex_of : ℕ × Owner × VertexKind × List ℕ → Line
vertex_of x = lines.Vertex x.0 x.1 x.2 x.3

abbrev pub transition_with : ℕ × ℕ × ℕ × TransKind → Line
transition_with x =
    let source : VertexId = record { 0 = x.1 } in
    let target : VertexId = record { 0 = x.2 } in
    lines.Transition x.0 source target x.3

-- a line of the head
unfoldable pub head_line_taken : List ℕ → Option Line
head_line_taken bytes =
    or_else (whole_line (codes "pssm-flat 1") lines.Header bytes)
    (or_else (option_map (λ x. lines.Signal x.0 x.1) (signal_taken bytes))
    (or_else (option_map lines.Class (named_taken (codes "class ") bytes))
    (or_else (option_map (λ x. lines.Object x.0 x.1) (object_taken bytes)) (option_map lines.Machine (named_taken (codes "machine ") bytes)))))

-- a line of a variable or an element
unfoldable pub element_line_taken : List ℕ → Option Line
element_line_taken bytes =
    or_else (option_map (λ x. lines.Var x.0 x.1) (var_taken bytes))
    (or_else (region_line_taken bytes) (or_else (option_map vertex_of (vertex_line_taken bytes)) (option_map transition_with (transition_line_taken bytes))))

-- a line of a part of an element, or the last line
unfoldable pub part_line_taken : List ℕ → Option Line
part_line_taken bytes =
    or_else (option_map lines.Defer (named_taken (codes "defer ") bytes))
    (or_else (option_map lines.On (named_taken (codes "on ") bytes))
    (or_else (option_map (λ x. lines.Action x.0 x.1) (action_taken bytes))
    (or_else (whole_line (codes "step") lines.EmptyStep bytes) (or_else (whole_line (codes "else") lines.Otherwise bytes) (whole_line (codes "end") lines.End bytes)))))

unfoldable pub line_taken : List ℕ → Option Line
line_taken bytes = or_else (head_line_taken bytes) (or_else (element_line_taken bytes) (part_line_taken bytes))
