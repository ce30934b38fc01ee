-- What has been read of a text, line by line.
use Rattle.std.specs.Prelude.{◌≡◌, ◌⊎◌, ℕ, ℤ, suc, List, [], ◌∷◌, ◌++◌, length, map, take, drop, Bool, true, false, not, ◌&&◌, ◌==◌, ◌+◌, ◌≤◌, nat_lt, nat_le, slice_get, if◌then◌else◌, Option, Some, None, Result, Ok, Err, position}
use Rattle.std.specs.Option.{option_map, option_map_or}
use Rattle.std.specs.List.{list_any, list_all, prefix_len, AllByRecursion}
use Rattle.std.specs.Str.{bytes_eq}
use Rattle.pssm_model.specs.declared.ids.ActId.{ActId}
use Rattle.pssm_model.specs.declared.ids.GuardId.{GuardId}
use Rattle.pssm_model.specs.declared.ids.SignalId.{SignalId}
use Rattle.pssm_model.specs.declared.ids.VertexId.{VertexId}
use Rattle.pssm_model.specs.declared.elements.Owner.{Owner}
use Rattle.pssm_model.specs.declared.elements.Owner.TheVariants.{Top, Region}
use Rattle.pssm_model.specs.declared.elements.Vertex.{Vertex}
use Rattle.pssm_model.specs.declared.elements.VertexKind.{VertexKind}
use Rattle.pssm_model.specs.declared.elements.VertexKind.TheVariants as kinds
use Rattle.pssm_model.specs.declared.elements.Transition.{Transition}
use Rattle.pssm_model.specs.declared.elements.TransKind.{TransKind}
use Rattle.pssm_model.specs.declared.elements.Guard.{Guard}
use Rattle.pssm_model.specs.declared.elements.Guard.TheVariants.{Always, Otherwise, When}
use Rattle.pssm_model.specs.declared.elements.DraftMachine.{DraftMachine}
use Rattle.pssm_model.specs.declared.elements.Shape.{Shape}
use Rattle.pssm_model.specs.Shapes.{HasShape, IsShapeFault}
use Rattle.pssm_semantics.specs.declared.setting.SignalDecl.{SignalDecl}
use Rattle.pssm_semantics.specs.declared.setting.ObjectDecl.{ObjectDecl}
use Rattle.pssm_semantics.specs.declared.setting.Names.{Names}
use Rattle.pssm_semantics.specs.declared.setting.Class.{Class}
use Rattle.pssm_semantics.specs.declared.setting.Program.{Program}
use Rattle.pssm_semantics.specs.declared.setting.Setting.{Setting}
use Rattle.pssm_semantics.specs.declared.tree.Act.{Act}
use Rattle.pssm_semantics.specs.declared.tree.Cond.{Cond}
use Rattle.pssm_acts.specs.declared.act_fault.ActFault.{ActFault}
use Rattle.pssm_acts.specs.declared.act_fault.ActFault.TheVariants.{NoMemory}
use Rattle.pssm_acts.specs.ActText.{act_text, cond_text}
use Rattle.pssm_acts.specs.inner.ActReading.{act_reading}
use Rattle.pssm_acts.specs.inner.GuardReading.{cond_reading}
use Rattle.pssm_flat.specs.declared.action.ActionLine.{ActionLine}
use Rattle.pssm_flat.specs.declared.action.ActionLine.TheVariants as actions
use Rattle.pssm_flat.specs.declared.line.Line.{Line}
use Rattle.pssm_flat.specs.declared.line.Line.TheVariants as lines
use Rattle.pssm_flat.specs.declared.head.Head.{Head}
use Rattle.pssm_flat.specs.declared.block.Block.{Block}
use Rattle.pssm_flat.specs.declared.outline.Outline.{Outline}
use Rattle.pssm_flat.specs.declared.outline.Outline.TheVariants as stages
use Rattle.pssm_spelling.specs.SpellingReading.{stripped}
use Rattle.pssm_flat.specs.declared.fault.FlatFault.{FlatFault}
use Rattle.pssm_flat.specs.declared.fault.FlatFault.TheVariants as faults
use Rattle.pssm_flat.specs.inner.Places.{machine_size, fault_of}
use Rattle.pssm_flat.specs.Text.{text_of}
use Rattle.pssm_flat.specs.Flat.{next_number, first_program, is_inner}
use Rattle.pssm_flat.specs.inner.Lines.{◌>>=◌, line_taken}

-- ---- answers

-- the value, where it was taken further
abbrev pub kept : {X : Type 0} → Bool → X → Option X
kept taken x = if taken then Some x else None

-- the same where an action text may have a fault
abbrev pub kept_by : {X : Type 0} → Result Bool ActFault → X → Result (Option X) ActFault
kept_by (Ok taken) x = Ok (kept taken x)
kept_by (Err fault) x = Err fault

-- what is made of a value, where there is one
abbrev pub lifted : {X Y : Type 0} → (X → Y) → Result (Option X) ActFault → Result (Option Y) ActFault
lifted f (Ok x) = Ok (option_map f x)
lifted f (Err fault) = Err fault

-- the value, where there is one and no fault
abbrev pub taken : {X : Type 0} → Result (Option X) ActFault → Option X
taken (Ok x) = x
taken (Err fault) = None

-- ---- names

-- one of these has the name
abbrev pub has_name : {X : Type 0} → (X → List ℕ) → List X → List ℕ → Bool
has_name named xs name = list_any (λ x. bytes_eq (named x) name) xs

abbrev pub signal_of : SignalDecl → List ℕ
signal_of x = x.name

abbrev pub object_of : ObjectDecl → List ℕ
object_of x = x.name

abbrev pub itself : List ℕ → List ℕ
itself name = name

-- the names that behaviours may use where no variable has been read
abbrev pub names_in : Head → Names
names_in h = record { vars = []; objects = map object_of h.objects; signals = h.signals }

-- the first signal from a number on that has the name
abbrev pub number_from : List SignalDecl → ℕ → List ℕ → Option ℕ
number_from signals from name = option_map (λ k. k + from) (position (λ s. bytes_eq s.name name) (drop from signals))

-- one more signal behind the ones before
unfoldable pub with_signal : List SignalDecl → List SignalId → List ℕ → Option (List SignalId)
with_signal signals seen name = option_map (λ g. seen ++ record { 0 = g } ∷ []) (number_from signals (next_number seen) name)

-- ---- one more line of the head

abbrev pub no_head : Head
no_head = record { signals = []; classes = []; objects = [] }

unfoldable pub with_signal_line : Head → List ℕ → ℕ → Option Head
with_signal_line h name count =
    if length h.classes == 0 && length h.objects == 0 && nat_lt (length h.signals) 256 && not (has_name signal_of h.signals name)
    then Some (record h { signals = h.signals ++ record { name = name; count = count } ∷ [] })
    else None

unfoldable pub with_class_line : Head → List ℕ → Option Head
with_class_line h name =
    if length h.objects == 0 && nat_lt (length h.classes) 64 && not (has_name itself h.classes name) then Some (record h { classes = h.classes ++ name ∷ [] })
    else None

abbrev pub placed : Head → List ℕ → ℕ → Head
placed h name class = record h { objects = h.objects ++ record { name = name; class = class } ∷ [] }

unfoldable pub with_object_line : Head → List ℕ → List ℕ → Option Head
with_object_line h name class =
    if nat_lt (length h.objects) 64 && not (has_name object_of h.objects name) then option_map (placed h name) (position (λ c. bytes_eq c class) h.classes)
    else None

-- one more line before the first block
abbrev pub with_head_line : Head → Line → Option Head
with_head_line h (lines.Signal name count) = with_signal_line h name count
with_head_line h (lines.Class name) = with_class_line h name
with_head_line h (lines.Object name class) = with_object_line h name class
with_head_line h _ = None

-- ---- behaviours and guards

-- the program with one more behaviour, and the number of this one
abbrev pub Numbered : Type 0
Numbered = ActId × Program

abbrev pub act_put_in : Program → Act → List (List ℕ) → Numbered
act_put_in p act marks = (record { 0 = length p.acts }, record { acts = p.acts ++ act ∷ []; guards = p.guards; marks = marks })

-- what was read is numbered, where this is its one spelling and there are not too many marks
abbrev pub act_numbered : Names → Program → List ℕ → Act × List (List ℕ) → Option Numbered
act_numbered names p text read =
    if bytes_eq (act_text names read.1 read.0) text && nat_le (length read.1) 32768
    then Some (act_put_in p read.0 read.1)
    else None

abbrev pub act_or_fault : Names → Program → List ℕ → Result (Act × List (List ℕ)) ActFault → Result (Option Numbered) ActFault
act_or_fault names p text (Ok read) = Ok (act_numbered names p text read)
act_or_fault names p text (Err fault) = Err fault

-- one more behaviour, from a text that is not empty
unfoldable pub with_act : Names → Program → List ℕ → Result (Option Numbered) ActFault
with_act names p text = if nat_lt 0 (length text) && nat_lt (length p.acts) 32768 then act_or_fault names p text (act_reading names p.marks text) else Ok None

abbrev pub guard_numbered : Names → Program → List ℕ → Cond → Option (GuardId × Program)
guard_numbered names p text cond =
    if bytes_eq (cond_text names cond) text
    then Some (record { 0 = length p.guards }, record { acts = p.acts; guards = p.guards ++ cond ∷ []; marks = p.marks })
    else None

abbrev pub guard_or_fault : Names → Program → List ℕ → Result Cond ActFault → Result (Option (GuardId × Program)) ActFault
guard_or_fault names p text (Ok cond) = Ok (guard_numbered names p text cond)
guard_or_fault names p text (Err fault) = Err fault

-- one more guard
unfoldable pub with_guard : Names → Program → List ℕ → Result (Option (GuardId × Program)) ActFault
with_guard names p text = if nat_lt (length p.guards) 65536 then guard_or_fault names p text (cond_reading names text) else Ok None

-- ---- one more line of a block

-- a list without its last item, and that item
abbrev pub last_of : {X : Type 0} → List X → Option (List X × X)
last_of [] = None
last_of (x ∷ xs) = option_map_or (λ y. Some (x ∷ y.0, y.1)) (last_of xs) (Some ([], x))

abbrev pub empty_block : Head → List ℕ → Block
empty_block h name = record { name = name; names = names_in h; vars = []; regions = []; vertices = []; transitions = []; program = first_program }

abbrev pub machine_of : Block → DraftMachine
machine_of b = record { regions = b.regions; vertices = b.vertices; transitions = b.transitions }

abbrev pub class_of : Block → Class
class_of b = record { name = b.name; vars = b.vars; machine = machine_of b; program = b.program }

abbrev pub names_region_owner : Owner → Bool
names_region_owner (Region r) = false
names_region_owner _ = true

abbrev pub names_vertex_owner : Owner → Bool
names_vertex_owner Top = false
names_vertex_owner _ = true

abbrev pub is_state : VertexKind → Bool
is_state kinds.State = true
is_state _ = false

abbrev pub is_always : Guard → Bool
is_always Always = true
is_always _ = false

-- one more variable, before the first region
abbrev pub with_var_name : Names → List ℕ → Names
with_var_name names name = record { vars = names.vars ++ name ∷ []; objects = names.objects; signals = names.signals }

unfoldable pub with_var : Block → List ℕ → ℤ → Option Block
with_var b name first =
    if length b.regions == 0 && nat_lt (length b.vars) 64 && not (has_name itself b.names.vars name)
    then Some (record b { names = with_var_name b.names name; vars = b.vars ++ record { name = name; first = first } ∷ [] })
    else None

-- The line of this region may stand there.
abbrev pub takes_region : Block → ℕ → Owner → Bool
takes_region b number owner = length b.vertices == 0 && length b.transitions == 0 && number == length b.regions && names_region_owner owner

abbrev pub with_region : Block → ℕ → Owner → Option Block
with_region b number owner = if takes_region b number owner then Some (record b { regions = b.regions ++ owner ∷ [] }) else None

abbrev pub plain_vertex : Owner → VertexKind → List ℕ → Vertex
plain_vertex owner kind label = record { owner = owner; kind = kind; label = label; entry = record { 0 = 0 }; exit = record { 0 = 0 }; steps = []; defers = [] }

-- The line of this vertex may stand there.
abbrev pub takes_vertex : Block → ℕ → Owner → Bool
takes_vertex b number owner = nat_lt 0 (length b.regions) && length b.transitions == 0 && number == length b.vertices && names_vertex_owner owner

abbrev pub with_vertex : Block → ℕ → Owner → VertexKind → List ℕ → Option Block
with_vertex b number owner kind label =
    if takes_vertex b number owner
    then Some (record b { vertices = b.vertices ++ plain_vertex owner kind label ∷ [] })
    else None

-- the last vertex, where no transition has been read
abbrev pub last_vertex : Block → Option (List Vertex × Vertex)
last_vertex b = if length b.transitions == 0 then last_of b.vertices else None

-- A State takes a behaviour at its entry, at its exit or as a do step, in this order and before its deferred signals.
abbrev pub vertex_takes : ActionLine → Vertex → Bool
vertex_takes actions.Entry x = is_state x.kind && length x.defers == 0 && length x.steps == 0 && x.exit.0 == 0 && x.entry.0 == 0
vertex_takes actions.Exit x = is_state x.kind && length x.defers == 0 && length x.steps == 0 && x.exit.0 == 0
vertex_takes actions.Step x = is_state x.kind && length x.defers == 0 && nat_lt (length x.steps) 64
vertex_takes _ x = false

abbrev pub vertex_with : ActionLine → Vertex → ActId → Vertex
vertex_with actions.Entry x a = record x { entry = a }
vertex_with actions.Exit x a = record x { exit = a }
vertex_with actions.Step x a = record x { steps = x.steps ++ a ∷ [] }
vertex_with _ x a = x

-- the block with another vertex in place of the last, and a further program
abbrev pub with_last_vertex : Block → List Vertex → Vertex → Program → Block
with_last_vertex b others x p = record b { vertices = others ++ x ∷ []; program = p }

-- one more behaviour of the last vertex
abbrev pub behaving : Block → ActionLine → List ℕ → List Vertex × Vertex → Result (Option Block) ActFault
behaving b word text last =
    if vertex_takes word last.1
    then lifted (λ x. with_last_vertex b last.0 (vertex_with word last.1 x.0) x.1) (with_act b.names b.program text)
    else Ok None

abbrev pub behaving_last : Block → ActionLine → List ℕ → Option (List Vertex × Vertex) → Result (Option Block) ActFault
behaving_last b word text None = Ok None
behaving_last b word text (Some last) = behaving b word text last

unfoldable pub with_behaviour : Block → ActionLine → List ℕ → Result (Option Block) ActFault
with_behaviour b word text = behaving_last b word text (last_vertex b)

-- one more do step of the last vertex, an empty one
unfoldable pub with_empty_step : Block → Option Block
with_empty_step b = do
  last ← last_vertex b
  if vertex_takes actions.Step last.1 then Some (with_last_vertex b last.0 (vertex_with actions.Step last.1 (record { 0 = 0 })) b.program) else None

-- one more deferred signal of a State
unfoldable pub deferring : List SignalDecl → Vertex → List ℕ → Option Vertex
deferring signals x name =
    if is_state x.kind then option_map (λ defers. let y : Vertex = record x { defers = defers } in y) (with_signal signals x.defers name) else None

unfoldable pub with_defer : Block → List ℕ → Option Block
with_defer b name = do
  last ← last_vertex b
  vertex ← deferring b.names.signals last.1 name
  Some (with_last_vertex b last.0 vertex b.program)

abbrev pub plain_transition : VertexId → VertexId → TransKind → Transition
plain_transition source target kind = record { source = source; target = target; kind = kind; triggers = []; guard = Always; effect = record { 0 = 0 } }

-- The line of the transition with this number may stand there.
abbrev pub takes_transition : Block → ℕ → Bool
takes_transition b number = nat_lt 0 (length b.regions) && number == length b.transitions

abbrev pub with_transition : Block → ℕ → VertexId → VertexId → TransKind → Option Block
with_transition b number source target kind =
    if takes_transition b number
    then Some (record b { transitions = b.transitions ++ plain_transition source target kind ∷ [] })
    else None

abbrev pub with_last_transition : Block → List Transition → Transition → Program → Block
with_last_transition b others x p = record b { transitions = others ++ x ∷ []; program = p }

-- The transition has neither guard nor effect yet.
abbrev pub is_plain : Transition → Bool
is_plain x = is_always x.guard && x.effect.0 == 0

-- one more trigger of a transition, before its guard and effect
unfoldable pub triggered : List SignalDecl → Transition → List ℕ → Option Transition
triggered signals x name =
    if is_plain x then option_map (λ triggers. let y : Transition = record x { triggers = triggers } in y) (with_signal signals x.triggers name) else None

unfoldable pub with_trigger : Block → List ℕ → Option Block
with_trigger b name = do
  last ← last_of b.transitions
  transition ← triggered b.names.signals last.1 name
  Some (with_last_transition b last.0 transition b.program)

abbrev pub guarded : Transition → Guard → Transition
guarded x g = record x { guard = g }

-- `else` as the guard of a transition that has none yet
unfoldable pub with_else : Block → Option Block
with_else b = do
  last ← last_of b.transitions
  if is_plain last.1 then Some (with_last_transition b last.0 (guarded last.1 Otherwise) b.program) else None

-- a guard of the last transition, which has none yet
abbrev pub guarding : Block → List ℕ → List Transition × Transition → Result (Option Block) ActFault
guarding b text last =
    if is_plain last.1 then lifted (λ x. with_last_transition b last.0 (guarded last.1 (When x.0)) x.1) (with_guard b.names b.program text) else Ok None

abbrev pub guarding_last : Block → List ℕ → Option (List Transition × Transition) → Result (Option Block) ActFault
guarding_last b text None = Ok None
guarding_last b text (Some last) = guarding b text last

unfoldable pub with_condition : Block → List ℕ → Result (Option Block) ActFault
with_condition b text = guarding_last b text (last_of b.transitions)

abbrev pub affected : Transition → ActId → Transition
affected x a = record x { effect = a }

-- an effect of the last transition, which has none yet
abbrev pub affecting : Block → List ℕ → List Transition × Transition → Result (Option Block) ActFault
affecting b text last =
    if last.1.effect.0 == 0 then lifted (λ x. with_last_transition b last.0 (affected last.1 x.0) x.1) (with_act b.names b.program text) else Ok None

abbrev pub affecting_last : Block → List ℕ → Option (List Transition × Transition) → Result (Option Block) ActFault
affecting_last b text None = Ok None
affecting_last b text (Some last) = affecting b text last

unfoldable pub with_effect : Block → List ℕ → Result (Option Block) ActFault
with_effect b text = affecting_last b text (last_of b.transitions)

-- one more action text
abbrev pub with_action : Block → ActionLine → List ℕ → Result (Option Block) ActFault
with_action b actions.When text = with_condition b text
with_action b actions.Effect text = with_effect b text
with_action b word text = with_behaviour b word text

-- one more line of the block
abbrev pub with_line : Block → Line → Result (Option Block) ActFault
with_line b (lines.Var name first) = Ok (with_var b name first)
with_line b (lines.Region number owner) = Ok (with_region b number owner)
with_line b (lines.Vertex number owner kind label) = Ok (with_vertex b number owner kind label)
with_line b (lines.Defer signal) = Ok (with_defer b signal)
with_line b (lines.Transition number source target kind) = Ok (with_transition b number source target kind)
with_line b (lines.On signal) = Ok (with_trigger b signal)
with_line b (lines.Action word text) = with_action b word text
with_line b lines.EmptyStep = Ok (with_empty_step b)
with_line b lines.Otherwise = Ok (with_else b)
with_line b _ = Ok None

-- ---- one more line

-- the setting of a head and its classes
abbrev pub setting_of : Head → List Class → Setting
setting_of h classes = record { signals = h.signals; classes = classes; objects = h.objects }

-- The next class behind so many has the name.
abbrev pub is_next_class : Head → ℕ → List ℕ → Bool
is_next_class h count name = option_map_or (λ next. bytes_eq next name) (slice_get h.classes count) false

-- the first line of the next block
abbrev pub opened : Head → List Class → List ℕ → Option Outline
opened h done name = if is_next_class h (length done) name then Some (stages.Open h done (empty_block h name)) else None

-- the last line
abbrev pub ended : Head → List Class → Option Outline
ended h done = if length h.classes == length done then Some (stages.Ended (setting_of h done)) else None

-- the line behind the blocks of these classes
abbrev pub behind_blocks : Head → List Class → Line → Option Outline
behind_blocks h done (lines.Machine name) = opened h done name
behind_blocks h done lines.End = ended h done
behind_blocks h done _ = None

-- the line behind a block, which has at least one region
abbrev pub behind_block : Head → List Class → Block → Line → Option Outline
behind_block h done b l = if nat_lt 0 (length b.regions) then behind_blocks h (done ++ class_of b ∷ []) l else None

-- The line may stand behind so many blocks.
abbrev pub ends_block : Head → ℕ → Line → Bool
ends_block h count (lines.Machine name) = is_next_class h count name
ends_block h count lines.End = length h.classes == count
ends_block h count _ = false

abbrev pub after_head : Head → Line → Option Outline
after_head h (lines.Machine name) = opened h [] name
after_head h lines.End = ended h []
after_head h l = option_map stages.Heading (with_head_line h l)

abbrev pub after_block : Head → List Class → Block → Line → Result (Option Outline) ActFault
after_block h done b (lines.Machine name) = Ok (behind_block h done b (lines.Machine name))
after_block h done b lines.End = Ok (behind_block h done b lines.End)
after_block h done b l = lifted (stages.Open h done) (with_line b l)

abbrev pub after_start : Line → Option Outline
after_start lines.Header = Some (stages.Heading no_head)
after_start _ = None

abbrev pub after_line : Outline → Line → Result (Option Outline) ActFault
after_line stages.Start l = Ok (after_start l)
after_line (stages.Heading h) l = Ok (after_head h l)
after_line (stages.Open h done b) l = after_block h done b l
after_line (stages.Ended s) l = Ok None

abbrev pub line_or_none : Outline → Option Line → Result (Option Outline) ActFault
line_or_none d None = Ok None
line_or_none d (Some l) = after_line d l

-- what is read with the line of these bytes, where it may stand there
unfoldable pub after_bytes : Outline → List ℕ → Result (Option Outline) ActFault
after_bytes d bytes = if list_all is_inner bytes then line_or_none d (line_taken bytes) else Ok None

-- the same of several lines
abbrev pub after_lines : Outline → List (List ℕ) → Option Outline
after_lines d [] = Some d
after_lines d (l ∷ ls) = taken (after_bytes d l) >>= (λ e. after_lines e ls)

-- the classes whose blocks have been read to their ends
abbrev pub done_of : Outline → List Class
done_of stages.Start = []
done_of (stages.Heading h) = []
done_of (stages.Open h done b) = done
done_of (stages.Ended s) = s.classes

-- Each of their machines has the shape of one.
abbrev pub AreShaped : List Class → Type 0
AreShaped done = AllByRecursion (λ (x : Class). HasShape x.machine) done

abbrev pub IsShaped : Outline → Type 0
IsShaped d = AreShaped (done_of d)

-- ---- limits

pub record IsSmallHead (h : Head) : Type 0 where
  pub signals : length h.signals ≤ 256
  pub classes : length h.classes ≤ 64
  pub objects : length h.objects ≤ 64

pub record IsSmallBlock (b : Block) : Type 0 where
  pub vars : length b.names.vars ≤ 64
  pub objects : length b.names.objects ≤ 64
  pub signals : length b.names.signals ≤ 256
  pub acts : length b.program.acts ≤ 32768
  pub marks : length b.program.marks ≤ 32768

-- What has been read is within the limits.
abbrev pub IsSmall : Outline → Type 0
IsSmall stages.Start = Unit {0}
IsSmall (stages.Heading h) = IsSmallHead h
IsSmall (stages.Open h done b) = IsSmallHead h × IsSmallBlock b
IsSmall (stages.Ended s) = Unit {0}

-- the lines of the elements of an open block
abbrev pub open_size : Outline → ℕ
open_size (stages.Open h done b) = machine_size (machine_of b)
open_size _ = 0

-- ---- the bytes of lines

-- the bytes of a line without its line feed
abbrev pub IsInner : List ℕ → Type 0
IsInner text = list_all is_inner text ≡ true

-- the first line without its line feed, and the bytes behind it
unfoldable pub line_front : List ℕ → Option (List ℕ × List ℕ)
line_front bytes = do
  rest ← stripped (10 ∷ []) (drop (prefix_len is_inner bytes) bytes)
  Some (take (prefix_len is_inner bytes) bytes, rest)

-- whole lines have been read, up to the line with this number, and each machine that they have read to its end has its shape
pub record HasRead (bytes : List ℕ) (d : Outline) (rest : List ℕ) (number : ℕ) : Type 0 where
  pub lines : List (List ℕ)
  pub inner : AllByRecursion IsInner lines
  pub parts : bytes ≡ text_of lines ++ rest
  pub reads : after_lines stages.Start lines ≡ Some d
  pub counted : number ≡ suc (length lines)
  pub shaped : IsShaped d

-- ---- where reading stops

-- The machine has a fault of shape, which stands before the line behind its block; or memory ran out.
abbrev pub IsMisshapen : DraftMachine → ℕ → FlatFault → Type 0
IsMisshapen m behind f = (f ≡ faults.NoMemory) ⊎ ((shape : Shape) × IsShapeFault m shape × (f ≡ fault_of behind m shape))

-- what an outline answers for a line, as a fault of the line with this number
abbrev pub told_of : ℕ → Result (Option Outline) ActFault → Result Outline FlatFault
told_of number (Ok (Some d)) = Ok d
told_of number (Ok None) = Err (faults.BadLine number)
told_of number (Err NoMemory) = Err faults.NoMemory
told_of number (Err fault) = Err (faults.Act number fault)

-- The line ends the block of a machine that has this fault of shape.
pub record EndsMisshapen (d : Outline) (due : Result (Option Outline) ActFault) (number : ℕ) (fault : FlatFault) : Type 0 where
  pub head : Head
  pub done : List Class
  pub block : Block
  pub next : Outline
  pub open_is : d ≡ stages.Open head done block
  pub reads : due ≡ Ok (Some next)
  pub ends : done_of next ≡ done ++ class_of block ∷ []
  pub shape : Shape
  pub fault_is : IsShapeFault (machine_of block) shape
  pub told : fault ≡ fault_of number (machine_of block) shape

-- why no further line was read: it cannot stand there, or its action text or a machine that it ends has a fault, or memory ran out
abbrev pub IsNoNext : Outline → Result (Option Outline) ActFault → ℕ → FlatFault → Type 0
IsNoNext d due number (faults.BadLine n) = (n ≡ number) × (due ≡ Ok None)
IsNoNext d due number (faults.Act n fault) = (n ≡ number) × (due ≡ Err fault)
IsNoNext d due number (faults.Shape n shape) = EndsMisshapen d due number (faults.Shape n shape)
IsNoNext d due number faults.NoMemory = Unit {0}

-- why the line with this number is no further one, or no line
abbrev pub IsStuckAt : Outline → List ℕ → ℕ → FlatFault → Type 0
IsStuckAt d rest number fault =
    ((line_front rest ≡ None) × (fault ≡ faults.BadLine number))
    ⊎ ((text : List ℕ) × (after : List ℕ) × (line_front rest ≡ Some (text, after)) × IsNoNext d (after_bytes d text) number fault)

-- where reading stops before the end of a text, or behind it
pub record StopsAt (bytes : List ℕ) (fault : FlatFault) : Type 0 where
  pub outline : Outline
  pub rest : List ℕ
  pub number : ℕ
  pub read : HasRead bytes outline rest number
  pub unfinished : (s : Setting) → outline ≡ stages.Ended s → rest ≡ [] → ⊥
  pub stuck : IsStuckAt outline rest number fault
  pub known : fault ≡ faults.NoMemory → ⊥
