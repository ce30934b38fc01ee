-- The flat form: the one text of a setting, line by line (this profile's choice).
-- A line is given without its line feed. A number that names nothing has no behaviour, no guard and the empty name.
use Rattle.std.specs.Prelude.{ℕ, suc, Bool, true, false, List, [], ◌∷◌, ◌++◌, map, codes, slice_get, if◌then◌else◌}
use Rattle.std.specs.Option.{option_map_or}
use Rattle.std.specs.List.{flat_map}
use Rattle.std.specs.Fmt.{decimal, signed_decimal}
use Rattle.pssm_model.specs.declared.ids.ActId.{ActId}
use Rattle.pssm_model.specs.declared.ids.SignalId.{SignalId}
use Rattle.pssm_model.specs.declared.elements.Vertex.{Vertex}
use Rattle.pssm_model.specs.declared.elements.VertexKind.{VertexKind}
use Rattle.pssm_model.specs.declared.elements.VertexKind.TheVariants as kinds
use Rattle.pssm_model.specs.declared.elements.Transition.{Transition}
use Rattle.pssm_model.specs.declared.elements.TransKind.{TransKind}
use Rattle.pssm_model.specs.declared.elements.TransKind.TheVariants.{External, Local, Internal}
use Rattle.pssm_model.specs.declared.elements.Guard.{Guard}
use Rattle.pssm_model.specs.declared.elements.Guard.TheVariants.{Always, Otherwise, When}
use Rattle.pssm_model.specs.declared.elements.Owner.{Owner}
use Rattle.pssm_model.specs.declared.elements.Owner.TheVariants.{Top, Region, State}
use Rattle.pssm_semantics.specs.declared.setting.SignalDecl.{SignalDecl}
use Rattle.pssm_semantics.specs.declared.setting.VarDecl.{VarDecl}
use Rattle.pssm_semantics.specs.declared.setting.ObjectDecl.{ObjectDecl}
use Rattle.pssm_semantics.specs.declared.setting.Names.{Names}
use Rattle.pssm_semantics.specs.declared.setting.Class.{Class}
use Rattle.pssm_semantics.specs.declared.setting.Setting.{Setting}
use Rattle.pssm_semantics.specs.declared.tree.Act.{Act}
use Rattle.pssm_semantics.specs.declared.tree.Stmt.{Stmt}
use Rattle.pssm_acts.specs.ActText.{act_text, cond_text}

-- a line with its line feed
abbrev pub line : List ℕ → List ℕ
line text = text ++ 10 ∷ []

-- lines, each with its line feed
abbrev pub text_of : List (List ℕ) → List ℕ
text_of lines = flat_map line lines

-- the lines of the items, each with its number, from this number on
abbrev pub numbered : {X : Type 0} → (ℕ → X → List (List ℕ)) → ℕ → List X → List (List ℕ)
numbered lines n [] = []
numbered lines n (x ∷ xs) = lines n x ++ numbered lines (suc n) xs

-- ---- words and names

-- the word of an owner, of a kind of vertex, and of a kind of transition
abbrev pub owner_word : Owner → List ℕ
owner_word Top = codes "top"
owner_word (Region r) = codes "r" ++ decimal r.0
owner_word (State v) = codes "v" ++ decimal v.0

abbrev pub kind_word : VertexKind → List ℕ
kind_word kinds.State = codes "state"
kind_word kinds.Final = codes "final"
kind_word kinds.Initial = codes "initial"
kind_word kinds.DeepHistory = codes "deepHistory"
kind_word kinds.ShallowHistory = codes "shallowHistory"
kind_word kinds.Join = codes "join"
kind_word kinds.Fork = codes "fork"
kind_word kinds.Junction = codes "junction"
kind_word kinds.Choice = codes "choice"
kind_word kinds.EntryPoint = codes "entryPoint"
kind_word kinds.ExitPoint = codes "exitPoint"
kind_word kinds.Terminate = codes "terminate"

abbrev pub transition_word : TransKind → List ℕ
transition_word External = codes "external"
transition_word Local = codes "local"
transition_word Internal = codes "internal"

-- a label stands behind one blank, and an empty one is left out
abbrev pub label_text : List ℕ → List ℕ
label_text [] = []
label_text (b ∷ bs) = 32 ∷ b ∷ bs

-- the names of a signal and of a class, by number
abbrev pub signal_name : List SignalDecl → SignalId → List ℕ
signal_name signals g = option_map_or (λ x. x.name) (slice_get signals g.0) []

abbrev pub class_name : List Class → ℕ → List ℕ
class_name classes n = option_map_or (λ x. x.name) (slice_get classes n) []

-- the names of a setting's objects and signals beside these of variables
abbrev pub names_beside : Setting → List (List ℕ) → Names
names_beside s vars = record { vars = vars; objects = map (λ (o : ObjectDecl). o.name) s.objects; signals = s.signals }

-- the names that the behaviours of a class may use
abbrev pub names_of : Setting → Class → Names
names_of s x = names_beside s (map (λ (v : VarDecl). v.name) x.vars)

-- ---- the lines at the head

-- `signal NAME COUNT`
abbrev pub signal_line : SignalDecl → List ℕ
signal_line x = codes "signal " ++ (x.name ++ (codes " " ++ decimal x.count))

-- `class NAME`
abbrev pub class_line : Class → List ℕ
class_line x = codes "class " ++ x.name

-- `object NAME CLASS`
abbrev pub object_line : List Class → ObjectDecl → List ℕ
object_line classes x = codes "object " ++ (x.name ++ (codes " " ++ class_name classes x.class))

-- ---- the lines of a machine

-- `machine NAME`, with the name of its class
abbrev pub machine_line : Class → List ℕ
machine_line x = codes "machine " ++ x.name

-- `var NAME INT`
abbrev pub var_line : VarDecl → List ℕ
var_line x = codes "var " ++ (x.name ++ (codes " " ++ signed_decimal x.first))

-- `region rI OWNER`
abbrev pub region_line : ℕ → Owner → List ℕ
region_line n owner = codes "region r" ++ (decimal n ++ (codes " " ++ owner_word owner))

abbrev pub region_lines : ℕ → Owner → List (List ℕ)
region_lines n owner = region_line n owner ∷ []

-- `vertex vI OWNER KIND`, or `vertex vI OWNER KIND LABEL`
abbrev pub vertex_line : ℕ → Vertex → List ℕ
vertex_line n x = codes "vertex v" ++ (decimal n ++ (codes " " ++ (owner_word x.owner ++ (codes " " ++ (kind_word x.kind ++ label_text x.label)))))

-- `defer NAME`
abbrev pub defer_line : List SignalDecl → SignalId → List ℕ
defer_line signals g = codes "defer " ++ signal_name signals g

-- `transition tI vS vT KIND`
abbrev pub transition_line : ℕ → Transition → List ℕ
transition_line n x = codes "transition t" ++ (decimal n ++ (codes " v" ++ (decimal x.source.0 ++ (codes " v" ++ (decimal x.target.0 ++ (codes " " ++ transition_word x.kind))))))

-- `on NAME`
abbrev pub on_line : List SignalDecl → SignalId → List ℕ
on_line signals g = codes "on " ++ signal_name signals g

-- a behaviour without statements
abbrev pub is_empty_act : List Stmt → Bool
is_empty_act [] = true
is_empty_act (stmt ∷ rest) = false

-- `entry ACT`, `exit ACT` or `effect ACT`; an empty behaviour has no line
abbrev pub act_lines : List ℕ → Names → List (List ℕ) → Act → List (List ℕ)
act_lines word names marks act = if is_empty_act act.stmts then [] else (word ++ (codes " " ++ act_text names marks act)) ∷ []

-- the line of the behaviour with a number
abbrev pub behaviour_lines : List ℕ → Names → Class → ActId → List (List ℕ)
behaviour_lines word names x act = option_map_or (act_lines word names x.program.marks) (slice_get x.program.acts act.0) []

-- `step ACT`, or `step` for an empty one
abbrev pub act_step : Names → List (List ℕ) → Act → List ℕ
act_step names marks act = if is_empty_act act.stmts then codes "step" else codes "step " ++ act_text names marks act

abbrev pub step_line : Names → Class → ActId → List ℕ
step_line names x act = option_map_or (act_step names x.program.marks) (slice_get x.program.acts act.0) (codes "step")

-- `if COND` or `else`
abbrev pub guard_lines : Names → Class → Guard → List (List ℕ)
guard_lines names x Always = []
guard_lines names x Otherwise = codes "else" ∷ []
guard_lines names x (When g) = option_map_or (λ c. (codes "if " ++ cond_text names c) ∷ []) (slice_get x.program.guards g.0) []

-- a vertex: its line, those of its behaviours, and a line for each deferred signal
abbrev pub vertex_lines : Names → Class → ℕ → Vertex → List (List ℕ)
vertex_lines names x n v =
    vertex_line n v ∷ (behaviour_lines (codes "entry") names x v.entry ++ (behaviour_lines (codes "exit") names x v.exit ++ (map (step_line names x) v.steps ++ map (defer_line names.signals) v.defers)))

-- a transition: its line, a line for each trigger, its guard and its effect
abbrev pub transition_lines : Names → Class → ℕ → Transition → List (List ℕ)
transition_lines names x n t =
    transition_line n t ∷ (map (on_line names.signals) t.triggers ++ (guard_lines names x t.guard ++ behaviour_lines (codes "effect") names x t.effect))

-- the machine of a class whose behaviours use these names: its variables, and its regions, vertices and transitions, each
-- counted from 0
abbrev pub block_lines : Names → Class → List (List ℕ)
block_lines names x =
    machine_line x
    ∷ (map var_line x.vars
    ++ (numbered region_lines 0 x.machine.regions ++ (numbered (vertex_lines names x) 0 x.machine.vertices ++ numbered (transition_lines names x) 0 x.machine.transitions)))

abbrev pub machine_lines : Setting → Class → List (List ℕ)
machine_lines s x = block_lines (names_of s x) x

-- ---- the whole text

-- the header, the signals, the classes and the objects
abbrev pub head_lines : Setting → List (List ℕ)
head_lines s = codes "pssm-flat 1" ∷ (map signal_line s.signals ++ (map class_line s.classes ++ map (object_line s.classes) s.objects))

-- the head, a machine for each class, and the end
unfoldable pub flat_lines : Setting → List (List ℕ)
flat_lines s = head_lines s ++ (flat_map (machine_lines s) s.classes ++ codes "end" ∷ [])

-- the bytes of these lines
unfoldable pub flat_text : Setting → List ℕ
flat_text s = text_of (flat_lines s)
