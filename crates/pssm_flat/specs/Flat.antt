-- The settings that have a flat text.
use Rattle.std.specs.Prelude.{◌≡◌, ◌≢◌, ◌⊎◌, ◌<◌, ◌≤◌, ◌+◌, ◌-◌, ◌^◌, ℕ, ℤ, pos, negsuc, List, [], ◌∷◌, ◌++◌, ◌&&◌, ◌==◌, Bool, length, map, nat_le, not, IsTrue, slice_get}
use Rattle.std.specs.List.{AllByRecursion, list_all}
use Rattle.std.specs.Option.{option_map_or}
use Rattle.std.specs.Str.{IsUtf8}
use Rattle.pssm_model.specs.declared.ids.ActId.{ActId}
use Rattle.pssm_model.specs.declared.ids.SignalId.{SignalId}
use Rattle.pssm_model.specs.declared.elements.DraftMachine.{DraftMachine}
use Rattle.pssm_model.specs.declared.elements.Vertex.{Vertex}
use Rattle.pssm_model.specs.declared.elements.VertexKind.TheVariants as kinds
use Rattle.pssm_model.specs.declared.elements.Transition.{Transition}
use Rattle.pssm_model.specs.declared.elements.Guard.{Guard}
use Rattle.pssm_model.specs.declared.elements.Guard.TheVariants.{Always, Otherwise, When}
use Rattle.pssm_model.specs.declared.elements.Owner.{Owner}
use Rattle.pssm_model.specs.declared.elements.Owner.TheVariants.{Top, Region, State}
use Rattle.pssm_model.specs.Shapes.{HasShape}
use Rattle.pssm_semantics.specs.declared.setting.SignalDecl.{SignalDecl}
use Rattle.pssm_semantics.specs.declared.setting.VarDecl.{VarDecl}
use Rattle.pssm_semantics.specs.declared.setting.ObjectDecl.{ObjectDecl}
use Rattle.pssm_semantics.specs.declared.setting.Names.{Names}
use Rattle.pssm_semantics.specs.declared.setting.Program.{Program}
use Rattle.pssm_semantics.specs.declared.setting.Class.{Class}
use Rattle.pssm_semantics.specs.declared.setting.Setting.{Setting}
use Rattle.pssm_semantics.specs.declared.tree.Act.{Act}
use Rattle.pssm_semantics.specs.declared.tree.Cond.{Cond}
use Rattle.pssm_spelling.specs.Spelling.{IsName}
use Rattle.pssm_acts.specs.ActText.{act_text, cond_text}
use Rattle.pssm_acts.specs.ActGrammar.{SpellsAct}
use Rattle.pssm_acts.specs.Grammar.{SpellsCond}
use Rattle.pssm_flat.specs.Text.{names_of}

-- ---- lists in the order of their lines

-- each fits behind those before it
abbrev pub AllBehind : {X : Type 0} → (List X → X → Type 0) → List X → List X → Type 0
AllBehind Fits before [] = Unit {0}
AllBehind Fits before (x ∷ xs) = Fits before x × AllBehind Fits (before ++ x ∷ []) xs

-- from what stands before the first to what stands behind the last, each leads to the next
abbrev pub Leads : {S X : Type 0} → (S → X → S → Type 0) → S → List X → S → Type 0
Leads Step before [] behind = before ≡ behind
Leads Step before (x ∷ xs) behind = (next : _) × Step before x next × Leads Step next xs behind

-- ---- names and numbers

-- a name that none of those before it is
pub record IsNewName (before : List (List ℕ)) (name : List ℕ) : Type 0 where
  pub name_is : IsName name
  pub new : AllByRecursion (λ (other : List ℕ). other ≢ name) before

-- names, no two of them alike
abbrev pub AreNames : List (List ℕ) → Type 0
AreNames names = AllBehind IsNewName [] names

-- the least number that is above the last of these
abbrev pub next_number : List SignalId → ℕ
next_number before = option_map_or (λ g. g.0 + 1) (slice_get before (length before - 1)) 0

-- one of so many signals, with a number above those before it
pub record IsNextSignal (signal_count : ℕ) (before : List SignalId) (g : SignalId) : Type 0 where
  pub above : next_number before ≤ g.0
  pub known : g.0 < signal_count

-- signals in strictly ascending number
abbrev pub AreAscending : ℕ → List SignalId → Type 0
AreAscending signal_count signals = AllBehind (IsNextSignal signal_count) [] signals

-- a number of 64 bits with a sign
abbrev pub IsInteger : ℤ → Type 0
IsInteger (pos n) = n < 2 ^ 63
IsInteger (negsuc n) = n < 2 ^ 63

-- no line feed
abbrev pub is_inner : ℕ → Bool
is_inner b = not (b == 10)

-- what can stand behind the word of a line: UTF-8 without a line feed
pub record IsLineText (text : List ℕ) : Type 0 where
  pub utf8 : IsUtf8 text
  pub inner : IsTrue (list_all is_inner text)

-- ---- vertices and transitions

-- no part of a control character: neither U+0000 to U+001F nor U+007F, which UTF-8 spells as themselves
abbrev pub is_label_byte : ℕ → Bool
is_label_byte b = nat_le 32 b && not (b == 127)

-- a label, or none where it is empty: UTF-8 without control characters (this profile's choice)
pub record IsLabel (bytes : List ℕ) : Type 0 where
  pub text : IsUtf8 bytes
  pub no_control : IsTrue (list_all is_label_byte bytes)

-- A line of a region names the machine or a vertex as its owner, with a number up to 65,535 (this profile's choice).
abbrev pub IsRegionOwner : Owner → Type 0
IsRegionOwner Top = Unit {0}
IsRegionOwner (Region r) = ⊥
IsRegionOwner (State v) = v.0 < 65536

-- A line of a vertex names a region or a vertex as its owner, with a number up to 65,535 (this profile's choice).
abbrev pub IsVertexOwner : Owner → Type 0
IsVertexOwner Top = ⊥
IsVertexOwner (Region r) = r.0 < 65536
IsVertexOwner (State v) = v.0 < 65536

-- no behaviour at entry and exit, no do step and no deferred signal
pub record IsPassive (x : Vertex) : Type 0 where
  pub entry : x.entry.0 ≡ 0
  pub exit : x.exit.0 ≡ 0
  pub steps : x.steps ≡ []
  pub defers : x.defers ≡ []

-- a vertex that lines can hold; only a State behaves and defers signals (UML 2.5.1 14.2.3.4, States), with at most 64 do steps (this profile's choice)
pub record IsWrittenVertex (signal_count : ℕ) (x : Vertex) : Type 0 where
  pub owner : IsVertexOwner x.owner
  pub label : IsLabel x.label
  pub as_state : (x.kind ≡ kinds.State) ⊎ IsPassive x
  pub few_steps : length x.steps ≤ 64
  pub defers : AreAscending signal_count x.defers

-- a transition that lines can hold: its ends have numbers up to 65,535 (this profile's choice)
pub record IsWrittenTransition (signal_count : ℕ) (x : Transition) : Type 0 where
  pub source : x.source.0 < 65536
  pub target : x.target.0 < 65536
  pub triggers : AreAscending signal_count x.triggers

-- a machine whose elements the lines of a block can hold, of any shape: at least one region, at most 65,536 elements of a kind (this profile's choice)
pub record IsWrittenMachine (signal_count : ℕ) (m : DraftMachine) : Type 0 where
  pub some_region : 0 < length m.regions
  pub few_regions : length m.regions ≤ 65536
  pub few_vertices : length m.vertices ≤ 65536
  pub few_transitions : length m.transitions ≤ 65536
  pub regions : AllByRecursion IsRegionOwner m.regions
  pub vertices : AllByRecursion (IsWrittenVertex signal_count) m.vertices
  pub transitions : AllByRecursion (IsWrittenTransition signal_count) m.transitions

-- ---- the numbers of behaviours, guards and marks

-- The behaviour of a line has the next number and some statement, and is what its spelling spells: a mark that none before it names has the next mark number.
-- At most 32,768 behaviours and as many marks have numbers (this profile's choice).
pub record IsNextAct (names : Names) (before : Program) (a : ActId) (behind : Program) : Type 0 where
  pub act : Act
  pub marks : List (List ℕ)
  pub some : act.stmts ≢ []
  pub spelled : SpellsAct names before.marks (act_text names marks act) act marks
  pub line : IsLineText (act_text names marks act)
  pub number : a.0 ≡ length before.acts
  pub behind_is : behind ≡ record { acts = before.acts ++ act ∷ []; guards = before.guards; marks = marks }
  pub few_acts : length before.acts < 32768
  pub few_marks : length marks ≤ 32768

-- The empty behaviour is number 0 and no line tells of it.
abbrev pub LeadsAct : Names → Program → ActId → Program → Type 0
LeadsAct names before a behind = ((a.0 ≡ 0) × (before ≡ behind)) ⊎ IsNextAct names before a behind

-- The guard of a line has the next number, and is what its spelling spells.
pub record IsNextGuard (names : Names) (before : Program) (number : ℕ) (behind : Program) : Type 0 where
  pub cond : Cond
  pub spelled : SpellsCond names (cond_text names cond) cond
  pub line : IsLineText (cond_text names cond)
  pub number_is : number ≡ length before.guards
  pub behind_is : behind ≡ record { acts = before.acts; guards = before.guards ++ cond ∷ []; marks = before.marks }
  pub few : length before.guards < 65536

abbrev pub LeadsGuard : Names → Program → Guard → Program → Type 0
LeadsGuard names before Always behind = before ≡ behind
LeadsGuard names before Otherwise behind = before ≡ behind
LeadsGuard names before (When g) behind = IsNextGuard names before g.0 behind

-- the behaviours of a vertex in the order entry, exit, do steps
pub record LeadsVertex (names : Names) (before : Program) (x : Vertex) (behind : Program) : Type 0 where
  pub entered : Program
  pub left : Program
  pub entry : LeadsAct names before x.entry entered
  pub exit : LeadsAct names entered x.exit left
  pub steps : Leads (LeadsAct names) left x.steps behind

-- the guard and the effect of a transition
pub record LeadsTransition (names : Names) (before : Program) (x : Transition) (behind : Program) : Type 0 where
  pub guarded : Program
  pub guard : LeadsGuard names before x.guard guarded
  pub effect : LeadsAct names guarded x.effect behind

-- a program of the empty behaviour alone
abbrev pub first_program : Program
first_program = record { acts = record { stmts = [] } ∷ []; guards = []; marks = [] }

-- The program numbers the behaviours, guards and marks of the machine in the order of their lines, vertices before transitions.
pub record IsNumbered (names : Names) (m : DraftMachine) (program : Program) : Type 0 where
  pub middle : Program
  pub vertices : Leads (LeadsVertex names) first_program m.vertices middle
  pub transitions : Leads (LeadsTransition names) middle m.transitions program

-- ---- classes and settings

-- a class that a block can hold, of any shape of its machine, whose behaviours may use these names
pub record IsWrittenClass (names : Names) (x : Class) : Type 0 where
  pub var_names : AreNames (map (λ (v : VarDecl). v.name) x.vars)
  pub few_vars : length x.vars ≤ 64
  pub firsts : AllByRecursion (λ (v : VarDecl). IsInteger v.first) x.vars
  pub machine : IsWrittenMachine (length names.signals) x.machine
  pub numbered : IsNumbered names x.machine x.program

-- a setting that a model's text can hold, of any shape of its machines
pub record IsWritten (s : Setting) : Type 0 where
  pub signal_names : AreNames (map (λ (g : SignalDecl). g.name) s.signals)
  pub few_signals : length s.signals ≤ 256
  pub counts : AllByRecursion (λ (g : SignalDecl). g.count ≤ 8) s.signals
  pub class_names : AreNames (map (λ (x : Class). x.name) s.classes)
  pub few_classes : length s.classes ≤ 64
  pub object_names : AreNames (map (λ (o : ObjectDecl). o.name) s.objects)
  pub few_objects : length s.objects ≤ 64
  pub placed : AllByRecursion (λ (o : ObjectDecl). o.class < length s.classes) s.objects
  pub classes : AllByRecursion (λ (x : Class). IsWrittenClass (names_of s x) x) s.classes

-- a setting that is read: each of its machines has the shape of one
pub record IsFlat (s : Setting) : Type 0 where
  pub written : IsWritten s
  pub shape : AllByRecursion (λ (x : Class). HasShape x.machine) s.classes
