-- Why a text is no model, and on which line: the first line that cannot stand there, a machine without the shape of one, or an action text with a fault.
use Rattle.std.specs.Prelude.{◌≡◌, ℕ, suc, List, [], ◌∷◌, ◌++◌, ◌+◌, ◌<◌, length, take, slice_get, Some, codes}
use Rattle.std.specs.List.{flat_map}
use Rattle.pssm_model.specs.declared.elements.Element.{Element}
use Rattle.pssm_model.specs.declared.elements.Element.TheVariants as elements
use Rattle.pssm_model.specs.declared.elements.Shape.{Shape}
use Rattle.pssm_model.specs.Shapes.{HasShape, IsShapeFault, IsNamedBy}
use Rattle.pssm_semantics.specs.declared.setting.Names.{Names}
use Rattle.pssm_semantics.specs.declared.setting.Class.{Class}
use Rattle.pssm_semantics.specs.declared.setting.Setting.{Setting}
use Rattle.pssm_acts.specs.declared.act_fault.ActFault.{ActFault}
use Rattle.pssm_acts.specs.Grammar.{Either}
use Rattle.pssm_acts.specs.Shapes.{GuardShape, StmtsShape}
use Rattle.pssm_acts.specs.TextFaults.{TextFault}
use Rattle.pssm_flat.specs.declared.action.ActionLine.{ActionLine}
use Rattle.pssm_flat.specs.declared.action.ActionLine.TheVariants.{Entry, Exit, Step, When, Effect}
use Rattle.pssm_flat.specs.declared.fault.FlatFault.{FlatFault}
use Rattle.pssm_flat.specs.declared.fault.FlatFault.TheVariants as faults
use Rattle.pssm_flat.specs.Text.{line, text_of, numbered, vertex_lines, transition_lines, names_of, machine_lines, head_lines, flat_lines, flat_text}
use Rattle.pssm_flat.specs.Flat.{IsLineText, IsWritten}

-- The lines begin a text: those of some setting begin with them.
pub record BeginsText (lines : List (List ℕ)) : Type 0 where
  pub setting : Setting
  pub written : IsWritten setting
  pub more : List (List ℕ)
  pub parts : flat_lines setting ≡ lines ++ more

-- The lines begin with these.
abbrev pub StartsWith : List (List ℕ) → List (List ℕ) → Type 0
StartsWith lines front = (more : List (List ℕ)) × (lines ≡ front ++ more)

-- the lines of a setting up to those of the machine of this class
abbrev pub lines_before_class : Setting → ℕ → List (List ℕ)
lines_before_class s c = head_lines s ++ flat_map (machine_lines s) (take c s.classes)

-- the lines by which the machine of this class has been read: up to and with the one behind its block
abbrev pub lines_through : Setting → ℕ → List (List ℕ)
lines_through s c = take (suc (length (lines_before_class s (suc c)))) (flat_lines s)

-- Each machine that these lines have read to its end has the shape of one.
abbrev pub HaveShape : List (List ℕ) → Type 0
HaveShape before = (s : Setting) (c : ℕ) (x : Class) → IsWritten s → slice_get s.classes c ≡ Some x → StartsWith before (lines_through s c) → HasShape x.machine

-- The lines before the line of an element, in the block of its machine.
abbrev pub lines_in_block : Setting → Class → Element → ℕ
lines_in_block s x (elements.Region r) = suc (length x.vars) + length (take r.0 x.machine.regions)
lines_in_block s x (elements.Vertex v) =
    suc (length x.vars) + length x.machine.regions + length (numbered (vertex_lines (names_of s x) x) 0 (take v.0 x.machine.vertices))
lines_in_block s x (elements.Transition t) =
    suc (length x.vars) + length x.machine.regions + length (numbered (vertex_lines (names_of s x) x) 0 x.machine.vertices)
    + length (numbered (transition_lines (names_of s x) x) 0 (take t.0 x.machine.transitions))

-- the line, from 1, of an element of the machine of this class
abbrev pub line_of_element : Setting → ℕ → Class → Element → ℕ
line_of_element s c x e = suc (length (lines_before_class s c) + lines_in_block s x e)

-- ---- action texts

-- the word before the text, with its blank
abbrev pub action_word : ActionLine → List ℕ
action_word Entry = codes "entry "
action_word Exit = codes "exit "
action_word Step = codes "step "
action_word When = codes "if "
action_word Effect = codes "effect "

-- The text of a guard or behaviour has this first fault.
abbrev pub HasActFault : ActionLine → Names → List ℕ → ActFault → Type 0
HasActFault When names text fault = TextFault (GuardShape Either) names text fault
HasActFault word names text fault = TextFault StmtsShape names text fault

-- Behind these lines a line has an action text with this first fault, and with a right text in its place it could stand there, in the block of a class.
pub record IsActFault (before : List (List ℕ)) (text : List ℕ) (fault : ActFault) : Type 0 where
  pub word : ActionLine
  pub action : List ℕ
  pub parts : text ≡ action_word word ++ action
  pub line_text : IsLineText action
  pub setting : Setting
  pub written : IsWritten setting
  pub place : ℕ
  pub class : Class
  pub class_is : slice_get setting.classes place ≡ Some class
  pub inner : List (List ℕ)
  pub before_is : before ≡ lines_before_class setting place ++ inner
  pub right : List ℕ
  pub more : List (List ℕ)
  pub block : machine_lines setting class ≡ inner ++ (action_word word ++ right) ∷ more
  pub fault_is : HasActFault word (names_of setting class) action fault

-- ---- the faults

-- The line with this number is the first that cannot stand there.
pub record IsBadLine (bytes : List ℕ) (number : ℕ) : Type 0 where
  pub before : List (List ℕ)
  pub behind : List ℕ
  pub parts : bytes ≡ text_of before ++ behind
  pub counted : number ≡ suc (length before)
  -- The lines before it begin a text.
  pub begins : BeginsText before
  pub shaped : HaveShape before
  -- They are not all of a text.
  pub unfinished : (s : Setting) → IsWritten s → bytes ≡ flat_text s → ⊥
  -- With the line that follows, where there is one with its line feed, they begin none.
  pub stuck : (text after : List ℕ) → behind ≡ line text ++ after → BeginsText (before ++ text ∷ []) → ⊥
  -- Nor is it the action text alone that is at fault.
  pub no_act : (text after : List ℕ) (fault : ActFault) → behind ≡ line text ++ after → IsActFault before text fault → ⊥

-- The action text of the line with this number has this first fault.
pub record IsBadAct (bytes : List ℕ) (number : ℕ) (fault : ActFault) : Type 0 where
  pub before : List (List ℕ)
  pub text : List ℕ
  pub after : List ℕ
  pub parts : bytes ≡ text_of before ++ (line text ++ after)
  pub counted : number ≡ suc (length before)
  pub shaped : HaveShape before
  pub fault_is : IsActFault before text fault

-- A machine that was read to its end lacks the shape of one, and the element that the fault names stands on this line.
pub record IsBadShape (bytes : List ℕ) (number : ℕ) (shape : Shape) : Type 0 where
  pub setting : Setting
  pub written : IsWritten setting
  pub place : ℕ
  pub class : Class
  pub class_is : slice_get setting.classes place ≡ Some class
  -- The machines before it have the shape of one.
  pub earlier : (c : ℕ) (x : Class) → c < place → slice_get setting.classes c ≡ Some x → HasShape x.machine
  pub behind : List ℕ
  pub parts : bytes ≡ text_of (lines_through setting place) ++ behind
  pub fault : IsShapeFault class.machine shape
  pub element : Element
  pub named : IsNamedBy shape element
  pub line_is : number ≡ line_of_element setting place class element

-- the fault of a text that is no model
abbrev pub IsFlatFault : List ℕ → FlatFault → Type 0
IsFlatFault bytes (faults.BadLine number) = IsBadLine bytes number
IsFlatFault bytes (faults.Shape number shape) = IsBadShape bytes number shape
IsFlatFault bytes (faults.Act number fault) = IsBadAct bytes number fault
IsFlatFault bytes faults.NoMemory = ⊥
