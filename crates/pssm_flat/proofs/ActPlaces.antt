-- A line with a faulty action text, where a right one could stand.
use Rattle.std.proofs.Common.{◌≡◌, ℕ, ◌<◌, ◌≤◌, Bool, true, false, cond, eqb, ltb, ◌&&◌, List, [], ◌∷◌, ◌++◌, length, Option, Some, None, Result, Ok, Err, refl, ap, subst, arith}
use Rattle.std.proofs.lemmas.Bool.{and_parts, ltb-true, lt-ltb}
use Rattle.pssm_model.specs.declared.elements.Vertex.{Vertex}
use Rattle.pssm_model.specs.declared.elements.Transition.{Transition}
use Rattle.pssm_model.specs.declared.elements.Guard.TheVariants.{When}
use Rattle.pssm_model.specs.declared.ids.GuardId.{GuardId}
use Rattle.pssm_semantics.specs.declared.setting.Names.{Names}
use Rattle.pssm_semantics.specs.declared.setting.Program.{Program}
use Rattle.pssm_semantics.specs.declared.setting.Class.{Class}
use Rattle.pssm_acts.specs.declared.act_fault.ActFault.{ActFault}
use Rattle.pssm_acts.specs.inner.ActReading.{act_reading}
use Rattle.pssm_acts.specs.inner.GuardReading.{cond_reading}
use Rattle.pssm_flat.specs.declared.action.ActionLine.{ActionLine}
use Rattle.pssm_flat.specs.declared.action.ActionLine.TheVariants as actions
use Rattle.pssm_flat.specs.declared.line.Line.{Line}
use Rattle.pssm_flat.specs.declared.line.Line.TheVariants as lines
use Rattle.pssm_flat.specs.declared.head.Head.{Head}
use Rattle.pssm_flat.specs.declared.block.Block.{Block}
use Rattle.pssm_flat.specs.declared.outline.Outline.{Outline}
use Rattle.pssm_flat.specs.declared.outline.Outline.TheVariants as stages
use Rattle.pssm_flat.specs.Faults.{action_word}
use Rattle.pssm_flat.specs.inner.Lines.{line_text, line_taken}
use Rattle.pssm_flat.specs.Flat.{IsLineText}
use Rattle.pssm_flat.specs.inner.Outlines.{IsInner, lifted, last_of, last_vertex, vertex_takes, vertex_with, with_last_vertex, behaving_last, with_behaviour, is_plain, guarded, with_last_transition, guarding_last, with_condition, affected, affecting_last, with_effect, with_action, with_line, Numbered, with_act, act_or_fault, with_guard, guard_or_fault, after_block, after_line, line_or_none, after_bytes}
use Rattle.pssm_acts.proofs.ActRead.{act_read}
use Rattle.pssm_flat.proofs.RightTexts.{right_text, right_taken, right_cond, right_guard}
use Rattle.pssm_flat.proofs.LineForms.{IsGoodLine, line_takes}
use Rattle.pssm_flat.proofs.Reach.{read_inner}
use Rattle.pssm_flat.proofs.NumberLaws.{spells_nothing, met, met_fault, lifted_takes, lifted_fault, act_fault, guard_fault}

-- ---- the fault of a line

-- how the text of such a line is read
abbrev pub reads_fault : Block → ActionLine → List ℕ → ActFault → Type 0
reads_fault b actions.When text fault = cond_reading b.names text ≡ Err fault
reads_fault b word text fault = act_reading b.names b.program.marks text ≡ Err fault

-- A line that is refused for its text has its fault.
behaviour_fault : (b : Block) (word : ActionLine) (text : List ℕ) (fault : ActFault) → with_behaviour b word text ≡ Err fault → act_reading b.names b.program.marks text ≡ Err fault
unfolding with_behaviour
behaviour_fault b word text fault e = by_last (last_vertex b) e where
  by_last : (o : Option (List Vertex × Vertex)) → behaving_last b word text o ≡ Err fault → act_reading b.names b.program.marks text ≡ Err fault
  by_last None e = absurd cc
  by_last (Some last) e =
      let put : Numbered → Block = λ x. with_last_vertex b last.0 (vertex_with word last.1 x.0) x.1 in
      let found = met_fault (vertex_takes word last.1) (lifted put (with_act b.names b.program text)) fault e in
      act_fault b.names b.program text fault (lifted_fault put (with_act b.names b.program text) fault found.1)

condition_fault : (b : Block) (text : List ℕ) (fault : ActFault) → with_condition b text ≡ Err fault → cond_reading b.names text ≡ Err fault
unfolding with_condition
condition_fault b text fault e = by_last (last_of b.transitions) e where
  by_last : (o : Option (List Transition × Transition)) → guarding_last b text o ≡ Err fault → cond_reading b.names text ≡ Err fault
  by_last None e = absurd cc
  by_last (Some last) e =
      let put : GuardId × Program → Block = λ x. with_last_transition b last.0 (guarded last.1 (When x.0)) x.1 in
      let found = met_fault (is_plain last.1) (lifted put (with_guard b.names b.program text)) fault e in
      guard_fault b.names b.program text fault (lifted_fault put (with_guard b.names b.program text) fault found.1)

effect_fault : (b : Block) (text : List ℕ) (fault : ActFault) → with_effect b text ≡ Err fault → act_reading b.names b.program.marks text ≡ Err fault
unfolding with_effect
effect_fault b text fault e = by_last (last_of b.transitions) e where
  by_last : (o : Option (List Transition × Transition)) → affecting_last b text o ≡ Err fault → act_reading b.names b.program.marks text ≡ Err fault
  by_last None e = absurd cc
  by_last (Some last) e =
      let put : Numbered → Block = λ x. with_last_transition b last.0 (affected last.1 x.0) x.1 in
      let found = met_fault (eqb last.1.effect.0 0) (lifted put (with_act b.names b.program text)) fault e in
      act_fault b.names b.program text fault (lifted_fault put (with_act b.names b.program text) fault found.1)

pub action_fault : (b : Block) (word : ActionLine) (text : List ℕ) (fault : ActFault) → with_action b word text ≡ Err fault → reads_fault b word text fault
action_fault b actions.Entry text fault e = behaviour_fault b actions.Entry text fault e
action_fault b actions.Exit text fault e = behaviour_fault b actions.Exit text fault e
action_fault b actions.Step text fault e = behaviour_fault b actions.Step text fault e
action_fault b actions.When text fault e = condition_fault b text fault e
action_fault b actions.Effect text fault e = effect_fault b text fault e

-- ---- another text in its place

-- a text that is refused where another one is taken
some_act : (names : Names) (p : Program) (right text : List ℕ) (fault : ActFault) (y : Numbered) → with_act names p right ≡ Ok (Some y) → 0 < length text → act_reading names p.marks text ≡ Err fault → with_act names p text ≡ Err fault
unfolding with_act
some_act names p right text fault y taken some e =
    let found = met (ltb 0 (length right) && ltb (length p.acts) 32768) (act_or_fault names p right (act_reading names p.marks right)) y taken in
    let tests = and_parts (ltb 0 (length right)) (ltb (length p.acts) 32768) found.0 in
    rw (lt-ltb 0 (length text) some, tests.1, e) refl

some_guard : (names : Names) (p : Program) (right text : List ℕ) (fault : ActFault) (y : GuardId × Program) → with_guard names p right ≡ Ok (Some y) → cond_reading names text ≡ Err fault → with_guard names p text ≡ Err fault
unfolding with_guard
some_guard names p right text fault y taken e =
    let found = met (ltb (length p.guards) 65536) (guard_or_fault names p right (cond_reading names right)) y taken in
    rw (found.0, e) refl

behaviour_instead : (b e : Block) (word : ActionLine) (right text : List ℕ) (fault : ActFault) → with_behaviour b word right ≡ Ok (Some e) → 0 < length text → act_reading b.names b.program.marks text ≡ Err fault → with_behaviour b word text ≡ Err fault
unfolding with_behaviour
behaviour_instead b e word right text fault taken some is = by_last (last_vertex b) taken where
  by_last : (o : Option (List Vertex × Vertex)) → behaving_last b word right o ≡ Ok (Some e) → behaving_last b word text o ≡ Err fault
  by_last None taken = absurd cc
  by_last (Some last) taken =
      let put : Numbered → Block = λ x. with_last_vertex b last.0 (vertex_with word last.1 x.0) x.1 in
      let found = met (vertex_takes word last.1) (lifted put (with_act b.names b.program right)) e taken in
      let y = lifted_takes put (with_act b.names b.program right) e found.1 in
      rw (found.0, some_act b.names b.program right text fault y.0 y.1 some is) refl

condition_instead : (b e : Block) (right text : List ℕ) (fault : ActFault) → with_condition b right ≡ Ok (Some e) → cond_reading b.names text ≡ Err fault → with_condition b text ≡ Err fault
unfolding with_condition
condition_instead b e right text fault taken is = by_last (last_of b.transitions) taken where
  by_last : (o : Option (List Transition × Transition)) → guarding_last b right o ≡ Ok (Some e) → guarding_last b text o ≡ Err fault
  by_last None taken = absurd cc
  by_last (Some last) taken =
      let put : GuardId × Program → Block = λ x. with_last_transition b last.0 (guarded last.1 (When x.0)) x.1 in
      let found = met (is_plain last.1) (lifted put (with_guard b.names b.program right)) e taken in
      let y = lifted_takes put (with_guard b.names b.program right) e found.1 in
      rw (found.0, some_guard b.names b.program right text fault y.0 y.1 is) refl

effect_instead : (b e : Block) (right text : List ℕ) (fault : ActFault) → with_effect b right ≡ Ok (Some e) → 0 < length text → act_reading b.names b.program.marks text ≡ Err fault → with_effect b text ≡ Err fault
unfolding with_effect
effect_instead b e right text fault taken some is = by_last (last_of b.transitions) taken where
  by_last : (o : Option (List Transition × Transition)) → affecting_last b right o ≡ Ok (Some e) → affecting_last b text o ≡ Err fault
  by_last None taken = absurd cc
  by_last (Some last) taken =
      let put : Numbered → Block = λ x. with_last_transition b last.0 (affected last.1 x.0) x.1 in
      let found = met (eqb last.1.effect.0 0) (lifted put (with_act b.names b.program right)) e taken in
      let y = lifted_takes put (with_act b.names b.program right) e found.1 in
      rw (found.0, some_act b.names b.program right text fault y.0 y.1 some is) refl

-- an empty text spells the empty behaviour, and has no fault
some_of_fault : (names : Names) (marks : List (List ℕ)) (text : List ℕ) (fault : ActFault) → act_reading names marks text ≡ Err fault → 0 < length text
some_of_fault names marks [] fault e = absurd (let read = act_read names marks [] (record { stmts = [] }) marks (spells_nothing names marks) in cc)
some_of_fault names marks (c ∷ text) fault e = omega arith

pub action_instead : (b e : Block) (word : ActionLine) (right text : List ℕ) (fault : ActFault) → with_action b word right ≡ Ok (Some e) → reads_fault b word text fault → with_action b word text ≡ Err fault
action_instead b e actions.Entry right text fault taken is = behaviour_instead b e actions.Entry right text fault taken (some_of_fault b.names b.program.marks text fault is) is
action_instead b e actions.Exit right text fault taken is = behaviour_instead b e actions.Exit right text fault taken (some_of_fault b.names b.program.marks text fault is) is
action_instead b e actions.Step right text fault taken is = behaviour_instead b e actions.Step right text fault taken (some_of_fault b.names b.program.marks text fault is) is
action_instead b e actions.When right text fault taken is = condition_instead b e right text fault taken is
action_instead b e actions.Effect right text fault taken is = effect_instead b e right text fault taken (some_of_fault b.names b.program.marks text fault is) is

-- ---- a right text

abbrev pub right_of : ActionLine → List ℕ
right_of actions.When = right_cond
right_of word = right_text

room_act : (names : Names) (p : Program) (text : List ℕ) (fault : ActFault) → with_act names p text ≡ Err fault → length p.acts < 32768
unfolding with_act
room_act names p text fault e =
    let found = met_fault (ltb 0 (length text) && ltb (length p.acts) 32768) (act_or_fault names p text (act_reading names p.marks text)) fault e in
    ltb-true (length p.acts) 32768 (and_parts (ltb 0 (length text)) (ltb (length p.acts) 32768) found.0).1

room_guard : (names : Names) (p : Program) (text : List ℕ) (fault : ActFault) → with_guard names p text ≡ Err fault → length p.guards < 65536
unfolding with_guard
room_guard names p text fault e =
    let found = met_fault (ltb (length p.guards) 65536) (guard_or_fault names p text (cond_reading names text)) fault e in ltb-true (length p.guards) 65536 found.0

cond_met : (t : Bool) (r : Result (Option Block) ActFault) (y : Block) → t ≡ true → r ≡ Ok (Some y) → cond t r (Ok None) ≡ Ok (Some y)
cond_met true r y is e = e
cond_met false r y is e = absurd cc

behaviour_right : (b : Block) (word : ActionLine) (text : List ℕ) (fault : ActFault) → length b.program.marks ≤ 32768 → with_behaviour b word text ≡ Err fault → (e : Block) × (with_behaviour b word right_text ≡ Ok (Some e))
unfolding with_behaviour
behaviour_right b word text fault few e = by_last (last_vertex b) e where
  by_last : (o : Option (List Vertex × Vertex)) → behaving_last b word text o ≡ Err fault → (e : Block) × (behaving_last b word right_text o ≡ Ok (Some e))
  by_last None e = absurd cc
  by_last (Some last) e =
      let put : Numbered → Block = λ x. with_last_vertex b last.0 (vertex_with word last.1 x.0) x.1 in
      let found = met_fault (vertex_takes word last.1) (lifted put (with_act b.names b.program text)) fault e in
      let r = right_taken b.names b.program (room_act b.names b.program text fault (lifted_fault put (with_act b.names b.program text) fault found.1)) few in
      (put r.0, cond_met (vertex_takes word last.1) (lifted put (with_act b.names b.program right_text)) (put r.0) found.0 (ap (lifted put) r.1))

condition_right : (b : Block) (text : List ℕ) (fault : ActFault) → with_condition b text ≡ Err fault → (e : Block) × (with_condition b right_cond ≡ Ok (Some e))
unfolding with_condition
condition_right b text fault e = by_last (last_of b.transitions) e where
  by_last : (o : Option (List Transition × Transition)) → guarding_last b text o ≡ Err fault → (e : Block) × (guarding_last b right_cond o ≡ Ok (Some e))
  by_last None e = absurd cc
  by_last (Some last) e =
      let put : GuardId × Program → Block = λ x. with_last_transition b last.0 (guarded last.1 (When x.0)) x.1 in
      let found = met_fault (is_plain last.1) (lifted put (with_guard b.names b.program text)) fault e in
      let r = right_guard b.names b.program (room_guard b.names b.program text fault (lifted_fault put (with_guard b.names b.program text) fault found.1)) in
      (put r.0, cond_met (is_plain last.1) (lifted put (with_guard b.names b.program right_cond)) (put r.0) found.0 (ap (lifted put) r.1))

effect_right : (b : Block) (text : List ℕ) (fault : ActFault) → length b.program.marks ≤ 32768 → with_effect b text ≡ Err fault → (e : Block) × (with_effect b right_text ≡ Ok (Some e))
unfolding with_effect
effect_right b text fault few e = by_last (last_of b.transitions) e where
  by_last : (o : Option (List Transition × Transition)) → affecting_last b text o ≡ Err fault → (e : Block) × (affecting_last b right_text o ≡ Ok (Some e))
  by_last None e = absurd cc
  by_last (Some last) e =
      let put : Numbered → Block = λ x. with_last_transition b last.0 (affected last.1 x.0) x.1 in
      let found = met_fault (eqb last.1.effect.0 0) (lifted put (with_act b.names b.program text)) fault e in
      let r = right_taken b.names b.program (room_act b.names b.program text fault (lifted_fault put (with_act b.names b.program text) fault found.1)) few in
      (put r.0, cond_met (eqb last.1.effect.0 0) (lifted put (with_act b.names b.program right_text)) (put r.0) found.0 (ap (lifted put) r.1))

pub action_right : (b : Block) (word : ActionLine) (text : List ℕ) (fault : ActFault) → length b.program.marks ≤ 32768 → with_action b word text ≡ Err fault → (e : Block) × (with_action b word (right_of word) ≡ Ok (Some e))
action_right b actions.Entry text fault few e = behaviour_right b actions.Entry text fault few e
action_right b actions.Exit text fault few e = behaviour_right b actions.Exit text fault few e
action_right b actions.Step text fault few e = behaviour_right b actions.Step text fault few e
action_right b actions.When text fault few e = condition_right b text fault e
action_right b actions.Effect text fault few e = effect_right b text fault few e

-- No action stands before an element.
pub no_action : (b : Block) (word : ActionLine) (text : List ℕ) → b.vertices ≡ [] → b.transitions ≡ [] → with_action b word text ≡ Ok None
unfolding with_behaviour with_condition with_effect
no_action b actions.Entry text p q = rw (q, p) refl
no_action b actions.Exit text p q = rw (q, p) refl
no_action b actions.Step text p q = rw (q, p) refl
no_action b actions.When text p q = rw q refl
no_action b actions.Effect text p q = rw q refl

-- ---- the line

-- A line that is refused for its text has one, in an open block.
pub record FaultyLine (d : Outline) (text : List ℕ) (fault : ActFault) : Type 0 where
  pub head : Head
  pub done : List Class
  pub block : Block
  pub word : ActionLine
  pub action : List ℕ
  pub open_is : d ≡ stages.Open head done block
  pub text_is : text ≡ action_word word ++ action
  pub line_text : IsLineText action
  pub refused_is : with_action block word action ≡ Err fault

line_of_fault : (b : Block) (l : Line) (fault : ActFault) → with_line b l ≡ Err fault → (word : ActionLine) × (action : List ℕ) × (l ≡ lines.Action word action) × (with_action b word action ≡ Err fault)
line_of_fault b (lines.Action word action) fault e = (word, action, refl, e)
line_of_fault b (lines.Var name first) fault e = absurd cc
line_of_fault b (lines.Region number owner) fault e = absurd cc
line_of_fault b (lines.Vertex number owner kind label) fault e = absurd cc
line_of_fault b (lines.Defer signal) fault e = absurd cc
line_of_fault b (lines.Transition number source target kind) fault e = absurd cc
line_of_fault b (lines.On signal) fault e = absurd cc
line_of_fault b lines.EmptyStep fault e = absurd cc
line_of_fault b lines.Otherwise fault e = absurd cc
line_of_fault b _ fault e = absurd cc

open_fault : (h : Head) (done : List Class) (b : Block) (l : Line) (fault : ActFault) → after_block h done b l ≡ Err fault → with_line b l ≡ Err fault
open_fault h done b (lines.Machine name) fault e = absurd cc
open_fault h done b lines.End fault e = absurd cc
open_fault h done b (lines.Action word action) fault e = lifted_fault (stages.Open h done) (with_action b word action) fault e
open_fault h done b (lines.Var name first) fault e = absurd (let r = lifted_fault (stages.Open h done) (with_line b (lines.Var name first)) fault e in cc)
open_fault h done b (lines.Region number owner) fault e = absurd (let r = lifted_fault (stages.Open h done) (with_line b (lines.Region number owner)) fault e in cc)
open_fault h done b (lines.Vertex number owner kind label) fault e = absurd (let r = lifted_fault (stages.Open h done) (with_line b (lines.Vertex number owner kind label)) fault e in cc)
open_fault h done b (lines.Defer signal) fault e = absurd (let r = lifted_fault (stages.Open h done) (with_line b (lines.Defer signal)) fault e in cc)
open_fault h done b (lines.Transition number source target kind) fault e = absurd (let r = lifted_fault (stages.Open h done) (with_line b (lines.Transition number source target kind)) fault e in cc)
open_fault h done b (lines.On signal) fault e = absurd (let r = lifted_fault (stages.Open h done) (with_line b (lines.On signal)) fault e in cc)
open_fault h done b lines.EmptyStep fault e = absurd (let r = lifted_fault (stages.Open h done) (with_line b lines.EmptyStep) fault e in cc)
open_fault h done b lines.Otherwise fault e = absurd (let r = lifted_fault (stages.Open h done) (with_line b lines.Otherwise) fault e in cc)
open_fault h done b _ fault e = absurd cc

pub faulty_line : (d : Outline) (text : List ℕ) (fault : ActFault) → after_bytes d text ≡ Err fault → FaultyLine d text fault
faulty_line d text fault e = let r = read_inner d text (Err fault) e (λ none. absurd cc) in by_line (line_taken text) refl r.0 r.1 where
  by_stage : (d' : Outline) → d ≡ d' → (l : Line) → (text ≡ line_text l) × IsGoodLine l → after_line d' l ≡ Err fault → FaultyLine d text fault
  by_stage stages.Start same l is e = absurd cc
  by_stage (stages.Heading h) same l is e = absurd cc
  by_stage (stages.Open h done b) same l is e =
      let f = line_of_fault b l fault (open_fault h done b l fault e) in
      let here = subst (λ (x : Line). (text ≡ line_text x) × IsGoodLine x) f.2 is in
      record { head = h; done = done; block = b; word = f.0; action = f.1; open_is = same; text_is = here.0; line_text = here.1; refused_is = f.3 }
  by_stage (stages.Ended s) same l is e = absurd cc

  by_line : (o : Option Line) → line_taken text ≡ o → IsInner text → line_or_none d o ≡ Err fault → FaultyLine d text fault
  by_line None at inner e = absurd cc
  by_line (Some l) at inner e = by_stage d refl l (line_takes text l inner at) e
