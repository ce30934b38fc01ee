-- How the text of behaviours is read token after token: what each does to what is left, to the marks and to the `!` that wait.
use Rattle.std.proofs.Common.{◌≡◌, ◌≤◌, ◌+◌, ◌-◌, ◌⊎◌, inl, inr, ℕ, Bool, true, false, ltb, List, [], ◌∷◌, ◌++◌, length, take, drop, Option, Some, None, Ok, Err, Result, refl, sym, ap, ◌∙◌, subst, arith, length-append, position, bytes_eq}
use Rattle.std.specs.Prelude.{IsErrAnd}
use Rattle.std.proofs.Math.Nat.{min-le_right}
use Rattle.std.proofs.Math.Seq.{take-length}
use Rattle.std.proofs.lemmas.List.{take-append-le, take-append-drop, length-take}
use Rattle.pssm_semantics.specs.declared.setting.Names.{Names}
use Rattle.pssm_acts.specs.declared.act_fault.ActFault.{ActFault}
use Rattle.pssm_acts.specs.declared.act_fault.ActFault.TheVariants.{Syntax, UnknownName, WideNumber, Arity, TooLong, NoMemory}
use Rattle.pssm_acts.specs.declared.acts_reader.ActsReader.{ActsReader}
use Rattle.pssm_acts.specs.declared.read_blocks.Blocks.{Blocks}
use Rattle.pssm_acts.specs.declared.read_blocks.OpenIf.{OpenIf}
use Rattle.pssm_acts.specs.declared.acts_reader.Turn.{Turn}
use Rattle.pssm_acts.specs.declared.acts_reader.Turn.TheVariants.{Begins, Within, Condition, Chosen, Else}
use Rattle.pssm_acts.specs.declared.acts_reader.Turn.TheVariants as turns
use Rattle.pssm_acts.specs.declared.guard_reader.GuardReader.{GuardReader}
use Rattle.pssm_acts.specs.declared.phrase_reader.Phrase.{Phrase}
use Rattle.pssm_acts.specs.declared.phrase_reader.Phrase.TheVariants.{Variable, Value, Receiver, Dotted, Named, Called, Whole}
use Rattle.pssm_acts.specs.declared.phrase_reader.Phrase.TheVariants as phrases
use Rattle.pssm_acts.specs.declared.phrase_reader.Phrased.{Phrased}
use Rattle.pssm_acts.specs.declared.phrase_reader.Phrased.TheVariants.{Goes, Ends}
use Rattle.pssm_acts.specs.declared.phrase_reader.Call.TheVariants as calls
use Rattle.pssm_acts.specs.declared.token.Kind.{Kind}
use Rattle.pssm_acts.specs.declared.token.Kind.TheVariants as kinds
use Rattle.pssm_semantics.specs.declared.tree.Cond.{Cond}
use Rattle.pssm_semantics.specs.declared.tree.Stmt.{Stmt}
use Rattle.pssm_acts.specs.declared.tokens.Tokens.{Tokens}
use Rattle.pssm_acts.specs.inner.TextLeft.{IsShort, left}
use Rattle.pssm_acts.specs.Tokens.{Token, tokens_of}
use Rattle.pssm_acts.specs.inner.ExprReading.{Answers, and_then}
use Rattle.pssm_acts.specs.inner.GuardReading.{fresh_guard, guard_step, guard_value, nots_waiting}
use Rattle.pssm_acts.specs.Marks.{KeepsMarks, with_mark, grown, mark_of}
use Rattle.pssm_acts.specs.inner.PhraseReading.{AnswersWith, beside, mark_read, phrase_begun, phrase_step}
use Rattle.pssm_acts.specs.inner.ActReading.{ActsState, acts_read, acts_step, acts_steps_in, acts_worth, after_choice, at_turn, begun_at, block_closed, block_closed_in, block_opened, condition_read, else_opened, fresh_acts, fresh_blocks, if_closed, next_act, next_act_in, phrase_read, phrased, statement_counted, step_taken, text_acts, turn_nots, with_act, without_else}
use Rattle.pssm_acts.proofs.AnswerLaws.{read, never_read, read_same, passed, room_for}
use Rattle.pssm_acts.proofs.NotsLaws.{nots_more}
use Rattle.pssm_acts.proofs.CutLaws.{left_few}
use Rattle.pssm_acts.proofs.Readers.{taken}

abbrev token_as : ℕ → Kind → List ℕ → Token
token_as at kind word = record { at = at; kind = kind; word = word }

-- ---- the marks behind a step

-- The marks are the same, or one was noted behind them.
abbrev pub AreNoted : List (List ℕ) → List (List ℕ) → Type 0
AreNoted marks more = (more ≡ marks) ⊎ ((name : List ℕ) × (more ≡ marks ++ name ∷ []))

pub beside_ok : {A M : Type 0} (marks : M) (r : Result A ActFault) (a : A) (m : M) → beside marks r ≡ Ok (a, m) → (r ≡ Ok a) × (m ≡ marks)
beside_ok {A} {M} marks (Ok x) a m is =
    let was : A × M = (x, marks) in
    let now : A × M = (a, m) in
    let same = read_same was now is in
    (ap (λ y. Ok y.0) same, sym (ap (λ y. y.1) same))
beside_ok {A} {M} marks (Err fault) a m is = absurd (never_read _ _ is)

beside_noted : {A : Type 0} (marks : List (List ℕ)) (r : Result A ActFault) (a : A) (m : List (List ℕ)) → beside marks r ≡ Ok (a, m) → AreNoted marks m
beside_noted marks r a m is = inl ((beside_ok marks r a m is).1)

grown_noted : (place : Option ℕ) (marks : List (List ℕ)) (name : List ℕ) → AreNoted marks (grown place marks name)
grown_noted (Some k) marks name = inl refl
grown_noted None marks name = inr (name, refl)

mark_noted : (marks : List (List ℕ)) (p : Phrased) (m : List (List ℕ)) (kind : Kind) (at : ℕ) (word : List ℕ) → mark_read marks (token_as at kind word) ≡ Ok (p, m) → AreNoted marks m
unfolding mark_read
mark_noted marks p m kinds.Name at word is =
    let was : Phrased × List (List ℕ) = (Goes (Named (calls.Mark (mark_of marks word))), with_mark marks word) in
    let now : Phrased × List (List ℕ) = (p, m) in
    let same = read_same was now is in
    subst (λ x. AreNoted marks x) (ap (λ y. y.1) same) (grown_noted (position (λ k. bytes_eq k word) marks) marks word)
mark_noted marks p m kind at word is = absurd (never_read _ _ is)

phrase_noted : (names : Names) (room : ℕ) (marks : List (List ℕ)) (phrase : Phrase) (t : Token) (p : Phrased) (m : List (List ℕ)) → phrase_step names room marks phrase t ≡ Ok (p, m) → AreNoted marks m
unfolding phrase_step
phrase_noted names room marks (Variable x) t p m is = beside_noted marks _ p m is
phrase_noted names room marks (Value x reader) t p m is = beside_noted marks _ p m is
phrase_noted names room marks phrases.Send t p m is = beside_noted marks _ p m is
phrase_noted names room marks (Receiver to) t p m is = beside_noted marks _ p m is
phrase_noted names room marks (Dotted to) t p m is = beside_noted marks _ p m is
phrase_noted names room marks phrases.Mark t p m is = mark_noted marks p m t.kind t.at t.word is
phrase_noted names room marks (Named call) t p m is = beside_noted marks _ p m is
phrase_noted names room marks (Called call args) t p m is = beside_noted marks _ p m is
phrase_noted names room marks (Whole s) t p m is = beside_noted marks _ p m is

-- what a token makes of a phrase, taken apart
pub record IsPhrased (names : Names) (marks : List (List ℕ)) (blocks : Blocks) (phrase : Phrase) (t : Token) (n : ActsReader) (m : List (List ℕ)) : Type 0 where
  pub made : Phrased
  pub step : phrase_step names (16 - length blocks.outer) marks phrase t ≡ Ok (made, m)
  pub reader : phrased blocks made ≡ n

pub phrase_apart : (names : Names) (marks : List (List ℕ)) (blocks : Blocks) (phrase : Phrase) (t : Token) (n : ActsReader) (m : List (List ℕ)) → phrase_read names marks blocks phrase t ≡ Ok (n, m) → IsPhrased names marks blocks phrase t n m
unfolding phrase_read
phrase_apart names marks blocks phrase t n m is =
    let it = passed (phrase_step names (16 - length blocks.outer) marks phrase t) (λ next. Ok (phrased blocks next.0, next.1)) (n, m) is in
    let same = read_same {A = ActsState} (phrased blocks it.0.0, it.0.1) (n, m) it.2 in
    record { made = it.0.0; step = subst (λ x. phrase_step names (16 - length blocks.outer) marks phrase t ≡ Ok (it.0.0, x)) (ap (λ y. y.1) same) it.1; reader = ap (λ y. y.0) same }

step_noted : (names : Names) (stepped : Bool) (marks : List (List ℕ)) (turn : Turn) (blocks : Blocks) (t : Token) (n : ActsReader) (m : List (List ℕ)) → acts_step names stepped marks (at_turn blocks turn) t ≡ Ok (n, m) → AreNoted marks m
unfolding acts_step
step_noted names stepped marks Begins blocks t n m is = beside_noted marks _ n m is
step_noted names stepped marks (Within phrase) blocks t n m is =
    let parts = phrase_apart names marks blocks phrase t n m is in phrase_noted names (16 - length blocks.outer) marks phrase t parts.made m parts.step
step_noted names stepped marks (Condition guard) blocks t n m is = beside_noted marks _ n m is
step_noted names stepped marks (Chosen c body) blocks t n m is = beside_noted marks _ n m is
step_noted names stepped marks (Else c body) blocks t n m is = beside_noted marks _ n m is
step_noted names stepped marks turns.Step blocks t n m is = beside_noted marks _ n m is

-- ---- the `!` behind a step

-- A reader that has been read as one where no `!` waits.
no_nots : (m n : ActsReader) → turn_nots m.turn ≡ 0 → read m ≡ read n → turn_nots n.turn ≡ 0
no_nots m n none step = subst (λ x. turn_nots x.turn ≡ 0) (read_same m n step) none

if_nots : (body : Option (List Stmt)) (under : Blocks) (c : Cond) (block : List Stmt) (n : ActsReader) → if_closed body under c block ≡ n → turn_nots n.turn ≡ 0
if_nots None under c block n e = subst (λ x. turn_nots x.turn ≡ 0) e refl
if_nots (Some body) under c block n e = subst (λ x. turn_nots x.turn ≡ 0) e refl

closed_nots : (outer : List OpenIf) (blocks : Blocks) (at : ℕ) (n : ActsReader) → block_closed_in outer blocks at ≡ Ok n → turn_nots n.turn ≡ 0
closed_nots [] blocks at n is = absurd (never_read _ _ is)
closed_nots (first ∷ outer) blocks at n is = if_nots first.body (record { earlier = blocks.earlier; outer = outer; stmts = first.before; begun = blocks.begun }) first.condition blocks.stmts n cc

opened_nots : (blocks : Blocks) (c : Cond) (body : Option (List Stmt)) (at : ℕ) (n : ActsReader) → block_opened blocks c body at ≡ Ok n → turn_nots n.turn ≡ 0
unfolding block_opened
opened_nots blocks c body at n is =
    let inner : Blocks = record { earlier = blocks.earlier; outer = record { before = blocks.stmts; condition = c; body = body } ∷ blocks.outer; stmts = []; begun = blocks.begun } in
    let it = room_for (ltb (length blocks.outer) 16) (Ok (at_turn inner Begins)) (TooLong at) n is in
    no_nots (at_turn inner Begins) n refl it.1

next_nots : (stepped : Bool) (outer : List OpenIf) (blocks : Blocks) (at : ℕ) (n : ActsReader) → next_act_in stepped outer blocks at ≡ Ok n → turn_nots n.turn ≡ 0
next_nots true [] blocks at n is =
    let after : ActsReader = at_turn (fresh_blocks (with_act blocks.earlier blocks.stmts)) turns.Step in
    let it = room_for (ltb (length blocks.earlier + 1) 64) (Ok after) (TooLong at) n is in
    no_nots after n refl it.1
next_nots true (first ∷ outer) blocks at n is = absurd (never_read _ _ is)
next_nots false outer blocks at n is = absurd (never_read _ _ is)

counted_nots : (blocks : Blocks) (turn : Turn) (at : ℕ) (n : ActsReader) → turn_nots turn ≡ 0 → and_then (statement_counted blocks at) (λ more. Ok (at_turn more turn)) ≡ Ok n → turn_nots n.turn ≡ 0
counted_nots blocks turn at n none is = let it = passed (statement_counted blocks at) (λ more. Ok (at_turn more turn)) n is in no_nots (at_turn it.0 turn) n none it.2

begun_nots : (names : Names) (stepped : Bool) (blocks : Blocks) (n : ActsReader) (kind : Kind) (at : ℕ) (word : List ℕ) → begun_at names stepped blocks (token_as at kind word) ≡ Ok n → turn_nots n.turn ≡ 0
unfolding begun_at block_closed next_act
begun_nots names stepped blocks n kinds.CloseBrace at word is = closed_nots blocks.outer blocks at n is
begun_nots names stepped blocks n kinds.Step at word is = next_nots stepped blocks.outer blocks at n is
begun_nots names stepped blocks n kinds.If at word is = counted_nots blocks (Condition fresh_guard) at n refl is
begun_nots names stepped blocks n kind at word is =
    let it = passed (phrase_begun names (token_as at kind word)) (λ phrase. and_then (statement_counted blocks at) (λ more. Ok (at_turn more (Within phrase)))) n is in
    counted_nots blocks (Within it.0) at n refl it.2

chosen_nots : (names : Names) (stepped : Bool) (blocks : Blocks) (c : Cond) (body : List Stmt) (n : ActsReader) (kind : Kind) (at : ℕ) (word : List ℕ) → after_choice names stepped blocks c body (token_as at kind word) ≡ Ok n → turn_nots n.turn ≡ 0
unfolding after_choice
chosen_nots names stepped blocks c body n kinds.Else at word is = no_nots (at_turn blocks (Else c body)) n refl is
chosen_nots names stepped blocks c body n kind at word is = begun_nots names stepped (without_else blocks c body) n kind at word is

else_nots : (blocks : Blocks) (c : Cond) (body : List Stmt) (n : ActsReader) (kind : Kind) (at : ℕ) (word : List ℕ) → else_opened blocks c body (token_as at kind word) ≡ Ok n → turn_nots n.turn ≡ 0
unfolding else_opened
else_nots blocks c body n kinds.OpenBrace at word is = opened_nots blocks c (Some body) at n is
else_nots blocks c body n kind at word is = absurd (never_read _ _ is)

condition_nots : (names : Names) (blocks : Blocks) (guard : GuardReader) (n : ActsReader) (kind : Kind) (at : ℕ) (word : List ℕ) → condition_read names blocks guard (token_as at kind word) ≡ Ok n → turn_nots n.turn ≤ nots_waiting guard + 1
unfolding condition_read
condition_nots names blocks guard n kinds.OpenBrace at word is =
    let it = passed (guard_value guard at) (λ c. block_opened blocks c None at) n is in
    let none = opened_nots blocks it.0 None at n it.2 in omega (arith, none)
condition_nots names blocks guard n kind at word is =
    let it = passed (guard_step names (16 - length blocks.outer) guard (token_as at kind word)) (λ more. Ok (at_turn blocks (Condition more))) n is in
    subst (λ x. turn_nots x.turn ≤ nots_waiting guard + 1) (read_same (at_turn blocks (Condition it.0)) n it.2) (nots_more names (16 - length blocks.outer) guard it.0 (token_as at kind word) it.1)

taken_nots : (blocks : Blocks) (n : ActsReader) (kind : Kind) (at : ℕ) (word : List ℕ) → step_taken blocks (token_as at kind word) ≡ Ok n → turn_nots n.turn ≡ 0
unfolding step_taken
taken_nots blocks n kinds.Semicolon at word is = no_nots (at_turn blocks Begins) n refl is
taken_nots blocks n kind at word is = absurd (never_read _ _ is)

phrased_nots : (blocks : Blocks) (made : Phrased) (n : ActsReader) → phrased blocks made ≡ n → turn_nots n.turn ≡ 0
phrased_nots blocks (Goes phrase) n e = subst (λ x. turn_nots x.turn ≡ 0) e refl
phrased_nots blocks (Ends s) n e = subst (λ x. turn_nots x.turn ≡ 0) e refl

nots_by : (names : Names) (stepped : Bool) (marks : List (List ℕ)) (turn : Turn) (blocks : Blocks) (t : Token) (n : ActsReader) (m : List (List ℕ)) → acts_step names stepped marks (at_turn blocks turn) t ≡ Ok (n, m) → turn_nots n.turn ≤ turn_nots turn + 1
unfolding acts_step
nots_by names stepped marks Begins blocks t n m is = let e = begun_nots names stepped blocks n t.kind t.at t.word (beside_ok marks _ n m is).0 in omega (arith, e)
nots_by names stepped marks (Within phrase) blocks t n m is =
    let parts = phrase_apart names marks blocks phrase t n m is in let e = phrased_nots blocks parts.made n parts.reader in omega (arith, e)
nots_by names stepped marks (Condition guard) blocks t n m is = condition_nots names blocks guard n t.kind t.at t.word (beside_ok marks _ n m is).0
nots_by names stepped marks (Chosen c body) blocks t n m is = let e = chosen_nots names stepped blocks c body n t.kind t.at t.word (beside_ok marks _ n m is).0 in omega (arith, e)
nots_by names stepped marks (Else c body) blocks t n m is = let e = else_nots blocks c body n t.kind t.at t.word (beside_ok marks _ n m is).0 in omega (arith, e)
nots_by names stepped marks turns.Step blocks t n m is = let e = taken_nots blocks n t.kind t.at t.word (beside_ok marks _ n m is).0 in omega (arith, e)

-- ---- the text

-- The reader has come so far and has noted these marks: what it makes of the tokens that are left is what the text is read as.
pub record IsActsReadTo (names : Names) (stepped : Bool) (text : List ℕ) (first marks : List (List ℕ)) (reader : ActsReader) (tokens : Tokens) : Type 0 where
  pub same : acts_read names stepped (length text) marks reader (left tokens) ≡ text_acts names stepped first text
  pub nots : turn_nots reader.turn + length (left tokens) ≤ 4096
  pub kept : take (length first) marks ≡ first
  pub few : length marks + length (left tokens) ≤ length first + 4096
  pub short : IsShort tokens

pub start : (names : Names) (stepped : Bool) (text : List ℕ) (marks : List (List ℕ)) (reader : ActsReader) (tokens : Tokens) → reader ≡ fresh_acts → left tokens ≡ tokens_of text → IsShort tokens
    → IsActsReadTo names stepped text marks marks reader tokens
start names stepped text marks reader tokens fresh all short =
    let no_more = left_few tokens short in
    record {
      same = ap (λ r. acts_read names stepped (length text) marks r (left tokens)) fresh ∙ ap (λ ts. acts_read names stepped (length text) marks fresh_acts ts) all;
      nots = let none = ap (λ r. turn_nots r.turn) fresh in omega (arith, none, no_more);
      kept = take-length marks;
      few = omega (arith, no_more);
      short = short;
    }

take_within : (first marks : List (List ℕ)) → take (length first) marks ≡ first → length first ≤ length marks
take_within first marks kept = let e = ap length kept in let f = length-take (length first) marks in let g = min-le_right (length first) (length marks) in omega (arith, e, f, g)

noted_kept : (first marks more : List (List ℕ)) → AreNoted marks more → take (length first) marks ≡ first → take (length first) more ≡ first
noted_kept first marks more (inl same) kept = ap (λ x. take (length first) x) same ∙ kept
noted_kept first marks more (inr (name, same)) kept =
    let long : length first ≤ length marks = take_within first marks kept in
    ap (λ x. take (length first) x) same ∙ take-append-le (length first) marks (name ∷ []) long ∙ kept

noted_few : (marks more : List (List ℕ)) → AreNoted marks more → length more ≤ length marks + 1
noted_few marks more (inl same) = let e = ap length same in omega (arith, e)
noted_few marks more (inr (name, same)) = let e = ap length same ∙ length-append marks (name ∷ []) in omega (arith, e)

-- one token more
pub token_passed : (names : Names) (stepped : Bool) (text : List ℕ) (first marks noted : List (List ℕ)) (reader next : ActsReader) (tokens more : Tokens) (t : Token) → left tokens ≡ t ∷ left more → IsShort more
    → IsActsReadTo names stepped text first marks reader tokens → acts_step names stepped marks reader t ≡ Ok (next, noted) → IsActsReadTo names stepped text first noted next more
token_passed names stepped text first marks noted reader next tokens more t front short was step =
    let known : AreNoted marks noted = step_noted names stepped marks reader.turn reader.blocks t next noted step in
    let count = ap length front in
    record {
      same = taken (acts_steps_in names stepped) (acts_worth (length text)) (text_acts names stepped first text) (reader, marks) (next, noted) t (left more) (left tokens) front was.same step;
      nots = let one = nots_by names stepped marks reader.turn reader.blocks t next noted step in omega (arith, was.nots, one, count);
      kept = noted_kept first marks noted known was.kept;
      few = let one = noted_few marks noted known in omega (arith, was.few, one, count);
      short = short;
    }

-- What the marks that are left are to those that were there first.
pub kept_on : (first marks more : List (List ℕ)) → KeepsMarks first marks → KeepsMarks marks more → KeepsMarks first more
kept_on first marks more one two =
    let long : length first ≤ length marks = take_within first marks one in
    let parts : marks ++ drop (length marks) more ≡ more = ap (λ x. x ++ drop (length marks) more) (sym two) ∙ take-append-drop (length marks) more in
    ap (λ x. take (length first) x) (sym parts) ∙ take-append-le (length first) marks (drop (length marks) more) long ∙ one

-- A fault is due with marks as it is without.
pub fault_alone : {A M : Type 0} (due : Result (A × M) ActFault) (fault : ActFault) (left : M) → AnswersWith due (Err fault) left → Answers due (Err fault)
fault_alone due NoMemory left h = tt
fault_alone due (Syntax at) left h = h
fault_alone due (UnknownName at) left h = h
fault_alone due (WideNumber at) left h = h
fault_alone due (Arity at) left h = h
fault_alone due (TooLong at) left h = h

pub fault_with : {A M : Type 0} (due : Result (A × M) ActFault) (fault : ActFault) (left : M) → Answers due (Err fault) → AnswersWith due (Err fault) left
fault_with due NoMemory left h = tt
fault_with due (Syntax at) left h = h
fault_with due (UnknownName at) left h = h
fault_with due (WideNumber at) left h = h
fault_with due (Arity at) left h = h
fault_with due (TooLong at) left h = h

-- A fault that `?` hands on stays the fault that is due.
pub handed_on : {A M : Type 0} (due : Result (A × M) ActFault) (r : Result A ActFault) (fault : ActFault) (left : M) → IsErrAnd r (λ f. f ≡ fault) → Answers due (Err fault) → AnswersWith due r left
handed_on due (Ok x) fault left is h = absurd is
handed_on due (Err f) fault left is h = fault_with due f left (subst (λ x. Answers due (Err x)) (sym is) h)
