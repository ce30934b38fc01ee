-- What one token makes of behaviours that have been read in part, and what a whole text is read as: the trees, or its first fault (this profile's choice).
use Rattle.std.specs.Prelude.{◌+◌, ◌-◌, ℕ, Bool, true, false, List, [], ◌∷◌, ◌++◌, length, Option, Some, None, Result, Ok, Err, nat_lt, if◌then◌else◌}
use Rattle.pssm_acts.specs.declared.act_fault.ActFault.{ActFault}
use Rattle.pssm_acts.specs.declared.act_fault.ActFault.TheVariants.{Syntax, TooLong}
use Rattle.pssm_acts.specs.declared.acts_reader.ActsReader.{ActsReader}
use Rattle.pssm_acts.specs.declared.read_blocks.Blocks.{Blocks}
use Rattle.pssm_acts.specs.declared.read_blocks.OpenIf.{OpenIf}
use Rattle.pssm_acts.specs.declared.acts_reader.ReadActs.{ReadActs}
use Rattle.pssm_acts.specs.declared.acts_reader.Turn.{Turn}
use Rattle.pssm_acts.specs.declared.acts_reader.Turn.TheVariants.{Begins, Within, Condition, Chosen, Else}
use Rattle.pssm_acts.specs.declared.acts_reader.Turn.TheVariants as turns
use Rattle.pssm_acts.specs.declared.guard_reader.GuardReader.{GuardReader}
use Rattle.pssm_acts.specs.declared.phrase_reader.Phrase.{Phrase}
use Rattle.pssm_acts.specs.declared.phrase_reader.Phrased.{Phrased}
use Rattle.pssm_acts.specs.declared.phrase_reader.Phrased.TheVariants.{Goes, Ends}
use Rattle.pssm_semantics.specs.declared.setting.Names.{Names}
use Rattle.pssm_acts.specs.declared.token.Kind.{Kind}
use Rattle.pssm_acts.specs.declared.token.Kind.TheVariants as kinds
use Rattle.pssm_semantics.specs.declared.tree.Act.{Act}
use Rattle.pssm_semantics.specs.declared.tree.Cond.{Cond}
use Rattle.pssm_semantics.specs.declared.tree.Stmt.{Stmt}
use Rattle.pssm_semantics.specs.declared.tree.Stmt.TheViews as stmts
pub use Rattle.pssm_acts.specs.Answers.{listed}
use Rattle.pssm_acts.specs.inner.ExprReading.{and_then}
use Rattle.pssm_acts.specs.inner.Readers.{read_through}
use Rattle.pssm_acts.specs.inner.GuardReading.{fresh_guard, guard_step, guard_value, nots_waiting}
use Rattle.pssm_acts.specs.inner.PhraseReading.{beside, phrase_begun, phrase_step}
use Rattle.pssm_acts.specs.Tokens.{Token, tokens_of}

-- behaviours behind these steps of which nothing has been read
abbrev pub fresh_blocks : List Act → Blocks
fresh_blocks earlier = record { earlier = earlier; outer = []; stmts = []; begun = 0 }

abbrev pub fresh_acts : ActsReader
fresh_acts = record { blocks = fresh_blocks []; turn = Begins }

-- one statement more
abbrev pub with_statement : Blocks → Stmt → Blocks
with_statement blocks s = record { earlier = blocks.earlier; outer = blocks.outer; stmts = blocks.stmts ++ s ∷ []; begun = blocks.begun }

-- an `if` without `else`
abbrev pub without_else : Blocks → Cond → List Stmt → Blocks
without_else blocks c body = with_statement blocks (stmts.Choose c body None)

-- the same blocks at another turn
abbrev pub at_turn : Blocks → Turn → ActsReader
at_turn blocks turn = record { blocks = blocks; turn = turn }

-- a brace opens a block of an `if`, where there is room for its level
unfoldable pub block_opened : Blocks → Cond → Option (List Stmt) → ℕ → Result ActsReader ActFault
block_opened blocks c body at =
    if nat_lt (length blocks.outer) 16
    then Ok (at_turn (record { earlier = blocks.earlier; outer = record { before = blocks.stmts; condition = c; body = body } ∷ blocks.outer; stmts = []; begun = blocks.begun }) Begins)
    else Err (TooLong at)

-- a brace closes the innermost block
abbrev pub if_closed : Option (List Stmt) → Blocks → Cond → List Stmt → ActsReader
if_closed None blocks c block = at_turn blocks (Chosen c block)
if_closed (Some body) blocks c block = at_turn (with_statement blocks (stmts.Choose c body (Some block))) Begins

abbrev pub block_closed_in : List OpenIf → Blocks → ℕ → Result ActsReader ActFault
block_closed_in [] blocks at = Err (Syntax at)
block_closed_in (first ∷ outer) blocks at =
    Ok (if_closed first.body (record { earlier = blocks.earlier; outer = outer; stmts = first.before; begun = blocks.begun }) first.condition blocks.stmts)

unfoldable pub block_closed : Blocks → ℕ → Result ActsReader ActFault
block_closed blocks at = block_closed_in blocks.outer blocks at

-- a statement has begun, where the behaviour may have one more
unfoldable pub statement_counted : Blocks → ℕ → Result Blocks ActFault
statement_counted blocks at =
    if nat_lt blocks.begun 64 then Ok (record { earlier = blocks.earlier; outer = blocks.outer; stmts = blocks.stmts; begun = blocks.begun + 1 })
    else Err (TooLong at)

-- the steps with one more
abbrev pub with_act : List Act → List Stmt → List Act
with_act earlier block = earlier ++ record { stmts = block } ∷ []

-- `step` ends a behaviour and begins the next, outside of blocks, and where there may be one more
abbrev pub next_act_in : Bool → List OpenIf → Blocks → ℕ → Result ActsReader ActFault
next_act_in true [] blocks at =
    if nat_lt (length blocks.earlier + 1) 64 then Ok (at_turn (fresh_blocks (with_act blocks.earlier blocks.stmts)) turns.Step)
    else Err (TooLong at)
next_act_in stepped outer blocks at = Err (Syntax at)

unfoldable pub next_act : Bool → Blocks → ℕ → Result ActsReader ActFault
next_act stepped blocks at = next_act_in stepped blocks.outer blocks at

-- an assignment, a send or a mark has begun
abbrev pub phrase_counted : Blocks → Phrase → ℕ → Result ActsReader ActFault
phrase_counted blocks phrase at = and_then (statement_counted blocks at) (λ more. Ok (at_turn more (Within phrase)))

-- a token where a statement may begin
abbrev pub begun_by : Kind → Names → Bool → Blocks → Token → Result ActsReader ActFault
begun_by kinds.CloseBrace names stepped blocks t = block_closed blocks t.at
begun_by kinds.Step names stepped blocks t = next_act stepped blocks t.at
begun_by kinds.If names stepped blocks t = and_then (statement_counted blocks t.at) (λ more. Ok (at_turn more (Condition fresh_guard)))
begun_by kind names stepped blocks t = and_then (phrase_begun names t) (λ phrase. phrase_counted blocks phrase t.at)

unfoldable pub begun_at : Names → Bool → Blocks → Token → Result ActsReader ActFault
begun_at names stepped blocks t = begun_by t.kind names stepped blocks t

-- a token behind the first block of an `if`
abbrev pub after_choice_by : Kind → Names → Bool → Blocks → Cond → List Stmt → Token → Result ActsReader ActFault
after_choice_by kinds.Else names stepped blocks c body t = Ok (at_turn blocks (Else c body))
after_choice_by kind names stepped blocks c body t = begun_at names stepped (without_else blocks c body) t

unfoldable pub after_choice : Names → Bool → Blocks → Cond → List Stmt → Token → Result ActsReader ActFault
after_choice names stepped blocks c body t = after_choice_by t.kind names stepped blocks c body t

-- a token behind `else`
abbrev pub else_opened_by : Kind → Blocks → Cond → List Stmt → ℕ → Result ActsReader ActFault
else_opened_by kinds.OpenBrace blocks c body at = block_opened blocks c (Some body) at
else_opened_by kind blocks c body at = Err (Syntax at)

unfoldable pub else_opened : Blocks → Cond → List Stmt → Token → Result ActsReader ActFault
else_opened blocks c body t = else_opened_by t.kind blocks c body t.at

-- a token in the condition of an `if`, or the brace behind it
abbrev pub condition_read_by : Kind → Names → Blocks → GuardReader → Token → Result ActsReader ActFault
condition_read_by kinds.OpenBrace names blocks guard t = and_then (guard_value guard t.at) (λ c. block_opened blocks c None t.at)
condition_read_by kind names blocks guard t = and_then (guard_step names (16 - length blocks.outer) guard t) (λ more. Ok (at_turn blocks (Condition more)))

unfoldable pub condition_read : Names → Blocks → GuardReader → Token → Result ActsReader ActFault
condition_read names blocks guard t = condition_read_by t.kind names blocks guard t

-- a token in an assignment, a send or a mark
abbrev pub phrased : Blocks → Phrased → ActsReader
phrased blocks (Goes phrase) = at_turn blocks (Within phrase)
phrased blocks (Ends s) = at_turn (with_statement blocks s) Begins

unfoldable pub phrase_read : Names → List (List ℕ) → Blocks → Phrase → Token → Result (ActsReader × List (List ℕ)) ActFault
phrase_read names marks blocks phrase t = and_then (phrase_step names (16 - length blocks.outer) marks phrase t) (λ next. Ok (phrased blocks next.0, next.1))

-- a token behind `step`: the semicolon
abbrev pub step_taken_by : Kind → Blocks → ℕ → Result ActsReader ActFault
step_taken_by kinds.Semicolon blocks at = Ok (at_turn blocks Begins)
step_taken_by kind blocks at = Err (Syntax at)

unfoldable pub step_taken : Blocks → Token → Result ActsReader ActFault
step_taken blocks t = step_taken_by t.kind blocks t.at

-- the next token, with the marks behind it; there may be several behaviours where they are steps
abbrev pub acts_step_at : Turn → Names → Bool → List (List ℕ) → Blocks → Token → Result (ActsReader × List (List ℕ)) ActFault
acts_step_at Begins names stepped marks blocks t = beside marks (begun_at names stepped blocks t)
acts_step_at (Within phrase) names stepped marks blocks t = phrase_read names marks blocks phrase t
acts_step_at (Condition guard) names stepped marks blocks t = beside marks (condition_read names blocks guard t)
acts_step_at (Chosen c body) names stepped marks blocks t = beside marks (after_choice names stepped blocks c body t)
acts_step_at (Else c body) names stepped marks blocks t = beside marks (else_opened blocks c body t)
acts_step_at turns.Step names stepped marks blocks t = beside marks (step_taken blocks t)

unfoldable pub acts_step : Names → Bool → List (List ℕ) → ActsReader → Token → Result (ActsReader × List (List ℕ)) ActFault
acts_step names stepped marks reader t = acts_step_at reader.turn names stepped marks reader.blocks t

-- how many `!` wait for a unit
abbrev pub turn_nots : Turn → ℕ
turn_nots (Condition guard) = nots_waiting guard
turn_nots turn = 0

-- the behaviours that have been read, where no block is open
abbrev pub whole_acts_in : List OpenIf → Blocks → ℕ → Result ReadActs ActFault
whole_acts_in [] blocks at = Ok (record { earlier = blocks.earlier; last = record { stmts = blocks.stmts } })
whole_acts_in (first ∷ outer) blocks at = Err (Syntax at)

unfoldable pub whole_acts : Blocks → ℕ → Result ReadActs ActFault
whole_acts blocks at = whole_acts_in blocks.outer blocks at

abbrev pub acts_value_at : Turn → Blocks → ℕ → Result ReadActs ActFault
acts_value_at Begins blocks at = whole_acts blocks at
acts_value_at (Chosen c body) blocks at = whole_acts (without_else blocks c body) at
acts_value_at turn blocks at = Err (Syntax at)

-- the behaviours that have been read, where they may end at this byte
unfoldable pub acts_value : ActsReader → ℕ → Result ReadActs ActFault
acts_value reader at = acts_value_at reader.turn reader.blocks at

-- what has been read, and the marks that are known behind it
abbrev pub ActsState : Type 0
ActsState = ActsReader × List (List ℕ)

abbrev pub acts_steps_in : Names → Bool → ActsState → Token → Result ActsState ActFault
acts_steps_in names stepped s t = acts_step names stepped s.1 s.0 t

abbrev pub acts_worth : ℕ → ActsState → Result (ReadActs × List (List ℕ)) ActFault
acts_worth end s = beside s.1 (acts_value s.0 end)

-- token after token to the end of the text, which is at this byte
abbrev pub acts_read : Names → Bool → ℕ → List (List ℕ) → ActsReader → List Token → Result (ReadActs × List (List ℕ)) ActFault
acts_read names stepped end marks reader ts = read_through (acts_steps_in names stepped) (acts_worth end) (reader, marks) ts

-- the tokens of a text from the first on
abbrev pub text_acts : Names → Bool → List (List ℕ) → List ℕ → Result (ReadActs × List (List ℕ)) ActFault
text_acts names stepped marks text = acts_read names stepped (length text) marks fresh_acts (tokens_of text)

-- a whole text, of at most 4,096 bytes
unfoldable pub acts_reading : Names → Bool → List (List ℕ) → List ℕ → Result (ReadActs × List (List ℕ)) ActFault
acts_reading names stepped marks text = if nat_lt 4096 (length text) then Err (TooLong 0) else text_acts names stepped marks text

-- the text of one behaviour
unfoldable pub act_reading : Names → List (List ℕ) → List ℕ → Result (Act × List (List ℕ)) ActFault
act_reading names marks text = and_then (acts_reading names false marks text) (λ read. Ok (read.0.last, read.1))

-- the text of steps
unfoldable pub steps_reading : Names → List (List ℕ) → List ℕ → Result (List Act × List (List ℕ)) ActFault
steps_reading names marks text = and_then (acts_reading names true marks text) (λ read. Ok (read.0.earlier ++ read.0.last ∷ [], read.1))
