-- How many statements of a behaviour have begun, as blocks are read.
use Rattle.std.proofs.Common.{◌≡◌, ◌+◌, ◌<◌, ◌≤◌, ℕ, Bool, true, false, List, [], ◌∷◌, ◌++◌, length, Option, Some, None, arith}
use Rattle.pssm_acts.specs.declared.read_blocks.OpenIf.{OpenIf}
use Rattle.pssm_acts.specs.declared.acts_reader.Turn.{Turn}
use Rattle.pssm_acts.specs.declared.acts_reader.Turn.TheVariants.{Begins, Within, Condition, Chosen, Else}
use Rattle.pssm_acts.specs.declared.acts_reader.Turn.TheVariants as turns
use Rattle.pssm_semantics.specs.declared.tree.Act.{Act}
use Rattle.pssm_semantics.specs.declared.tree.Cond.{Cond}
use Rattle.pssm_semantics.specs.declared.tree.Stmt.{Stmt}
use Rattle.pssm_semantics.specs.declared.tree.Stmt.TheViews as stmts
use Rattle.pssm_semantics.specs.Fits.{stmt_count, stmts_count}
use Rattle.pssm_semantics.proofs.Blocks.{block_counts}

pub stmts_more : (block : List Stmt) (s : Stmt) → stmts_count (block ++ s ∷ []) ≡ stmts_count block + stmt_count s
stmts_more [] s = omega arith
stmts_more (x ∷ rest) s = omega (arith, stmts_more rest s)

pub choice_count : (c : Cond) (body : List Stmt) → stmt_count (stmts.Choose c body None) ≡ 1 + stmts_count body
choice_count c body = omega (arith, block_counts body)

pub alternative_count : (c : Cond) (body rest : List Stmt) → stmt_count (stmts.Choose c body (Some rest)) ≡ 1 + stmts_count body + stmts_count rest
alternative_count c body rest = omega (arith, block_counts body, block_counts rest)

abbrev pub body_count : Option (List Stmt) → ℕ
body_count None = 0
body_count (Some body) = stmts_count body

-- the statements before each open block, with the `if` that it belongs to
abbrev pub outer_count : List OpenIf → ℕ
outer_count [] = 0
outer_count (open' ∷ outer) = (1 + stmts_count open'.before + body_count open'.body) + outer_count outer

-- the statement that has begun, and its first block
abbrev pub turn_count : Turn → ℕ
turn_count Begins = 0
turn_count (Within phrase) = 1
turn_count (Condition guard) = 1
turn_count (Chosen c body) = 1 + stmts_count body
turn_count (Else c body) = 1 + stmts_count body
turn_count turns.Step = 0

-- There is one behaviour where no steps are read.
abbrev pub IsLone : Bool → List Act → Type 0
IsLone true earlier = Unit {0}
IsLone false earlier = earlier ≡ []

-- Statements and steps are as few as they may be.
pub record Counted (stepped : Bool) (earlier : List Act) (outer : List OpenIf) (block : List Stmt) (begun : ℕ) (turn : Turn) : Type 0 where
  pub few : begun ≤ 64
  pub all : begun ≡ outer_count outer + stmts_count block + turn_count turn
  pub steps : length earlier < 64
  pub lone : IsLone stepped earlier

module _ (stepped : Bool) (earlier : List Act) (outer : List OpenIf) (block : List Stmt) (begun : ℕ) where
  -- a statement begins
  pub begins_counted : (turn : Turn) → turn_count turn ≡ 1 → begun < 64 → Counted stepped earlier outer block begun Begins → Counted stepped earlier outer block (begun + 1) turn
  begins_counted turn same few h = record { few = omega arith; all = omega (arith, h.all, same); steps = h.steps; lone = h.lone }

  -- it goes on
  pub turn_counted : (turn next : Turn) → turn_count turn ≡ turn_count next → Counted stepped earlier outer block begun turn → Counted stepped earlier outer block begun next
  turn_counted turn next same h = record { few = h.few; all = omega (arith, h.all, same); steps = h.steps; lone = h.lone }

  -- it ends
  pub ends_counted : (turn : Turn) (s : Stmt) → turn_count turn ≡ stmt_count s → Counted stepped earlier outer block begun turn → Counted stepped earlier outer (block ++ s ∷ []) begun Begins
  ends_counted turn s same h = record { few = h.few; all = omega (arith, h.all, same, stmts_more block s); steps = h.steps; lone = h.lone }

  -- a block of it opens
  pub opens_counted : (turn : Turn) (c : Cond) (body : Option (List Stmt)) → turn_count turn ≡ 1 + body_count body → Counted stepped earlier outer block begun turn
      → Counted stepped earlier (record { before = block; condition = c; body = body } ∷ outer) [] begun Begins
  opens_counted turn c body same h = record { few = h.few; all = omega (arith, h.all, same); steps = h.steps; lone = h.lone }

  -- its first block is closed, or its second one
  pub first_counted : (before : List Stmt) (c : Cond) → Counted stepped earlier (record { before = before; condition = c; body = None } ∷ outer) block begun Begins → Counted stepped earlier outer before begun (Chosen c block)
  first_counted before c h = record { few = h.few; all = omega (arith, h.all); steps = h.steps; lone = h.lone }

  pub second_counted : (before body : List Stmt) (c : Cond) → Counted stepped earlier (record { before = before; condition = c; body = Some body } ∷ outer) block begun Begins
      → Counted stepped earlier outer (before ++ stmts.Choose c body (Some block) ∷ []) begun Begins
  second_counted before body c h =
      record { few = h.few; all = omega (arith, h.all, stmts_more before (stmts.Choose c body (Some block)), alternative_count c body block); steps = h.steps; lone = h.lone }
