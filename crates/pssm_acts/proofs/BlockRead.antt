-- Whatever spells statements is read as those statements.
use Rattle.std.proofs.Common.{◌≡◌, ◌≤◌, ◌+◌, ◌-◌, ◌<◌, ℕ, suc, Bool, List, [], ◌∷◌, ◌++◌, length, Option, Some, None, Ok, Err, refl, ap, ◌∙◌, subst, arith}
use Rattle.std.proofs.lemmas.Bool.{lt-ltb}
use Rattle.pssm_acts.specs.declared.act_fault.ActFault.TheVariants.{Syntax}
use Rattle.pssm_acts.specs.declared.acts_reader.ActsReader.{ActsReader}
use Rattle.pssm_acts.specs.declared.read_blocks.Blocks.{Blocks}
use Rattle.pssm_acts.specs.declared.read_blocks.OpenIf.{OpenIf}
use Rattle.pssm_acts.specs.declared.acts_reader.Turn.TheVariants.{Begins, Condition, Chosen, Else}
use Rattle.pssm_acts.specs.declared.expr_reader.Left.{Left}
use Rattle.pssm_acts.specs.declared.expr_reader.Left.TheVariants.{Nothing}
use Rattle.pssm_acts.specs.declared.expr_reader.Level.{Level}
use Rattle.pssm_acts.specs.declared.expr_reader.Place.{Place}
use Rattle.pssm_acts.specs.declared.expr_reader.Place.TheVariants as places
use Rattle.pssm_acts.specs.declared.guard_reader.Bracket.{Bracket}
use Rattle.pssm_acts.specs.declared.guard_reader.Stage.{Stage}
use Rattle.pssm_acts.specs.declared.guard_reader.Stage.TheVariants as stages
use Rattle.pssm_acts.specs.declared.guard_reader.GuardReader.{GuardReader}
use Rattle.pssm_semantics.specs.declared.setting.Names.{Names}
use Rattle.pssm_acts.specs.declared.token.Kind.{Kind}
use Rattle.pssm_acts.specs.declared.token.Kind.TheVariants as kinds
use Rattle.pssm_semantics.specs.declared.tree.Act.{Act}
use Rattle.pssm_semantics.specs.declared.tree.Cond.{Cond}
use Rattle.pssm_semantics.specs.declared.tree.Stmt.{Stmt}
use Rattle.pssm_semantics.specs.declared.tree.Stmt.TheViews as stmts
use Rattle.pssm_acts.specs.Tokens.{Token}
use Rattle.pssm_semantics.specs.Fits.{stmt_count, stmts_count}
use Rattle.pssm_acts.specs.inner.ExprReading.{and_then, at_atom, atom_of, after_atom, expr_step}
use Rattle.pssm_acts.specs.inner.GuardReading.{fresh_guard, side_begun, unit_wanted, in_first, after_unit, in_second, at_stage, guard_step, guard_value}
use Rattle.pssm_acts.specs.inner.PhraseReading.{beside}
use Rattle.pssm_acts.specs.inner.ActReading.{at_turn, block_opened, block_closed, statement_counted, begun_at, after_choice, else_opened, condition_read, acts_step}
use Rattle.pssm_acts.specs.Grammar.{Either, SpellsGuard}
use Rattle.pssm_acts.specs.ActGrammar.{SpellsPhrase, assignment, sending, bare_mark, marking, SpellsStmts, nothing, phrase, choice, alternative}
use Rattle.pssm_acts.proofs.ExprRead.{reader_at}
use Rattle.pssm_acts.proofs.GuardRead.{guard_steps_in, guard_at, GuardRuns, guard_runs}
use Rattle.pssm_acts.proofs.ActRun.{Runs}
use Rattle.pssm_acts.proofs.Readers.{Leads, done, next, one, onward}
use Rattle.pssm_acts.proofs.Readers as runs
use Rattle.pssm_acts.proofs.PhraseRead.{Standing, begins, chosen, taken, counted, reads_phrase}
use Rattle.pssm_semantics.proofs.Blocks.{block_counts}

-- ---- how many statements there are

counts_append : (block : List Stmt) (s : Stmt) → stmts_count (block ++ s ∷ []) ≡ stmts_count block + stmt_count s
counts_append [] s = omega arith
counts_append (x ∷ block) s = omega (arith, counts_append block s)

choice_counts : (block : List Stmt) (c : Cond) (body : List Stmt) → stmts_count (block ++ stmts.Choose c body None ∷ []) ≡ stmts_count block + (1 + stmts_count body)
choice_counts block c body = omega (arith, counts_append block (stmts.Choose c body None), block_counts body)

alternative_counts : (block : List Stmt) (c : Cond) (body otherwise : List Stmt) → stmts_count (block ++ stmts.Choose c body (Some otherwise) ∷ []) ≡ stmts_count block + (1 + stmts_count body + stmts_count otherwise)
alternative_counts block c body otherwise = omega (arith, counts_append block (stmts.Choose c body (Some otherwise)), block_counts body, block_counts otherwise)

phrase_counts : {names : Names} {marks noted : List (List ℕ)} {l : ℕ} {ts : List Token} {s : Stmt} → SpellsPhrase names marks l ts s noted → stmt_count s ≡ 1
phrase_counts (assignment semicolon is found becoming spelled ends) = refl
phrase_counts (sending semicolon is receives dots names' found spelled many ends) = refl
phrase_counts (bare_mark is names' ends) = refl
phrase_counts (marking semicolon is names' spelled short ends) = refl

-- ---- the condition of an `if`

-- An opening brace continues no expression and no guard.
expr_stops : (names : Names) (room : ℕ) (outer : List Level) (left : Left) (place : Place) (at : ℕ) (word : List ℕ)
    → expr_step names room (reader_at outer left place) (record { at = at; kind = kinds.OpenBrace; word = word }) ≡ Err (Syntax at)
unfolding expr_step at_atom atom_of after_atom
expr_stops names room outer left (places.Wants factor) at word = refl
expr_stops names room outer left (places.Has term) at word = refl

pub guard_stops : (names : Names) (room : ℕ) (outer : List Bracket) (either : Option Cond) (stage : Stage) (at : ℕ) (word : List ℕ)
    → guard_step names room (guard_at outer either stage) (record { at = at; kind = kinds.OpenBrace; word = word }) ≡ Err (Syntax at)
unfolding guard_step unit_wanted side_begun in_first in_second after_unit
guard_stops names room outer either (stages.Wants before) at word =
    ap (λ x. and_then x (λ side. Ok (guard_at outer either (stages.First before side)))) (expr_stops names (room - length outer) [] Nothing (places.Wants None) at word)
guard_stops names room outer either (stages.First before side) at word =
    ap (λ x. and_then (and_then x (λ more. Ok (stages.First before more))) (λ stage. Ok (at_stage outer either stage))) (expr_stops names (room - length outer) side.outer side.left side.place at word)
guard_stops names room outer either (stages.Second half) at word =
    ap (λ x. and_then x (λ more. Ok (guard_at outer either (stages.Second (record { before = half.before; rel = half.rel; left = half.left; side = more })))))
    (expr_stops names (room - length outer) half.side.outer half.side.left half.side.place at word)
guard_stops names room outer either (stages.Has c) at word = refl

pub condition_goes : (names : Names) (stepped : Bool) (marks : List (List ℕ)) (blocks : Blocks) (outer : List Bracket) (either : Option Cond) (stage : Stage) (n : GuardReader) (kind : Kind) (at : ℕ) (word : List ℕ)
    → guard_step names (16 - length blocks.outer) (guard_at outer either stage) (record { at = at; kind = kind; word = word }) ≡ Ok n
    → acts_step names stepped marks (at_turn blocks (Condition (guard_at outer either stage))) (record { at = at; kind = kind; word = word }) ≡ Ok (at_turn blocks (Condition n), marks)
unfolding acts_step condition_read
condition_goes names stepped marks blocks outer either stage n kinds.OpenBrace at word step =
    let stops : guard_step names (16 - length blocks.outer) (guard_at outer either stage) (record { at = at; kind = kinds.OpenBrace; word = word }) ≡ Err (Syntax at) = guard_stops names (16 - length blocks.outer) outer either stage at word in
    absurd cc
condition_goes names stepped marks blocks outer either stage n kind at word step = ap (λ x. beside marks (and_then x (λ more. Ok (at_turn blocks (Condition more))))) step

condition_run : (names : Names) (stepped : Bool) (marks : List (List ℕ)) (blocks : Blocks) (r n : GuardReader) (ts : List Token) → Leads (guard_steps_in names (16 - length blocks.outer)) r ts n
    → Runs names stepped marks (at_turn blocks (Condition r)) ts marks (at_turn blocks (Condition n))
condition_run names stepped marks blocks r n ts run =
    runs.within (λ m. (at_turn blocks (Condition m), marks)) (λ r n t step. condition_goes names stepped marks blocks r.outer r.either r.stage n t.kind t.at t.word step) run

-- ---- the tokens round blocks

abbrev pub blocks_at : List Act → List OpenIf → List Stmt → ℕ → Blocks
blocks_at earlier outer block begun = record { earlier = earlier; outer = outer; stmts = block; begun = begun }

-- a block of an `if` has been opened
abbrev pub opened : Blocks → Cond → Option (List Stmt) → Blocks
opened blocks c body = blocks_at blocks.earlier (record { before = blocks.stmts; condition = c; body = body } ∷ blocks.outer) [] blocks.begun

module _ (names : Names) (stepped : Bool) (marks : List (List ℕ)) (t : Token) where
  pub if_begins : (blocks : Blocks) → blocks.begun < 64 → t.kind ≡ kinds.If → begun_at names stepped blocks t ≡ Ok (at_turn (counted blocks) (Condition fresh_guard))
  unfolding begun_at statement_counted
  if_begins blocks few is = simp (is, lt-ltb blocks.begun 64 few) refl

  pub first_opens : (blocks : Blocks) (guard : GuardReader) (c : Cond) → length blocks.outer < 16 → t.kind ≡ kinds.OpenBrace → guard_value guard t.at ≡ Ok c
      → acts_step names stepped marks (at_turn blocks (Condition guard)) t ≡ Ok (at_turn (opened blocks c None) Begins, marks)
  unfolding acts_step condition_read block_opened
  first_opens blocks guard c deep is ends = simp (is, ends, lt-ltb (length blocks.outer) 16 deep) refl

  pub first_closes : (earlier : List Act) (outer : List OpenIf) (before block : List Stmt) (c : Cond) (begun : ℕ) → t.kind ≡ kinds.CloseBrace
      → begun_at names stepped (blocks_at earlier (record { before = before; condition = c; body = None } ∷ outer) block begun) t ≡ Ok (at_turn (blocks_at earlier outer before begun) (Chosen c block))
  unfolding begun_at block_closed
  first_closes earlier outer before block c begun is = simp is refl

  pub else_begins : (blocks : Blocks) (c : Cond) (body : List Stmt) → t.kind ≡ kinds.Else → acts_step names stepped marks (at_turn blocks (Chosen c body)) t ≡ Ok (at_turn blocks (Else c body), marks)
  unfolding acts_step after_choice
  else_begins blocks c body is = simp is refl

  pub other_opens : (blocks : Blocks) (c : Cond) (body : List Stmt) → length blocks.outer < 16 → t.kind ≡ kinds.OpenBrace
      → acts_step names stepped marks (at_turn blocks (Else c body)) t ≡ Ok (at_turn (opened blocks c (Some body)) Begins, marks)
  unfolding acts_step else_opened block_opened
  other_opens blocks c body deep is = simp (is, lt-ltb (length blocks.outer) 16 deep) refl

  pub other_closes : (earlier : List Act) (outer : List OpenIf) (before body block : List Stmt) (c : Cond) (begun : ℕ) → t.kind ≡ kinds.CloseBrace
      → begun_at names stepped (blocks_at earlier (record { before = before; condition = c; body = Some body } ∷ outer) block begun) t
      ≡ Ok (at_turn (blocks_at earlier outer (before ++ stmts.Choose c body (Some block) ∷ []) begun) Begins)
  unfolding begun_at block_closed
  other_closes earlier outer before body block c begun is = simp is refl

-- ---- statements

-- what the tokens of a block do to a reader at its beginning: so many statements have begun behind them
pub record ReadsBlock (names : Names) (stepped : Bool) (earlier : List Act) (outer : List OpenIf) (begun : ℕ) (marks : List (List ℕ)) (ts : List Token) (block : List Stmt) (noted : List (List ℕ)) : Type 0 where
  pub reader : ActsReader
  pub total : ℕ
  pub run : Runs names stepped marks (at_turn (blocks_at earlier outer [] begun) Begins) ts noted reader
  pub stands : Standing reader (blocks_at earlier outer block total)
  pub count : total ≡ begun + stmts_count block

phrase_block : {names : Names} {marks noted more : List (List ℕ)} {l : ℕ} {ts us : List Token} {block : List Stmt} {s : Stmt} (stepped : Bool) (earlier : List Act) (outer : List OpenIf) (begun : ℕ) → length outer + l ≡ 16
    → begun + stmts_count (block ++ s ∷ []) ≤ 64 → ReadsBlock names stepped earlier outer begun marks ts block noted → SpellsPhrase names noted l us s more
    → ReadsBlock names stepped earlier outer begun marks (ts ++ us) (block ++ s ∷ []) more
phrase_block {block = block} {s = s} stepped earlier outer begun deep few before spelled =
    let counts : stmts_count (block ++ s ∷ []) ≡ stmts_count block + 1 = counts_append block s ∙ ap (λ k. stmts_count block + k) (phrase_counts spelled) in
    record {
      reader = at_turn (blocks_at earlier outer (block ++ s ∷ []) (before.total + 1)) Begins;
      total = before.total + 1;
      run = onward before.run (reads_phrase stepped before.reader (blocks_at earlier outer block before.total) before.stands (omega (arith, before.count)) deep spelled);
      stands = begins;
      count = omega (arith, before.count);
    }

-- an `if` with its first block opened: its condition has been read
condition_block : {names : Names} {cs rest : List Token} {block : List Stmt} {c : Cond} {noted last : List (List ℕ)} {m : ActsReader} (stepped : Bool) (earlier : List Act) (outer : List OpenIf) (begun : ℕ) (n : ActsReader)
    (if' opening : Token) → length outer < 16 → begun < 64 → Standing n (blocks_at earlier outer block begun) → if'.kind ≡ kinds.If → GuardRuns names (16 - length outer) cs c → opening.kind ≡ kinds.OpenBrace
    → Runs names stepped noted (at_turn (blocks_at earlier (record { before = block; condition = c; body = None } ∷ outer) [] (begun + 1)) Begins) rest last m
    → Runs names stepped noted n (if' ∷ (cs ++ opening ∷ rest)) last m
condition_block {names} {cs} {rest} {block} {c} {noted} stepped earlier outer begun n if' opening deep few stands is condition opens further =
    next (taken names stepped noted if' stands (rw is tt) (if_begins names stepped noted if' (blocks_at earlier outer block begun) few is))
    (onward (condition_run names stepped noted (blocks_at earlier outer block (begun + 1)) fresh_guard condition.reader cs condition.run)
    (next (first_opens names stepped noted opening (blocks_at earlier outer block (begun + 1)) condition.reader c deep opens (condition.ends opening.at)) further))

-- an `if` from the statements before it on to the end of its first block, and what comes behind that
first_block : {names : Names} {marks noted more last : List (List ℕ)} {l : ℕ} {ts cs us rest : List Token} {block body : List Stmt} {c : Cond} {m : ActsReader} (stepped : Bool) (earlier : List Act) (outer : List OpenIf)
    (begun : ℕ) (if' opening closing : Token) → length outer + suc l ≡ 16 → (before : ReadsBlock names stepped earlier outer begun marks ts block noted) → before.total < 64 → if'.kind ≡ kinds.If
    → SpellsGuard names Either (suc l) cs c → opening.kind ≡ kinds.OpenBrace
    → (inner : ReadsBlock names stepped earlier (record { before = block; condition = c; body = None } ∷ outer) (before.total + 1) noted us body more) → closing.kind ≡ kinds.CloseBrace
    → Runs names stepped more (at_turn (blocks_at earlier outer block inner.total) (Chosen c body)) rest last m
    → Runs names stepped marks (at_turn (blocks_at earlier outer [] begun) Begins) (ts ++ if' ∷ (cs ++ opening ∷ (us ++ closing ∷ rest))) last m
first_block {names} {more = more} {l = l} {cs = cs} {block = block} {body = body} {c = c} stepped earlier outer begun if' opening closing deep before few is guard opens inner closes further =
    let room : suc l ≡ 16 - length outer = omega arith in
    let closed : acts_step names stepped more inner.reader closing ≡ Ok (at_turn (blocks_at earlier outer block inner.total) (Chosen c body), more) =
    taken names stepped more closing inner.stands (rw closes tt) (first_closes names stepped more closing earlier outer block body c inner.total closes) in
    onward before.run (condition_block stepped earlier outer before.total before.reader if' opening (omega arith) few before.stands is
    (guard_runs (subst (λ r. SpellsGuard names Either r cs c) room guard)) opens (onward inner.run (next closed further)))

choice_block : {names : Names} {marks noted more : List (List ℕ)} {l : ℕ} {ts cs us : List Token} {block body : List Stmt} {c : Cond} (stepped : Bool) (earlier : List Act) (outer : List OpenIf) (begun : ℕ)
    (if' opening closing : Token) → length outer + suc l ≡ 16 → (before : ReadsBlock names stepped earlier outer begun marks ts block noted) → before.total < 64 → if'.kind ≡ kinds.If
    → SpellsGuard names Either (suc l) cs c → opening.kind ≡ kinds.OpenBrace
    → ReadsBlock names stepped earlier (record { before = block; condition = c; body = None } ∷ outer) (before.total + 1) noted us body more → closing.kind ≡ kinds.CloseBrace
    → ReadsBlock names stepped earlier outer begun marks (ts ++ if' ∷ (cs ++ opening ∷ (us ++ closing ∷ []))) (block ++ stmts.Choose c body None ∷ []) more
choice_block {block = block} {body = body} {c = c} stepped earlier outer begun if' opening closing deep before few is guard opens inner closes =
    let counts : stmts_count (block ++ stmts.Choose c body None ∷ []) ≡ stmts_count block + (1 + stmts_count body) = choice_counts block c body in
    record {
      reader = at_turn (blocks_at earlier outer block inner.total) (Chosen c body);
      total = inner.total;
      run = first_block stepped earlier outer begun if' opening closing deep before few is guard opens inner closes done;
      stands = chosen;
      count = omega (arith, before.count, inner.count);
    }

alternative_block : {names : Names} {marks noted more last : List (List ℕ)} {l : ℕ} {ts cs us vs : List Token} {block body otherwise : List Stmt} {c : Cond} (stepped : Bool) (earlier : List Act) (outer : List OpenIf)
    (begun : ℕ) (if' opening closing else' opening' closing' : Token) → length outer + suc l ≡ 16 → (before : ReadsBlock names stepped earlier outer begun marks ts block noted) → before.total < 64 → if'.kind ≡ kinds.If
    → SpellsGuard names Either (suc l) cs c → opening.kind ≡ kinds.OpenBrace
    → (inner : ReadsBlock names stepped earlier (record { before = block; condition = c; body = None } ∷ outer) (before.total + 1) noted us body more) → closing.kind ≡ kinds.CloseBrace
    → else'.kind ≡ kinds.Else → opening'.kind ≡ kinds.OpenBrace
    → ReadsBlock names stepped earlier (record { before = block; condition = c; body = Some body } ∷ outer) inner.total more vs otherwise last → closing'.kind ≡ kinds.CloseBrace
    → ReadsBlock names stepped earlier outer begun marks (ts ++ if' ∷ (cs ++ opening ∷ (us ++ closing ∷ else' ∷ opening' ∷ (vs ++ closing' ∷ [])))) (block ++ stmts.Choose c body (Some otherwise) ∷ []) last
alternative_block {names} {more = more} {last = last} {block = block} {body = body} {otherwise = otherwise} {c = c} stepped earlier outer begun if' opening closing else' opening' closing' deep before few is guard opens inner closes elses opens' other closes' =
    let counts : stmts_count (block ++ stmts.Choose c body (Some otherwise) ∷ []) ≡ stmts_count block + (1 + stmts_count body + stmts_count otherwise) = alternative_counts block c body otherwise in
    let whole : ActsReader = at_turn (blocks_at earlier outer (block ++ stmts.Choose c body (Some otherwise) ∷ []) other.total) Begins in
    let closed : acts_step names stepped last other.reader closing' ≡ Ok (whole, last) =
    taken names stepped last closing' other.stands (rw closes' tt) (other_closes names stepped last closing' earlier outer block body otherwise c other.total closes') in
    record {
      reader = whole;
      total = other.total;
      run = first_block stepped earlier outer begun if' opening closing deep before few is guard opens inner closes
          (next (else_begins names stepped more else' (blocks_at earlier outer block inner.total) c body elses)
          (next (other_opens names stepped more opening' (blocks_at earlier outer block inner.total) c body (omega arith) opens') (onward other.run (one closed))));
      stands = begins;
      count = omega (arith, before.count, inner.count, other.count);
    }

-- The tokens of statements, where these may begin and there may be as many more, make them the statements that are whole.
pub reads_block : {names : Names} {l : ℕ} {ts : List Token} {block : List Stmt} {marks noted : List (List ℕ)} (stepped : Bool) (earlier : List Act) (outer : List OpenIf) (begun : ℕ) → length outer + l ≡ 16
    → begun + stmts_count block ≤ 64 → SpellsStmts names marks l ts block noted → ReadsBlock names stepped earlier outer begun marks ts block noted
reads_block stepped earlier outer begun deep few nothing = record { reader = at_turn (blocks_at earlier outer [] begun) Begins; total = begun; run = done; stands = begins; count = omega arith }
reads_block {names} stepped earlier outer begun deep few (phrase {block = block} {s = s} front spelled) =
    let fewer : stmts_count block ≤ stmts_count (block ++ s ∷ []) = omega (arith, counts_append block s) in
    phrase_block stepped earlier outer begun deep few (reads_block stepped earlier outer begun deep (omega arith) front) spelled
reads_block {names} stepped earlier outer begun deep few (choice {l} {ts} {cs} {us} if' opening closing {block} {body} {c} {marks} {noted} {more} front is guard opens inner closes) =
    let counts : stmts_count (block ++ stmts.Choose c body None ∷ []) ≡ stmts_count block + (1 + stmts_count body) = choice_counts block c body in
    let before : ReadsBlock names stepped earlier outer begun marks ts block noted = reads_block stepped earlier outer begun deep (omega arith) front in
    let first : OpenIf = record { before = block; condition = c; body = None } in
    let deeper : length (first ∷ outer) + l ≡ 16 = omega arith in
    choice_block stepped earlier outer begun if' opening closing deep before (omega (arith, before.count)) is guard opens
    (reads_block stepped earlier (first ∷ outer) (before.total + 1) deeper (omega (arith, before.count)) inner) closes
reads_block {names} stepped earlier outer begun deep few (alternative {l} {ts} {cs} {us} {vs} if' opening closing else' opening' closing' {block} {body} {otherwise} {c} {marks} {noted} {more} {last} front is guard opens inner closes elses opens' other closes') =
    let counts : stmts_count (block ++ stmts.Choose c body (Some otherwise) ∷ []) ≡ stmts_count block + (1 + stmts_count body + stmts_count otherwise) = alternative_counts block c body otherwise in
    let before : ReadsBlock names stepped earlier outer begun marks ts block noted = reads_block stepped earlier outer begun deep (omega arith) front in
    let first : OpenIf = record { before = block; condition = c; body = None } in
    let second : OpenIf = record { before = block; condition = c; body = Some body } in
    let deeper : length (first ∷ outer) + l ≡ 16 = omega arith in
    let deeper' : length (second ∷ outer) + l ≡ 16 = omega arith in
    let within : ReadsBlock names stepped earlier (first ∷ outer) (before.total + 1) noted us body more = reads_block stepped earlier (first ∷ outer) (before.total + 1) deeper (omega (arith, before.count)) inner in
    alternative_block stepped earlier outer begun if' opening closing else' opening' closing' deep before (omega (arith, before.count)) is guard opens within closes elses opens'
    (reads_block stepped earlier (second ∷ outer) within.total deeper' (omega (arith, before.count, within.count)) other) closes'
