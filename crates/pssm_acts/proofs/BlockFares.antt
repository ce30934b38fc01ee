-- Tokens of the shape of behaviours are not refused for their shape.
use Rattle.std.proofs.Common.{◌≡◌, ◌+◌, ◌-◌, ℕ, Bool, true, false, ltb, List, [], ◌∷◌, ◌++◌, length, Option, Some, None, Ok, Err, refl, sym, ap, subst}
use Rattle.std.proofs.lemmas.Bool.{ltb-true}
use Rattle.pssm_acts.specs.declared.act_fault.ActFault.{ActFault}
use Rattle.pssm_acts.specs.declared.act_fault.ActFault.TheVariants.{Syntax, TooLong}
use Rattle.pssm_acts.specs.declared.acts_reader.ActsReader.{ActsReader}
use Rattle.pssm_acts.specs.declared.read_blocks.Blocks.{Blocks}
use Rattle.pssm_acts.specs.declared.read_blocks.OpenIf.{OpenIf}
use Rattle.pssm_acts.specs.declared.acts_reader.Turn.TheVariants.{Begins, Condition, Chosen, Else}
use Rattle.pssm_acts.specs.declared.guard_reader.Bracket.{Bracket}
use Rattle.pssm_acts.specs.declared.guard_reader.Stage.{Stage}
use Rattle.pssm_acts.specs.declared.guard_reader.GuardReader.{GuardReader}
use Rattle.pssm_semantics.specs.declared.setting.Names.{Names}
use Rattle.pssm_acts.specs.declared.token.Kind.{Kind}
use Rattle.pssm_acts.specs.declared.token.Kind.TheVariants as kinds
use Rattle.pssm_semantics.specs.declared.tree.Act.{Act}
use Rattle.pssm_semantics.specs.declared.tree.Cond.{Cond}
use Rattle.pssm_semantics.specs.declared.tree.Stmt.{Stmt}
use Rattle.pssm_semantics.specs.declared.tree.Stmt.TheViews as stmts
use Rattle.pssm_acts.specs.Tokens.{Token}
use Rattle.pssm_acts.specs.inner.ExprReading.{and_then}
use Rattle.pssm_acts.specs.inner.GuardReading.{disjunction_of, fresh_guard, guard_step, guard_value}
use Rattle.pssm_acts.specs.inner.PhraseReading.{beside}
use Rattle.pssm_acts.specs.inner.ActReading.{ActsState, acts_steps_in, at_turn, with_act, fresh_blocks, fresh_acts, block_opened, statement_counted, next_act, begun_at, else_opened, condition_read, acts_step}
use Rattle.pssm_acts.specs.Grammar.{Either}
use Rattle.pssm_acts.specs.Shapes.{GuardShape, StmtsShape, nothing, phrase, choice, alternative, StepsShape, first, step}
use Rattle.pssm_acts.proofs.GuardRead.{guard_at, ends_guard}
use Rattle.pssm_acts.proofs.PhraseRead.{Standing, begins, chosen, taken, counted}
use Rattle.pssm_acts.proofs.BlockRead.{blocks_at, opened, guard_stops, condition_goes, if_begins, first_opens, first_closes, else_begins, other_opens, other_closes}
use Rattle.pssm_acts.proofs.ActRead.{step_begins, behind_step}
use Rattle.pssm_acts.proofs.Fares.{IsOther, Fares, arrives, goes, stops, Among, fares_to, fares_as, fares_part}
use Rattle.pssm_acts.proofs.GuardFares.{chain_read, guard_fares}
use Rattle.pssm_acts.proofs.PhraseFares.{StmtsRead, stmts_state, untaken, phrase_fares}

-- ---- the condition of an `if`

condition_refuses : (names : Names) (stepped : Bool) (marks : List (List ℕ)) (blocks : Blocks) (outer : List Bracket) (either : Option Cond) (stage : Stage) (fault : ActFault) (kind : Kind) (at : ℕ) (word : List ℕ)
    → guard_step names (16 - length blocks.outer) (guard_at outer either stage) (record { at = at; kind = kind; word = word }) ≡ Err fault → IsOther fault
    → acts_step names stepped marks (at_turn blocks (Condition (guard_at outer either stage))) (record { at = at; kind = kind; word = word }) ≡ Err fault
unfolding acts_step condition_read
condition_refuses names stepped marks blocks outer either stage fault kinds.OpenBrace at word refused other =
    let stops' : guard_step names (16 - length blocks.outer) (guard_at outer either stage) (record { at = at; kind = kinds.OpenBrace; word = word }) ≡ Err (Syntax at) = guard_stops names (16 - length blocks.outer) outer either stage at word in
    let same : Syntax at ≡ fault = cc in
    absurd (subst IsOther (sym same) other)
condition_refuses names stepped marks blocks outer either stage fault kind at word refused other = ap (λ x. beside marks (and_then x (λ more. Ok (at_turn blocks (Condition more))))) refused

condition_fares : {cs : List Token} (names : Names) (stepped : Bool) (marks : List (List ℕ)) (blocks : Blocks) → GuardShape Either cs
    → Fares (acts_steps_in names stepped) (Among (λ p. (at_turn blocks (Condition (chain_read [] p)), marks))) (at_turn blocks (Condition fresh_guard), marks) cs
condition_fares names stepped marks blocks shape =
    fares_part (λ m. (at_turn blocks (Condition m), marks)) (chain_read [])
    (λ s n t step. condition_goes names stepped marks blocks s.outer s.either s.stage n t.kind t.at t.word step)
    (λ s t fault step other. condition_refuses names stepped marks blocks s.outer s.either s.stage fault t.kind t.at t.word step other)
    (guard_fares names (16 - length blocks.outer) [] shape)

-- ---- the tokens round blocks

module _ (names : Names) (stepped : Bool) (blocks : Blocks) (t : Token) where
  many_if : t.kind ≡ kinds.If → ltb blocks.begun 64 ≡ false → begun_at names stepped blocks t ≡ Err (TooLong t.at)
  unfolding begun_at statement_counted
  many_if is many = simp (is, many) refl

  deep_first : (marks : List (List ℕ)) (guard : GuardReader) (c : Cond) → t.kind ≡ kinds.OpenBrace → guard_value guard t.at ≡ Ok c → ltb (length blocks.outer) 16 ≡ false
      → acts_step names stepped marks (at_turn blocks (Condition guard)) t ≡ Err (TooLong t.at)
  unfolding acts_step condition_read block_opened
  deep_first marks guard c is ends deep = simp (is, ends, deep) refl

  deep_other : (marks : List (List ℕ)) (c : Cond) (body : List Stmt) → t.kind ≡ kinds.OpenBrace → ltb (length blocks.outer) 16 ≡ false → acts_step names stepped marks (at_turn blocks (Else c body)) t ≡ Err (TooLong t.at)
  unfolding acts_step else_opened block_opened
  deep_other marks c body is deep = simp (is, deep) refl

module _ (names : Names) (stepped : Bool) (Goal : ActsState → Type 0) (marks : List (List ℕ)) (rest : List Token) (t : Token) where
  if_fares : (n : ActsReader) (blocks : Blocks) → Standing n blocks → t.kind ≡ kinds.If → Fares (acts_steps_in names stepped) Goal (at_turn (counted blocks) (Condition fresh_guard), marks) rest
      → Fares (acts_steps_in names stepped) Goal (n, marks) (t ∷ rest)
  if_fares n blocks stands is further = go (ltb blocks.begun 64) refl where
    go : (b : Bool) → ltb blocks.begun 64 ≡ b → Fares (acts_steps_in names stepped) Goal (n, marks) (t ∷ rest)
    go true e = goes (taken names stepped marks t stands (rw is tt) (if_begins names stepped marks t blocks (ltb-true blocks.begun 64 e) is)) further
    go false e = stops (TooLong t.at) (untaken names stepped marks t (TooLong t.at) stands (rw is tt) (many_if names stepped blocks t is e)) tt

  first_fares : (blocks : Blocks) (guard : GuardReader) (c : Cond) → t.kind ≡ kinds.OpenBrace → guard_value guard t.at ≡ Ok c → Fares (acts_steps_in names stepped) Goal (at_turn (opened blocks c None) Begins, marks) rest
      → Fares (acts_steps_in names stepped) Goal (at_turn blocks (Condition guard), marks) (t ∷ rest)
  first_fares blocks guard c is ends further = go (ltb (length blocks.outer) 16) refl where
    go : (b : Bool) → ltb (length blocks.outer) 16 ≡ b → Fares (acts_steps_in names stepped) Goal (at_turn blocks (Condition guard), marks) (t ∷ rest)
    go true e = goes (first_opens names stepped marks t blocks guard c (ltb-true (length blocks.outer) 16 e) is ends) further
    go false e = stops (TooLong t.at) (deep_first names stepped blocks t marks guard c is ends e) tt

  other_fares : (blocks : Blocks) (c : Cond) (body : List Stmt) → t.kind ≡ kinds.OpenBrace → Fares (acts_steps_in names stepped) Goal (at_turn (opened blocks c (Some body)) Begins, marks) rest
      → Fares (acts_steps_in names stepped) Goal (at_turn blocks (Else c body), marks) (t ∷ rest)
  other_fares blocks c body is further = go (ltb (length blocks.outer) 16) refl where
    go : (b : Bool) → ltb (length blocks.outer) 16 ≡ b → Fares (acts_steps_in names stepped) Goal (at_turn blocks (Else c body), marks) (t ∷ rest)
    go true e = goes (other_opens names stepped marks t blocks c body (ltb-true (length blocks.outer) 16 e) is) further
    go false e = stops (TooLong t.at) (deep_other names stepped blocks t marks c body is e) tt

-- ---- statements

-- an `if` of which the first block has been read
abbrev chosen_read : (earlier : List Act) (outer : List OpenIf) (before : List Stmt) (c : Cond) → StmtsRead earlier (record { before = before; condition = c; body = None } ∷ outer) → StmtsRead earlier outer
chosen_read earlier outer before c r =
    record { block = before ++ stmts.Choose c r.block None ∷ []; begun = r.begun; reader = at_turn (blocks_at earlier outer before r.begun) (Chosen c r.block); marks = r.marks; stands = chosen }

-- an `if` of which both blocks have been read
abbrev other_read : (earlier : List Act) (outer : List OpenIf) (before body : List Stmt) (c : Cond) → StmtsRead earlier (record { before = before; condition = c; body = Some body } ∷ outer) → StmtsRead earlier outer
other_read earlier outer before body c r =
    record { block = before ++ stmts.Choose c body (Some r.block) ∷ []; begun = r.begun; reader = at_turn (blocks_at earlier outer (before ++ stmts.Choose c body (Some r.block) ∷ []) r.begun) Begins; marks = r.marks; stands = begins }

abbrev StmtsFares : Names → Bool → List Act → List Token → Type 0
StmtsFares names stepped earlier ts = (outer : List OpenIf) (begun : ℕ) (marks : List (List ℕ)) → Fares (acts_steps_in names stepped) (Among (stmts_state earlier outer)) (at_turn (blocks_at earlier outer [] begun) Begins, marks) ts

module _ (names : Names) (stepped : Bool) (earlier : List Act) where
  -- an `if` from its first token to the end of its first block, and what stands behind it
  choice_fares : {cs us rest : List Token} (Goal : ActsState → Type 0) (outer : List OpenIf) (r : StmtsRead earlier outer) (if' opening closing : Token) → if'.kind ≡ kinds.If → GuardShape Either cs → opening.kind ≡ kinds.OpenBrace
      → StmtsFares names stepped earlier us → closing.kind ≡ kinds.CloseBrace
      → ((c : Cond) (b : StmtsRead earlier (record { before = r.block; condition = c; body = None } ∷ outer)) → Fares (acts_steps_in names stepped) Goal (at_turn (blocks_at earlier outer r.block b.begun) (Chosen c b.block), b.marks) rest)
      → Fares (acts_steps_in names stepped) Goal (r.reader, r.marks) (if' ∷ (cs ++ opening ∷ (us ++ closing ∷ rest)))
  choice_fares {cs} {us} {rest} Goal outer r if' opening closing is shape opens inner closes further =
      let blocks : Blocks = blocks_at earlier outer r.block (r.begun + 1) in
      if_fares names stepped Goal r.marks (cs ++ opening ∷ (us ++ closing ∷ rest)) if' r.reader (blocks_at earlier outer r.block r.begun) r.stands is
      (fares_to (λ p. (at_turn blocks (Condition (chain_read [] p)), r.marks)) (condition_fares names stepped r.marks blocks shape)
      (λ p.
      let c : Cond = disjunction_of p.0 p.1.cond in
      let inside : List OpenIf = record { before = r.block; condition = c; body = None } ∷ outer in
      first_fares names stepped Goal r.marks (us ++ closing ∷ rest) opening blocks (chain_read [] p) c opens (ends_guard opening.at p.0 p.1.stage p.1.cond p.1.stands)
      (fares_to (stmts_state earlier inside) (inner inside (r.begun + 1) r.marks)
      (λ b. goes (taken names stepped b.marks closing b.stands (rw closes tt) (first_closes names stepped b.marks closing earlier outer r.block b.block c b.begun closes)) (further c b)))))

  pub stmts_fares : {ts : List Token} → StmtsShape ts → StmtsFares names stepped earlier ts
  stmts_fares nothing = λ outer begun marks. arrives (record { block = []; begun = begun; reader = at_turn (blocks_at earlier outer [] begun) Begins; marks = marks; stands = begins }, refl)
  stmts_fares (phrase {ts} {us} front shape) = λ outer begun marks.
      let before : StmtsFares names stepped earlier ts = stmts_fares front in
      fares_to (stmts_state earlier outer) (before outer begun marks) (λ r. phrase_fares names stepped earlier outer r shape)
  stmts_fares (choice {ts} {cs} {us} if' opening closing front is shape opens inner closes) = λ outer begun marks.
      let before : StmtsFares names stepped earlier ts = stmts_fares front in
      let body : StmtsFares names stepped earlier us = stmts_fares inner in
      fares_to (stmts_state earlier outer) (before outer begun marks)
      (λ r. choice_fares (Among (stmts_state earlier outer)) outer r if' opening closing is shape opens body closes (λ c b. arrives (chosen_read earlier outer r.block c b, refl)))
  stmts_fares (alternative {ts} {cs} {us} {vs} if' opening closing else' opening' closing' front is shape opens inner closes elses opens' other closes') = λ outer begun marks.
      let before : StmtsFares names stepped earlier ts = stmts_fares front in
      let body : StmtsFares names stepped earlier us = stmts_fares inner in
      let second : StmtsFares names stepped earlier vs = stmts_fares other in
      let Goal = Among (stmts_state earlier outer) in
      fares_to (stmts_state earlier outer) (before outer begun marks)
      (λ r. choice_fares Goal outer r if' opening closing is shape opens body closes
      (λ c b.
      let blocks : Blocks = blocks_at earlier outer r.block b.begun in
      let inside : List OpenIf = record { before = r.block; condition = c; body = Some b.block } ∷ outer in
      goes (else_begins names stepped b.marks else' blocks c b.block elses)
      (other_fares names stepped Goal b.marks (vs ++ closing' ∷ []) opening' blocks c b.block opens'
      (fares_to (stmts_state earlier inside) (second inside b.begun b.marks)
      (λ d. goes (taken names stepped d.marks closing' d.stands (rw closes' tt) (other_closes names stepped d.marks closing' earlier outer r.block b.block d.block c d.begun closes')) (arrives (other_read earlier outer r.block b.block c d, refl)))))))

-- ---- steps

-- steps have been read
pub record StepsRead : Type 0 where
  pub earlier : List Act
  pub last : StmtsRead earlier []

abbrev pub steps_state : StepsRead → ActsState
steps_state r = (r.last.reader, r.last.marks)

many_steps : (names : Names) (earlier : List Act) (block : List Stmt) (total : ℕ) (t : Token) → ltb (length earlier + 1) 64 ≡ false → t.kind ≡ kinds.Step → begun_at names true (blocks_at earlier [] block total) t ≡ Err (TooLong t.at)
unfolding begun_at next_act
many_steps names earlier block total t many is = simp (is, many) refl

step_fares : (names : Names) (rest : List Token) (t semicolon : Token) (r : StepsRead) → t.kind ≡ kinds.Step → semicolon.kind ≡ kinds.Semicolon
    → ((earlier : List Act) (marks : List (List ℕ)) → Fares (acts_steps_in names true) (Among steps_state) (at_turn (blocks_at earlier [] [] 0) Begins, marks) rest)
    → Fares (acts_steps_in names true) (Among steps_state) (steps_state r) (t ∷ semicolon ∷ rest)
step_fares names rest t semicolon r is ends further = go (ltb (length r.earlier + 1) 64) refl where
  go : (b : Bool) → ltb (length r.earlier + 1) 64 ≡ b → Fares (acts_steps_in names true) (Among steps_state) (steps_state r) (t ∷ semicolon ∷ rest)
  go true e =
      goes (taken names true r.last.marks t r.last.stands (rw is tt) (step_begins names r.earlier r.last.block r.last.begun t (ltb-true (length r.earlier + 1) 64 e) is))
      (goes (behind_step names r.last.marks (fresh_blocks (with_act r.earlier r.last.block)) semicolon ends) (further (with_act r.earlier r.last.block) r.last.marks))
  go false e = stops (TooLong t.at) (untaken names true r.last.marks t (TooLong t.at) r.last.stands (rw is tt) (many_steps names r.earlier r.last.block r.last.begun t e is)) tt

-- a behaviour behind others
lone_fares : {ts : List Token} (names : Names) (earlier : List Act) (marks : List (List ℕ)) → StmtsShape ts → Fares (acts_steps_in names true) (Among steps_state) (at_turn (blocks_at earlier [] [] 0) Begins, marks) ts
lone_fares names earlier marks shape = fares_as (stmts_fares names true earlier shape [] 0 marks) (λ n goal. (record { earlier = earlier; last = goal.0 }, goal.1))

pub steps_fares : {ts : List Token} (names : Names) (marks : List (List ℕ)) → StepsShape ts → Fares (acts_steps_in names true) (Among steps_state) (fresh_acts, marks) ts
steps_fares names marks (first shape) = lone_fares names [] marks shape
steps_fares names marks (step {ts} {us} step' semicolon front is ends shape) =
    fares_to steps_state (steps_fares names marks front) (λ r. step_fares names us step' semicolon r is ends (λ earlier noted. lone_fares names earlier noted shape))

-- Tokens of the shape of one behaviour are not refused for it.
pub behaviour_fares : {ts : List Token} (names : Names) (stepped : Bool) (marks : List (List ℕ)) → StmtsShape ts → Fares (acts_steps_in names stepped) (Among (stmts_state [] [])) (fresh_acts, marks) ts
behaviour_fares names stepped marks shape = stmts_fares names stepped [] shape [] 0 marks
