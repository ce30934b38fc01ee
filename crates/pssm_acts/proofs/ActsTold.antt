-- What a step of behaviours says of its token.
use Rattle.std.proofs.Common.{◌≡◌, ◌≤◌, ◌+◌, ◌-◌, ◌<◌, ℕ, suc, Bool, true, false, ltb, List, [], ◌∷◌, length, Option, Some, None, Result, Ok, refl, ap, arith, position, bytes_eq, length-append}
use Rattle.std.proofs.lemmas.Bool.{ltb-true, ltb-false}
use Rattle.pssm_acts.specs.declared.act_fault.ActFault.{ActFault}
use Rattle.pssm_acts.specs.declared.act_fault.ActFault.TheVariants.{TooLong}
use Rattle.pssm_acts.specs.declared.acts_reader.ActsReader.{ActsReader}
use Rattle.pssm_acts.specs.declared.read_blocks.Blocks.{Blocks}
use Rattle.pssm_acts.specs.declared.read_blocks.OpenIf.{OpenIf}
use Rattle.pssm_acts.specs.declared.acts_reader.Turn.{Turn}
use Rattle.pssm_acts.specs.declared.acts_reader.Turn.TheVariants.{Begins, Within, Condition, Chosen, Else}
use Rattle.pssm_acts.specs.declared.acts_reader.Turn.TheVariants as turns
use Rattle.pssm_acts.specs.declared.guard_reader.GuardReader.{GuardReader}
use Rattle.pssm_acts.specs.declared.phrase_reader.Phrase.TheVariants.{Variable}
use Rattle.pssm_acts.specs.declared.phrase_reader.Phrase.TheVariants as phrases
use Rattle.pssm_acts.specs.declared.phrase_reader.Phrased.{Phrased}
use Rattle.pssm_acts.specs.declared.phrase_reader.Phrased.TheVariants.{Goes, Ends}
use Rattle.pssm_semantics.specs.declared.setting.Names.{Names}
use Rattle.pssm_acts.specs.declared.token.Kind.{Kind}
use Rattle.pssm_acts.specs.declared.token.Kind.TheVariants as kinds
use Rattle.pssm_semantics.specs.declared.tree.Cond.{Cond}
use Rattle.pssm_semantics.specs.declared.tree.Stmt.{Stmt}
use Rattle.pssm_acts.specs.inner.ActReading.{block_opened, if_closed, block_closed_in, block_closed, statement_counted, next_act_in, next_act, begun_by, begun_at, after_choice_by, after_choice, else_opened_by, else_opened, condition_read_by, condition_read, phrased, phrase_read, step_taken_by, step_taken, acts_step}
use Rattle.pssm_acts.specs.inner.ExprReading.{and_then}
use Rattle.pssm_acts.specs.inner.GuardReading.{fresh_guard, guard_step, guard_value}
use Rattle.pssm_acts.specs.inner.PhraseReading.{beside, variable_begun, phrase_begun, phrase_step}
use Rattle.pssm_acts.specs.TextFaults.{Place, Statement, Operand}
use Rattle.pssm_acts.specs.Tokens.{Token}
use Rattle.pssm_acts.proofs.ExprHeld.{token_as}
use Rattle.pssm_acts.proofs.ExprTold.{guard_levels, guard_told, guard_ends_told}
use Rattle.pssm_acts.proofs.PhraseTold.{phrase_place, phrase_levels, begun_in, IsProper, PhraseNext, Miscounts, phrase_told}
use Rattle.pssm_acts.proofs.Tallies.{Tally, tally_behind, operand, same_tally, Fits, taken_fits, level, statement, step, IsFaultOf, KnownSignals, told_then, told_if}

abbrev pub turn_place : Turn → Place
turn_place Begins = Statement
turn_place (Within phrase) = phrase_place phrase
turn_place (Chosen c body) = Statement
turn_place turn = Operand

abbrev pub turn_levels : Turn → ℕ → ℕ
turn_levels (Within phrase) base = phrase_levels phrase base
turn_levels (Condition guard) base = guard_levels guard base
turn_levels turn base = base

abbrev pub turn_begun : Turn → ℕ → ℕ
turn_begun (Within phrase) begun = begun_in phrase begun
turn_begun turn begun = begun

abbrev pub IsProperTurn : Turn → ℕ → Type 0
IsProperTurn (Within phrase) begun = IsProper phrase begun
IsProperTurn turn begun = Unit {0}

-- what the tokens come to that have been read of behaviours
abbrev pub turn_tally : Turn → Blocks → Tally
turn_tally turn blocks = record { place = turn_place turn; levels = turn_levels turn (length blocks.outer); begun = turn_begun turn blocks.begun; steps = length blocks.earlier }

abbrev pub state_tally : ActsReader → Tally
state_tally reader = turn_tally reader.turn reader.blocks

abbrev pub IsProperState : ActsReader → Type 0
IsProperState reader = IsProperTurn reader.turn reader.blocks.begun

-- The token fits, and with it the tokens come to what this state tells.
abbrev pub ActsNext : Kind → Names → List ℕ → Tally → ActsReader → Type 0
ActsNext kind names word c reader = Fits kind names word c × (tally_behind kind c ≡ state_tally reader) × IsProperState reader

-- where a statement may begin
abbrev beginning : Blocks → Tally
beginning blocks = record { place = Statement; levels = length blocks.outer; begun = blocks.begun; steps = length blocks.earlier }

module _ (Wrong : Type 0) (names : Names) where
  opens_told : (blocks : Blocks) (c : Cond) (body : Option (List Stmt)) (l : ℕ) → l ≡ length blocks.outer → (at : ℕ) (word : List ℕ)
      → KnownSignals (ActsNext kinds.OpenBrace names word (operand l blocks.begun (length blocks.earlier))) Wrong names (token_as at kinds.OpenBrace word) (operand l blocks.begun (length blocks.earlier)) (block_opened blocks c body at)
  unfolding block_opened
  opens_told blocks c body l is at word =
      told_if Wrong names (token_as at kinds.OpenBrace word) (operand l blocks.begun (length blocks.earlier)) _ (ltb (length blocks.outer) 16) _ _
      (λ e. (omega (arith, is, ltb-true (length blocks.outer) 16 e), same_tally (ap suc is) refl refl, tt)) (λ e. (refl, level tt (omega (arith, is, ltb-false (length blocks.outer) 16 e))))

  brace_told : (outer : List OpenIf) (blocks : Blocks) (at : ℕ) (word : List ℕ)
      → let c : Tally = record { place = Statement; levels = length outer; begun = blocks.begun; steps = length blocks.earlier } in
      KnownSignals (ActsNext kinds.CloseBrace names word c) Wrong names (token_as at kinds.CloseBrace word) c (block_closed_in outer blocks at)
  brace_told [] blocks at word = refl
  brace_told (first ∷ outer) blocks at word = go first.body where
    go : (body : Option (List Stmt))
        → ActsNext kinds.CloseBrace names word (record { place = Statement; levels = suc (length outer); begun = blocks.begun; steps = length blocks.earlier })
        (if_closed body (record { earlier = blocks.earlier; outer = outer; stmts = first.before; begun = blocks.begun }) first.condition blocks.stmts)
    go None = (tt, same_tally (omega arith) refl refl, tt)
    go (Some body) = (tt, same_tally (omega arith) refl refl, tt)

  step_told : (stepped : Bool) (outer : List OpenIf) (blocks : Blocks) (at : ℕ) (word : List ℕ)
      → let c : Tally = record { place = Statement; levels = length outer; begun = blocks.begun; steps = length blocks.earlier } in
      KnownSignals (ActsNext kinds.Step names word c) Wrong names (token_as at kinds.Step word) c (next_act_in stepped outer blocks at)
  step_told true [] blocks at word =
      told_if Wrong names (token_as at kinds.Step word) (record { place = Statement; levels = 0; begun = blocks.begun; steps = length blocks.earlier }) _ (ltb (length blocks.earlier + 1) 64) _ _
      (λ e. (omega (arith, ltb-true (length blocks.earlier + 1) 64 e), same_tally refl refl (omega (arith, length-append blocks.earlier (record { stmts = blocks.stmts } ∷ []))), tt))
      (λ e. (refl, step refl (omega (arith, ltb-false (length blocks.earlier + 1) 64 e))))
  step_told true (first ∷ outer) blocks at word = refl
  step_told false outer blocks at word = refl

  -- a word or a variable begins a statement
  counts_told : (blocks : Blocks) (t : Token) (IsNext : Blocks → Type 0) → (64 ≤ blocks.begun → IsFaultOf (TooLong t.at) Wrong names t (beginning blocks))
      → (blocks.begun < 64 → IsNext (record { earlier = blocks.earlier; outer = blocks.outer; stmts = blocks.stmts; begun = blocks.begun + 1 })) → KnownSignals IsNext Wrong names t (beginning blocks) (statement_counted blocks t.at)
  unfolding statement_counted
  counts_told blocks t IsNext many few =
      told_if Wrong names t (beginning blocks) _ (ltb blocks.begun 64) _ _ (λ e. few (ltb-true blocks.begun 64 e)) (λ e. many (ltb-false blocks.begun 64 e))

  more_begun : (blocks : Blocks) → suc blocks.begun ≡ blocks.begun + 1
  more_begun blocks = omega arith

  variable_told : (blocks : Blocks) (at : ℕ) (word : List ℕ) (found : Option ℕ) → position (λ n. bytes_eq n word) names.vars ≡ found
      → KnownSignals (ActsNext kinds.Name names word (beginning blocks)) Wrong names (token_as at kinds.Name word) (beginning blocks)
      (and_then (variable_begun at found) (λ phrase. and_then (statement_counted blocks at) (λ more. Ok (record { blocks = more; turn = Within phrase }))))
  variable_told blocks at word (Some x) e =
      told_then Wrong names (token_as at kinds.Name word) (beginning blocks) _ _ (statement_counted blocks at) _
      (counts_told blocks (token_as at kinds.Name word) (λ more. ActsNext kinds.Name names word (beginning blocks) (record { blocks = more; turn = Within (Variable x) }))
      (λ many. (refl, statement (λ none. absurd cc) many)) (λ few. (((λ none. absurd cc), λ is. few), same_tally refl (omega arith) refl, omega arith)))
      (λ more h. h)
  variable_told blocks at word None e = (refl, refl, e)

  begins_told : (stepped : Bool) (blocks : Blocks) (kind : Kind) (at : ℕ) (word : List ℕ)
      → KnownSignals (ActsNext kind names word (beginning blocks)) Wrong names (token_as at kind word) (beginning blocks) (begun_by kind names stepped blocks (token_as at kind word))
  unfolding block_closed next_act phrase_begun
  begins_told stepped blocks kinds.CloseBrace at word = brace_told blocks.outer blocks at word
  begins_told stepped blocks kinds.Step at word = step_told stepped blocks.outer blocks at word
  begins_told stepped blocks kinds.If at word =
      told_then Wrong names (token_as at kinds.If word) (beginning blocks) _ _ (statement_counted blocks at) _
      (counts_told blocks (token_as at kinds.If word) (λ more. ActsNext kinds.If names word (beginning blocks) (record { blocks = more; turn = Condition fresh_guard }))
      (λ many. (refl, statement tt many)) (λ few. (few, same_tally refl (more_begun blocks) refl, tt)))
      (λ more h. h)
  begins_told stepped blocks kinds.Send at word =
      told_then Wrong names (token_as at kinds.Send word) (beginning blocks) _ _ (statement_counted blocks at) _
      (counts_told blocks (token_as at kinds.Send word) (λ more. ActsNext kinds.Send names word (beginning blocks) (record { blocks = more; turn = Within phrases.Send }))
      (λ many. (refl, statement tt many)) (λ few. (few, same_tally refl (more_begun blocks) refl, tt)))
      (λ more h. h)
  begins_told stepped blocks kinds.Mark at word =
      told_then Wrong names (token_as at kinds.Mark word) (beginning blocks) _ _ (statement_counted blocks at) _
      (counts_told blocks (token_as at kinds.Mark word) (λ more. ActsNext kinds.Mark names word (beginning blocks) (record { blocks = more; turn = Within phrases.Mark }))
      (λ many. (refl, statement tt many)) (λ few. (few, same_tally refl (more_begun blocks) refl, tt)))
      (λ more h. h)
  begins_told stepped blocks kinds.Name at word = variable_told blocks at word (position (λ n. bytes_eq n word) names.vars) refl
  begins_told stepped blocks kind at word = refl

  choice_told : (stepped : Bool) (blocks : Blocks) (c : Cond) (body : List Stmt) (kind : Kind) (at : ℕ) (word : List ℕ)
      → KnownSignals (ActsNext kind names word (beginning blocks)) Wrong names (token_as at kind word) (beginning blocks) (after_choice_by kind names stepped blocks c body (token_as at kind word))
  unfolding begun_at
  choice_told stepped blocks c body kinds.Else at word = (tt, refl, tt)
  choice_told stepped blocks c body kind at word = begins_told stepped _ kind at word

  else_told : (blocks : Blocks) (c : Cond) (body : List Stmt) (kind : Kind) (at : ℕ) (word : List ℕ)
      → KnownSignals (ActsNext kind names word (turn_tally (Else c body) blocks)) Wrong names (token_as at kind word) (turn_tally (Else c body) blocks) (else_opened_by kind blocks c body at)
  else_told blocks c body kinds.OpenBrace at word = opens_told blocks c (Some body) (length blocks.outer) refl at word
  else_told blocks c body kind at word = refl

  condition_told : (blocks : Blocks) (guard : GuardReader) (kind : Kind) (at : ℕ) (word : List ℕ)
      → KnownSignals (ActsNext kind names word (turn_tally (Condition guard) blocks)) Wrong names (token_as at kind word) (turn_tally (Condition guard) blocks) (condition_read_by kind names blocks guard (token_as at kind word))
  condition_told blocks guard kinds.OpenBrace at word =
      told_then Wrong names (token_as at kinds.OpenBrace word) (turn_tally (Condition guard) blocks) _ _ (guard_value guard at) _ (guard_ends_told Wrong names (token_as at kinds.OpenBrace word) (turn_tally (Condition guard) blocks) guard)
      (λ c none. opens_told blocks c None (guard_levels guard (length blocks.outer)) (none (length blocks.outer)) at word)
  condition_told blocks guard kind at word =
      told_then Wrong names (token_as at kind word) (turn_tally (Condition guard) blocks) _ _ (guard_step names (16 - length blocks.outer) guard (token_as at kind word)) _
      (guard_told Wrong names (16 - length blocks.outer) (length blocks.outer) blocks.begun (length blocks.earlier) refl guard kind at word)
      (λ more h. let fits = taken_fits names word (guard_levels guard (length blocks.outer)) (guard_levels more (length blocks.outer)) blocks.begun (length blocks.earlier) kind h in (fits.0, fits.1, tt))

  taken_told : (blocks : Blocks) (kind : Kind) (at : ℕ) (word : List ℕ)
      → KnownSignals (ActsNext kind names word (turn_tally turns.Step blocks)) Wrong names (token_as at kind word) (turn_tally turns.Step blocks) (step_taken_by kind blocks at)
  taken_told blocks kinds.Semicolon at word = (tt, refl, tt)
  taken_told blocks kind at word = refl

  phrased_next : (blocks : Blocks) (kind : Kind) (word : List ℕ) (c : Tally) (next : Phrased) → PhraseNext kind names word c (length blocks.outer) blocks.begun (length blocks.earlier) next → ActsNext kind names word c (phrased blocks next)
  phrased_next blocks kind word c (Goes phrase) h = h
  phrased_next blocks kind word c (Ends stmt) h = (h.0, h.1, tt)

  aside : (kind : Kind) (at : ℕ) (word : List ℕ) (c : Tally) (marks : List (List ℕ)) (x : Result ActsReader ActFault) → KnownSignals (ActsNext kind names word c) Wrong names (token_as at kind word) c x
      → KnownSignals (λ (n : ActsReader × List (List ℕ)). ActsNext kind names word c n.0) Wrong names (token_as at kind word) c (beside marks x)
  aside kind at word c marks x h = told_then Wrong names (token_as at kind word) c _ _ x (λ next. Ok (next, marks)) h (λ next is. is)

-- The arguments of a send or a mark end with the token, and are not as many as they should be.
abbrev pub MiscountsAt : Turn → Names → Blocks → Token → Type 0
MiscountsAt (Within phrase) names blocks t = Miscounts phrase names (length blocks.outer) t
MiscountsAt turn names blocks t = ⊥

turn_told : (names : Names) (stepped : Bool) (marks : List (List ℕ)) (blocks : Blocks) (turn : Turn) → IsProperTurn turn blocks.begun → (kind : Kind) (at : ℕ) (word : List ℕ)
    → KnownSignals (λ (n : ActsReader × List (List ℕ)). ActsNext kind names word (turn_tally turn blocks) n.0) (MiscountsAt turn names blocks (token_as at kind word)) names (token_as at kind word) (turn_tally turn blocks)
    (acts_step names stepped marks (record { blocks = blocks; turn = turn }) (token_as at kind word))
unfolding acts_step begun_at phrase_read condition_read after_choice else_opened step_taken
turn_told names stepped marks blocks Begins some kind at word =
    aside ⊥ names kind at word (turn_tally Begins blocks) marks (begun_by kind names stepped blocks (token_as at kind word)) (begins_told ⊥ names stepped blocks kind at word)
turn_told names stepped marks blocks (Within phrase) some kind at word =
    let t = token_as at kind word in
    let Wrong = Miscounts phrase names (length blocks.outer) t in
    told_then Wrong names t (turn_tally (Within phrase) blocks) _ _ (phrase_step names (16 - length blocks.outer) marks phrase t) _
    (phrase_told names (length blocks.outer) blocks.begun (length blocks.earlier) marks phrase some kind at word) (λ next h. phrased_next Wrong names blocks kind word (turn_tally (Within phrase) blocks) next.0 h)
turn_told names stepped marks blocks (Condition guard) some kind at word =
    aside ⊥ names kind at word (turn_tally (Condition guard) blocks) marks (condition_read_by kind names blocks guard (token_as at kind word)) (condition_told ⊥ names blocks guard kind at word)
turn_told names stepped marks blocks (Chosen c body) some kind at word =
    aside ⊥ names kind at word (turn_tally (Chosen c body) blocks) marks (after_choice_by kind names stepped blocks c body (token_as at kind word)) (choice_told ⊥ names stepped blocks c body kind at word)
turn_told names stepped marks blocks (Else c body) some kind at word =
    aside ⊥ names kind at word (turn_tally (Else c body) blocks) marks (else_opened_by kind blocks c body at) (else_told ⊥ names blocks c body kind at word)
turn_told names stepped marks blocks turns.Step some kind at word = aside ⊥ names kind at word (turn_tally turns.Step blocks) marks (step_taken_by kind blocks at) (taken_told ⊥ names blocks kind at word)

-- What a step of behaviours says.
pub acts_told : (names : Names) (stepped : Bool) (marks : List (List ℕ)) (reader : ActsReader) (t : Token) → IsProperState reader
    → KnownSignals (λ (n : ActsReader × List (List ℕ)). ActsNext t.kind names t.word (state_tally reader) n.0) (MiscountsAt reader.turn names reader.blocks t) names t (state_tally reader) (acts_step names stepped marks reader t)
acts_told names stepped marks reader t some = turn_told names stepped marks reader.blocks reader.turn some t.kind t.at t.word
