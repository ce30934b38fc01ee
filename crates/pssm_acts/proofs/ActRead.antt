-- Whatever spells behaviours is read as those behaviours.
use Rattle.std.proofs.Common.{◌≡◌, ◌≤◌, ◌+◌, ◌<◌, ℕ, Bool, true, false, List, [], ◌∷◌, ◌++◌, length, Ok, refl, sym, ap, ◌∙◌, arith}
use Rattle.std.proofs.lemmas.Bool.{lt-ltb, le-ltb}
use Rattle.std.proofs.lemmas.List.{length-append}
use Rattle.pssm_acts.specs.declared.acts_reader.ActsReader.{ActsReader}
use Rattle.pssm_acts.specs.declared.read_blocks.Blocks.{Blocks}
use Rattle.pssm_acts.specs.declared.acts_reader.ReadActs.{ReadActs}
use Rattle.pssm_acts.specs.declared.acts_reader.Turn.TheVariants.{Begins}
use Rattle.pssm_acts.specs.declared.acts_reader.Turn.TheVariants as turns
use Rattle.pssm_semantics.specs.declared.setting.Names.{Names}
use Rattle.pssm_acts.specs.declared.token.Kind.TheVariants as kinds
use Rattle.pssm_semantics.specs.declared.tree.Act.{Act}
use Rattle.pssm_semantics.specs.declared.tree.Stmt.{Stmt}
use Rattle.pssm_acts.specs.Tokens.{Token, tokens_of}
use Rattle.pssm_acts.specs.inner.ExprReading.{and_then}
use Rattle.pssm_acts.specs.inner.PhraseReading.{beside}
use Rattle.pssm_acts.specs.inner.ActReading.{fresh_acts, fresh_blocks, at_turn, with_act, next_act, begun_at, step_taken, acts_step, whole_acts, acts_value, acts_worth, acts_read, acts_reading, act_reading, steps_reading}
use Rattle.pssm_acts.specs.ActGrammar.{SpellsBehaviour, SpellsBehaviours, first, step, SpellsAct, SpellsSteps}
use Rattle.pssm_acts.proofs.ActRun.{Runs}
use Rattle.pssm_acts.proofs.Readers.{next, onward, through}
use Rattle.pssm_acts.proofs.PhraseRead.{Standing, begins, chosen, taken}
use Rattle.pssm_acts.proofs.BlockRead.{blocks_at, ReadsBlock, reads_block}

-- ---- the end of a behaviour

pub stands_value : (n : ActsReader) (blocks : Blocks) (end : ℕ) → Standing n blocks → acts_value n end ≡ whole_acts blocks end
unfolding acts_value
stands_value n blocks end begins = refl
stands_value n blocks end chosen = refl

pub whole_value : (n : ActsReader) (earlier : List Act) (block : List Stmt) (total end : ℕ) → Standing n (blocks_at earlier [] block total) → acts_value n end ≡ Ok (record { earlier = earlier; last = record { stmts = block } })
unfolding whole_acts
whole_value n earlier block total end stands = stands_value n (blocks_at earlier [] block total) end stands

pub step_begins : (names : Names) (earlier : List Act) (block : List Stmt) (total : ℕ) (t : Token) → length earlier + 1 < 64 → t.kind ≡ kinds.Step
    → begun_at names true (blocks_at earlier [] block total) t ≡ Ok (at_turn (fresh_blocks (with_act earlier block)) turns.Step)
unfolding begun_at next_act
step_begins names earlier block total t few is = simp (is, lt-ltb (length earlier + 1) 64 few) refl

pub behind_step : (names : Names) (marks : List (List ℕ)) (blocks : Blocks) (t : Token) → t.kind ≡ kinds.Semicolon → acts_step names true marks (at_turn blocks turns.Step) t ≡ Ok (at_turn blocks Begins, marks)
unfolding acts_step step_taken
behind_step names marks blocks t is = simp is refl

-- ---- behaviours

-- Whatever spells a behaviour is read as it, also where steps are read.
pub behaviour_read : (names : Names) (stepped : Bool) (end : ℕ) (marks : List (List ℕ)) (ts : List Token) (act : Act) (noted : List (List ℕ)) → SpellsBehaviour names marks ts act noted
    → acts_read names stepped end marks fresh_acts ts ≡ Ok (record { earlier = []; last = act }, noted)
behaviour_read names stepped end marks ts act noted spells =
    let r : ReadsBlock names stepped [] [] 0 marks ts act.stmts noted = reads_block stepped [] [] 0 (omega arith) (omega (arith, spells.few)) spells.spelled in
    through (acts_worth end) r.run ∙ ap (λ x. beside noted x) (whole_value r.reader [] act.stmts r.total end r.stands)

-- what the tokens of behaviours do to a reader that has read nothing
record ReadsActs (names : Names) (marks : List (List ℕ)) (ts : List Token) (acts : List Act) (noted : List (List ℕ)) : Type 0 where
  reader : ActsReader
  earlier : List Act
  block : List Stmt
  total : ℕ
  run : Runs names true marks fresh_acts ts noted reader
  stands : Standing reader (blocks_at earlier [] block total)
  worth : with_act earlier block ≡ acts

reads_acts : {names : Names} {marks noted : List (List ℕ)} {ts : List Token} {acts : List Act} → length acts ≤ 64 → SpellsBehaviours names marks ts acts noted → ReadsActs names marks ts acts noted
reads_acts {names} few (first {ts} {act} {marks} {noted} spells) =
    let r : ReadsBlock names true [] [] 0 marks ts act.stmts noted = reads_block true [] [] 0 (omega arith) (omega (arith, spells.few)) spells.spelled in
    record { reader = r.reader; earlier = []; block = act.stmts; total = r.total; run = r.run; stands = r.stands; worth = refl }
reads_acts {names} few (step {ts} {us} step' semicolon {acts} {act} {marks} {noted} {more} front is ends spells) =
    let many : length (acts ++ act ∷ []) ≡ length acts + 1 = length-append acts (act ∷ []) in
    let before : ReadsActs names marks ts acts noted = reads_acts (omega arith) front in
    let earlier : List Act = with_act before.earlier before.block in
    let so_many : length before.earlier + 1 ≡ length acts = sym (length-append before.earlier (record { stmts = before.block } ∷ [])) ∙ ap length before.worth in
    let r : ReadsBlock names true earlier [] 0 noted us act.stmts more = reads_block true earlier [] 0 (omega arith) (omega (arith, spells.few)) spells.spelled in
    record {
      reader = r.reader;
      earlier = earlier;
      block = act.stmts;
      total = r.total;
      run = onward before.run
          (next (taken names true noted step' before.stands (rw is tt) (step_begins names before.earlier before.block before.total step' (omega (arith, few)) is))
          (next (behind_step names noted (fresh_blocks earlier) semicolon ends) r.run));
      stands = r.stands;
      worth = ap (λ x. x ++ act ∷ []) before.worth;
    }

-- what is read, and that it is the behaviours
pub record ActsRead (names : Names) (end : ℕ) (marks : List (List ℕ)) (ts : List Token) (acts : List Act) (noted : List (List ℕ)) : Type 0 where
  pub read : ReadActs
  pub gives : acts_read names true end marks fresh_acts ts ≡ Ok (read, noted)
  pub worth : read.earlier ++ read.last ∷ [] ≡ acts

-- Whatever spells at most 64 behaviours is read as them.
pub behaviours_read : (names : Names) (end : ℕ) (marks : List (List ℕ)) (ts : List Token) (acts : List Act) (noted : List (List ℕ)) → SpellsBehaviours names marks ts acts noted → length acts ≤ 64
    → ActsRead names end marks ts acts noted
behaviours_read names end marks ts acts noted spells few =
    let r : ReadsActs names marks ts acts noted = reads_acts few spells in
    record {
      read = record { earlier = r.earlier; last = record { stmts = r.block } };
      gives = through (acts_worth end) r.run ∙ ap (λ x. beside noted x) (whole_value r.reader r.earlier r.block r.total end r.stands);
      worth = r.worth;
    }

-- ---- texts

-- A text that spells a behaviour is read as it.
pub act_read : (names : Names) (marks : List (List ℕ)) (text : List ℕ) (act : Act) (noted : List (List ℕ)) → SpellsAct names marks text act noted → act_reading names marks text ≡ Ok (act, noted)
unfolding act_reading acts_reading
act_read names marks text act noted spells =
    rw (le-ltb 4096 (length text) spells.short) (ap (λ x. and_then x (λ read. Ok (read.0.last, read.1))) (behaviour_read names false (length text) marks (tokens_of text) act noted spells.spelled))

-- A text that spells steps is read as them.
pub steps_read : (names : Names) (marks : List (List ℕ)) (text : List ℕ) (steps : List Act) (noted : List (List ℕ)) → SpellsSteps names marks text steps noted → steps_reading names marks text ≡ Ok (steps, noted)
unfolding steps_reading acts_reading
steps_read names marks text steps noted spells =
    let r : ActsRead names (length text) marks (tokens_of text) steps noted = behaviours_read names (length text) marks (tokens_of text) steps noted spells.spelled spells.few in
    rw (le-ltb 4096 (length text) spells.short)
    (ap (λ x. and_then x (λ read. Ok (read.0.earlier ++ read.0.last ∷ [], read.1))) r.gives ∙ ap (λ x. Ok (x, noted)) r.worth)
