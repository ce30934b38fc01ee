-- A token where a statement may begin keeps what has been read spelled so.
use Rattle.std.proofs.Common.{◌≡◌, ◌+◌, ◌-◌, ◌<◌, ℕ, Bool, true, false, ltb, List, [], ◌∷◌, ◌++◌, length, Option, Some, None, Ok, Err, refl, sym, ap, ◌∙◌, subst, append_assoc, arith, length-append, if◌then◌else◌}
use Rattle.std.proofs.lemmas.Bool.{ltb-true}
use Rattle.pssm_acts.specs.declared.act_fault.ActFault.TheVariants.{TooLong}
use Rattle.pssm_acts.specs.declared.acts_reader.ActsReader.{ActsReader}
use Rattle.pssm_acts.specs.declared.read_blocks.Blocks.{Blocks}
use Rattle.pssm_acts.specs.declared.read_blocks.OpenIf.{OpenIf}
use Rattle.pssm_acts.specs.declared.acts_reader.Turn.{Turn}
use Rattle.pssm_acts.specs.declared.acts_reader.Turn.TheVariants.{Begins, Within, Condition, Chosen}
use Rattle.pssm_acts.specs.declared.acts_reader.Turn.TheVariants as turns
use Rattle.pssm_semantics.specs.declared.setting.Names.{Names}
use Rattle.pssm_acts.specs.declared.token.Kind.{Kind}
use Rattle.pssm_acts.specs.declared.token.Kind.TheVariants as kinds
use Rattle.pssm_semantics.specs.declared.tree.Act.{Act}
use Rattle.pssm_semantics.specs.declared.tree.Cond.{Cond}
use Rattle.pssm_semantics.specs.declared.tree.Stmt.{Stmt}
use Rattle.pssm_semantics.specs.declared.tree.Stmt.TheViews as stmts
use Rattle.pssm_acts.specs.ActGrammar.{SpellsBehaviour, SpellsBehaviours}
use Rattle.pssm_acts.specs.inner.ActReading.{fresh_blocks, at_turn, if_closed, block_closed_in, block_closed, statement_counted, with_act, next_act_in, next_act, begun_at}
use Rattle.pssm_acts.specs.inner.ExprReading.{and_then}
use Rattle.pssm_acts.specs.inner.GuardReading.{fresh_guard}
use Rattle.pssm_acts.specs.inner.PhraseReading.{phrase_begun}
use Rattle.pssm_acts.specs.Tokens.{Token}
use Rattle.pssm_acts.proofs.AnswerLaws.{never_read, read_same, passed}
use Rattle.pssm_acts.proofs.ExprHeld.{token_as}
use Rattle.pssm_acts.proofs.GuardHeld.{held_start}
use Rattle.pssm_acts.proofs.PhraseHeld.{phrase_start}
use Rattle.pssm_acts.proofs.BlockHeld.{first_closed, second_closed, blocks_whole}
use Rattle.pssm_acts.proofs.BlockCounts.{turn_count, begins_counted, first_counted, second_counted}
use Rattle.pssm_acts.proofs.StepsHeld.{EarlierHeld, step_joined, step_ended, TurnHeld, BehaviourHeld, StepHeld, StateHeld, ReaderHeld, blocks_at, BeginsHeld, at_beginning, from_beginning}

-- the behaviour that has been read, where no block is open
pub act_spelled : (names : Names) (stepped : Bool) (start : List (List ℕ)) (earlier : List Act) (block : List Stmt) (begun : ℕ) (ts : List Token) (marks : List (List ℕ)) (h : BeginsHeld names stepped start earlier [] block begun ts marks)
    → SpellsBehaviour names h.began h.xs (record { stmts = block }) marks
act_spelled names stepped start earlier block begun ts marks h = record { spelled = blocks_whole names h.began block h.xs marks h.blocks; few = omega (arith, h.counts.few, h.counts.all) }

-- `step` behind a behaviour
next_held : (names : Names) (stepped : Bool) (start : List (List ℕ)) (earlier : List Act) (outer : List OpenIf) (block : List Stmt) (begun : ℕ) (n : ActsReader) (ts : List Token) (at : ℕ) (word : List ℕ) (marks : List (List ℕ))
    → next_act_in stepped outer (blocks_at earlier outer block begun) at ≡ Ok n → BeginsHeld names stepped start earlier outer block begun ts marks → ReaderHeld names stepped start n (ts ++ token_as at kinds.Step word ∷ []) marks
next_held names true start earlier [] block begun n ts at word marks step h = go (ltb (length earlier + 1) 64) refl step where
  act : Act
  act = record { stmts = block }

  t : Token
  t = token_as at kinds.Step word

  held : length earlier + 1 < 64 → StepHeld names true start (fresh_blocks (with_act earlier block)) (ts ++ t ∷ []) marks
  held few =
      let joined : SpellsBehaviours names start (h.steps ++ h.xs) (earlier ++ act ∷ []) marks = step_joined names start h.began marks earlier act h.steps h.xs h.done (act_spelled names true start earlier block begun ts marks h) in
      let spelled : SpellsBehaviours names start ts (earlier ++ act ∷ []) marks = subst (λ x. SpellsBehaviours names start x (earlier ++ act ∷ []) marks) (sym h.whole) joined in
      record {
        done = λ semicolon ends. subst (λ x. EarlierHeld names start (earlier ++ act ∷ []) x marks) (sym (append_assoc ts (t ∷ []) (semicolon ∷ []))) (step_ended names start marks earlier act ts t semicolon spelled refl ends);
        bare = refl;
        counts = record { few = omega arith; all = refl; steps = omega (arith, length-append earlier (act ∷ []), few); lone = tt };
      }

  go : (b : Bool) → ltb (length earlier + 1) 64 ≡ b → (if b then Ok (at_turn (fresh_blocks (with_act earlier block)) turns.Step) else Err (TooLong at)) ≡ Ok n → ReaderHeld names true start n (ts ++ t ∷ []) marks
  go true e is =
      let same = read_same (at_turn (fresh_blocks (with_act earlier block)) turns.Step) n is in
      subst (λ r. ReaderHeld names true start r (ts ++ t ∷ []) marks) same (held (ltb-true (length earlier + 1) 64 e))
  go false e is = absurd (never_read _ _ is)
next_held names true start earlier (open' ∷ outer) block begun n ts at word marks step h = absurd (never_read _ _ step)
next_held names false start earlier outer block begun n ts at word marks step h = absurd (never_read _ _ step)

module _ (names : Names) (stepped : Bool) (start : List (List ℕ)) where
  -- a brace closes a block
  closed_held : (earlier : List Act) (outer : List OpenIf) (before : List Stmt) (c : Cond) (body : Option (List Stmt)) (block : List Stmt) (begun : ℕ) (n : ActsReader) (ts : List Token) (t : Token) (marks : List (List ℕ))
      → if_closed body (blocks_at earlier outer before begun) c block ≡ n → t.kind ≡ kinds.CloseBrace → BeginsHeld names stepped start earlier (record { before = before; condition = c; body = body } ∷ outer) block begun ts marks
      → ReaderHeld names stepped start n (ts ++ t ∷ []) marks
  closed_held earlier outer before c None block begun n ts t marks same is h =
      let x = first_closed names h.began outer before c block h.xs t marks h.blocks is in
      let held : BehaviourHeld names stepped start (blocks_at earlier outer before begun) (Chosen c block) (ts ++ t ∷ []) marks = record {
        steps = h.steps;
        xs = x.front;
        vs = x.us;
        began = h.began;
        noted = x.noted;
        done = h.done;
        block = x.blocks;
        here = (x.within, x.chosen);
        counts = first_counted stepped earlier outer block begun before c h.counts;
        whole = ap (λ y. y ++ t ∷ []) h.whole ∙ append_assoc h.steps h.xs (t ∷ []) ∙ ap (λ y. h.steps ++ y) x.whole;
      } in
      subst (λ r. ReaderHeld names stepped start r (ts ++ t ∷ []) marks) same held
  closed_held earlier outer before c (Some body) block begun n ts t marks same is h =
      let after = before ++ stmts.Choose c body (Some block) ∷ [] in
      let here : BeginsHeld names stepped start earlier outer after begun (ts ++ t ∷ []) marks = record {
        steps = h.steps;
        xs = h.xs ++ t ∷ [];
        began = h.began;
        done = h.done;
        blocks = second_closed names h.began outer before c body block h.xs t marks h.blocks is;
        counts = second_counted stepped earlier outer block begun before body c h.counts;
        whole = ap (λ y. y ++ t ∷ []) h.whole ∙ append_assoc h.steps h.xs (t ∷ []);
      } in
      let held : BehaviourHeld names stepped start (blocks_at earlier outer after begun) Begins (ts ++ t ∷ []) marks = from_beginning names stepped start (blocks_at earlier outer after begun) (ts ++ t ∷ []) marks here in
      subst (λ r. ReaderHeld names stepped start r (ts ++ t ∷ []) marks) same held

  brace_held : (earlier : List Act) (outer : List OpenIf) (block : List Stmt) (begun : ℕ) (n : ActsReader) (ts : List Token) (at : ℕ) (word : List ℕ) (marks : List (List ℕ)) → block_closed_in outer (blocks_at earlier outer block begun) at ≡ Ok n
      → BeginsHeld names stepped start earlier outer block begun ts marks → ReaderHeld names stepped start n (ts ++ token_as at kinds.CloseBrace word ∷ []) marks
  brace_held earlier [] block begun n ts at word marks step h = absurd (never_read _ _ step)
  brace_held earlier (open' ∷ outer) block begun n ts at word marks step h =
      let same = read_same (if_closed open'.body (blocks_at earlier outer open'.before begun) open'.condition block) n step in
      closed_held earlier outer open'.before open'.condition open'.body block begun n ts (token_as at kinds.CloseBrace word) marks same refl h

  -- a statement begins
  counted_held : (blocks : Blocks) (turn : Turn) (n : ActsReader) (ts : List Token) (t : Token) (marks : List (List ℕ)) → and_then (statement_counted blocks t.at) (λ more. Ok (at_turn more turn)) ≡ Ok n → turn_count turn ≡ 1
      → TurnHeld names blocks.outer marks turn (t ∷ []) marks → BehaviourHeld names stepped start blocks Begins ts marks
      → ((b : Blocks) → BehaviourHeld names stepped start b turn (ts ++ t ∷ []) marks → StateHeld names stepped start b turn (ts ++ t ∷ []) marks) → ReaderHeld names stepped start n (ts ++ t ∷ []) marks
  unfolding statement_counted
  counted_held blocks turn n ts t marks step one here h keep = go (ltb blocks.begun 64) refl step where
    more : Blocks
    more = blocks_at blocks.earlier blocks.outer blocks.stmts (blocks.begun + 1)

    held : blocks.begun < 64 → BehaviourHeld names stepped start more turn (ts ++ t ∷ []) marks
    held few =
        let b = at_beginning names stepped start blocks ts marks h in
        record {
          steps = b.steps;
          xs = b.xs;
          vs = t ∷ [];
          began = b.began;
          noted = marks;
          done = b.done;
          block = b.blocks;
          here = here;
          counts = begins_counted stepped blocks.earlier blocks.outer blocks.stmts blocks.begun turn one few b.counts;
          whole = ap (λ y. y ++ t ∷ []) b.whole ∙ append_assoc b.steps b.xs (t ∷ []);
        }

    go : (b : Bool) → ltb blocks.begun 64 ≡ b → and_then (if b then Ok more else Err (TooLong t.at)) (λ x. Ok (at_turn x turn)) ≡ Ok n → ReaderHeld names stepped start n (ts ++ t ∷ []) marks
    go true e is =
        let same = read_same (at_turn more turn) n is in
        subst (λ r. ReaderHeld names stepped start r (ts ++ t ∷ []) marks) same (keep more (held (ltb-true blocks.begun 64 e)))
    go false e is = absurd (never_read _ _ is)

  pub begun_held : (blocks : Blocks) (n : ActsReader) (ts : List Token) (kind : Kind) (at : ℕ) (word : List ℕ) (marks : List (List ℕ)) → begun_at names stepped blocks (token_as at kind word) ≡ Ok n
      → BehaviourHeld names stepped start blocks Begins ts marks → ReaderHeld names stepped start n (ts ++ token_as at kind word ∷ []) marks
  unfolding begun_at block_closed next_act
  begun_held blocks n ts kinds.CloseBrace at word marks step h = brace_held blocks.earlier blocks.outer blocks.stmts blocks.begun n ts at word marks step (at_beginning names stepped start blocks ts marks h)
  begun_held blocks n ts kinds.Step at word marks step h = next_held names stepped start blocks.earlier blocks.outer blocks.stmts blocks.begun n ts at word marks step (at_beginning names stepped start blocks ts marks h)
  begun_held blocks n ts kinds.If at word marks step h =
      let t = token_as at kinds.If word in
      let here : TurnHeld names blocks.outer marks (Condition fresh_guard) (t ∷ []) marks = (record { if' = t; cs = []; is = refl; held = held_start names (16 - length blocks.outer); whole = refl }, refl) in
      counted_held blocks (Condition fresh_guard) n ts t marks step refl here h (λ b x. x)
  begun_held blocks n ts kind at word marks step h =
      let it = passed (phrase_begun names (token_as at kind word)) (λ phrase. and_then (statement_counted blocks at) (λ more. Ok (at_turn more (Within phrase)))) n step in
      counted_held blocks (Within it.0) n ts (token_as at kind word) marks it.2 refl (phrase_start names marks (16 - length blocks.outer) it.0 (token_as at kind word) it.1) h (λ b x. x)
