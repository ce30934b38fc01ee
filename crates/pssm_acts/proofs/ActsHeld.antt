-- What is read as behaviours is spelled so.
use Rattle.std.proofs.Common.{◌≡◌, ◌+◌, ◌-◌, ◌<◌, ◌≤◌, ℕ, suc, Bool, true, false, ltb, List, [], ◌∷◌, ◌++◌, length, Option, Some, None, Result, Ok, Err, refl, sym, ap, ◌∙◌, subst, arith, length-append, if◌then◌else◌}
use Rattle.std.proofs.lemmas.List.{append-nil}
use Rattle.std.proofs.lemmas.Bool.{ltb-true}
use Rattle.pssm_acts.specs.declared.act_fault.ActFault.{ActFault}
use Rattle.pssm_acts.specs.declared.act_fault.ActFault.TheVariants.{TooLong}
use Rattle.pssm_acts.specs.declared.acts_reader.ActsReader.{ActsReader}
use Rattle.pssm_acts.specs.declared.read_blocks.Blocks.{Blocks}
use Rattle.pssm_acts.specs.declared.read_blocks.OpenIf.{OpenIf}
use Rattle.pssm_acts.specs.declared.acts_reader.ReadActs.{ReadActs}
use Rattle.pssm_acts.specs.declared.acts_reader.Turn.{Turn}
use Rattle.pssm_acts.specs.declared.acts_reader.Turn.TheVariants.{Begins, Within, Condition, Chosen, Else}
use Rattle.pssm_acts.specs.declared.acts_reader.Turn.TheVariants as turns
use Rattle.pssm_acts.specs.declared.guard_reader.GuardReader.{GuardReader}
use Rattle.pssm_acts.specs.declared.phrase_reader.Phrase.{Phrase}
use Rattle.pssm_acts.specs.declared.phrase_reader.Phrased.{Phrased}
use Rattle.pssm_acts.specs.declared.phrase_reader.Phrased.TheVariants.{Goes, Ends}
use Rattle.pssm_semantics.specs.declared.setting.Names.{Names}
use Rattle.pssm_acts.specs.declared.token.Kind.{Kind}
use Rattle.pssm_acts.specs.declared.token.Kind.TheVariants as kinds
use Rattle.pssm_semantics.specs.declared.tree.Act.{Act}
use Rattle.pssm_semantics.specs.declared.tree.Cond.{Cond}
use Rattle.pssm_semantics.specs.declared.tree.Stmt.{Stmt}
use Rattle.pssm_semantics.specs.declared.tree.Stmt.TheViews as stmts
use Rattle.pssm_acts.specs.ActGrammar.{SpellsPhrase, assignment, sending, bare_mark, marking, SpellsBehaviour, SpellsBehaviours}
use Rattle.pssm_acts.specs.inner.ActReading.{fresh_acts, without_else, at_turn, block_opened, begun_at, after_choice, else_opened, condition_read, phrased, phrase_read, step_taken, acts_step, whole_acts_in, whole_acts, acts_value, ActsState, acts_steps_in, acts_worth, acts_read}
use Rattle.pssm_acts.specs.inner.ExprReading.{and_then}
use Rattle.pssm_semantics.specs.Fits.{stmt_count}
use Rattle.pssm_acts.specs.Grammar.{Either, SpellsGuard}
use Rattle.pssm_acts.specs.inner.GuardReading.{guard_step, guard_value}
use Rattle.pssm_acts.specs.inner.PhraseReading.{beside, phrase_step}
use Rattle.pssm_acts.specs.Tokens.{Token}
use Rattle.pssm_acts.proofs.AnswerLaws.{never_read, read_same, passed}
use Rattle.pssm_acts.proofs.ExprHeld.{token_as}
use Rattle.pssm_acts.proofs.GuardHeld.{held_more, held_whole}
use Rattle.pssm_acts.proofs.PhraseTokens.{PhrasedHeld}
use Rattle.pssm_acts.proofs.PhraseHeld.{phrase_held}
use Rattle.pssm_acts.proofs.BlockHeld.{HeadHeld, IfHeld, BlocksHeld, phrase_added, chosen_added, opened_held, blocks_start}
use Rattle.pssm_acts.proofs.BlockCounts.{choice_count, body_count, turn_count, IsLone, turn_counted, ends_counted, opens_counted}
use Rattle.pssm_acts.proofs.Readers.{kept, to_the_end}
use Rattle.pssm_acts.proofs.StepsHeld.{EarlierHeld, step_joined, ConditionHeld, TurnHeld, BehaviourHeld, StepHeld, StateHeld, ReaderHeld, blocks_at, statement_goes, statement_ends, at_beginning}
use Rattle.pssm_acts.proofs.BeginHeld.{act_spelled, begun_held}

phrase_count : {names : Names} {noted marks : List (List ℕ)} {l : ℕ} {ts : List Token} {s : Stmt} → SpellsPhrase names noted l ts s marks → 1 ≡ stmt_count s
phrase_count (assignment semicolon is found assigns spelled ends) = refl
phrase_count (sending semicolon is receives dots named found spelled few ends) = refl
phrase_count (bare_mark is named ends) = refl
phrase_count (marking semicolon is named spelled few ends) = refl

module _ (names : Names) (stepped : Bool) (start : List (List ℕ)) where
  -- a token in an assignment, a send or a mark
  phrased_held : (blocks : Blocks) (phrase : Phrase) (next : Phrased) (ts : List Token) (t : Token) (marks more : List (List ℕ)) (h : BehaviourHeld names stepped start blocks (Within phrase) ts marks)
      → PhrasedHeld names h.noted (16 - length blocks.outer) next (h.vs ++ t ∷ []) more → ReaderHeld names stepped start (phrased blocks next) (ts ++ t ∷ []) more
  phrased_held blocks phrase (Goes further) ts t marks more h held =
      statement_goes names stepped start blocks (Within phrase) ts t marks h (Within further) blocks.begun more held (turn_counted stepped blocks.earlier blocks.outer blocks.stmts blocks.begun (Within phrase) (Within further) refl h.counts)
  phrased_held blocks phrase (Ends s) ts t marks more h held =
      let added = phrase_added names h.began blocks.outer blocks.stmts h.xs (h.vs ++ t ∷ []) h.noted more s h.block held in
      statement_ends names stepped start blocks (Within phrase) ts t marks h blocks.outer (blocks.stmts ++ s ∷ []) blocks.begun more added (ends_counted stepped blocks.earlier blocks.outer blocks.stmts blocks.begun (Within phrase) s (phrase_count held) h.counts)

  within_held : (blocks : Blocks) (phrase : Phrase) (n : ActsReader × List (List ℕ)) (ts : List Token) (t : Token) (marks : List (List ℕ)) → phrase_read names marks blocks phrase t ≡ Ok n → BehaviourHeld names stepped start blocks (Within phrase) ts marks
      → ReaderHeld names stepped start n.0 (ts ++ t ∷ []) n.1
  unfolding phrase_read
  within_held blocks phrase n ts t marks step h =
      let it = passed (phrase_step names (16 - length blocks.outer) marks phrase t) (λ next. Ok (phrased blocks next.0, next.1)) n step in
      let due : ActsReader × List (List ℕ) = (phrased blocks it.0.0, it.0.1) in
      let same = read_same due n it.2 in
      let held = phrase_held names h.noted (16 - length blocks.outer) marks phrase it.0 h.vs t it.1 h.here in
      subst (λ r. ReaderHeld names stepped start r.0 (ts ++ t ∷ []) r.1) same (phrased_held blocks phrase it.0.0 ts t marks it.0.1 h held)

  -- a brace opens a block
  opens_held : (blocks : Blocks) (turn : Turn) (c : Cond) (body : Option (List Stmt)) (n : ActsReader) (ts : List Token) (t : Token) (marks : List (List ℕ)) (h : BehaviourHeld names stepped start blocks turn ts marks)
      → block_opened blocks c body t.at ≡ Ok n → turn_count turn ≡ 1 + body_count body → (length blocks.outer < 16 → IfHeld names h.noted (15 - length blocks.outer) c body (h.vs ++ t ∷ []) marks)
      → ReaderHeld names stepped start n (ts ++ t ∷ []) marks
  unfolding block_opened
  opens_held blocks turn c body n ts t marks h step one held = go (ltb (length blocks.outer) 16) refl step where
    inner : List OpenIf
    inner = record { before = blocks.stmts; condition = c; body = body } ∷ blocks.outer

    opened : Blocks
    opened = blocks_at blocks.earlier inner [] blocks.begun

    behind : length blocks.outer < 16 → BehaviourHeld names stepped start opened Begins (ts ++ t ∷ []) marks
    behind within =
        let block = opened_held names h.began blocks.outer blocks.stmts body h.xs (h.vs ++ t ∷ []) h.noted marks c h.block within (held within) in
        statement_ends names stepped start blocks turn ts t marks h inner [] blocks.begun marks block (opens_counted stepped blocks.earlier blocks.outer blocks.stmts blocks.begun turn c body one h.counts)

    go : (b : Bool) → ltb (length blocks.outer) 16 ≡ b → (if b then Ok (at_turn opened Begins) else Err (TooLong t.at)) ≡ Ok n → ReaderHeld names stepped start n (ts ++ t ∷ []) marks
    go true e is =
        let same = read_same (at_turn opened Begins) n is in
        subst (λ r. ReaderHeld names stepped start r (ts ++ t ∷ []) marks) same (behind (ltb-true (length blocks.outer) 16 e))
    go false e is = absurd (never_read _ _ is)

  -- a token in the condition of an `if`
  condition_held : (blocks : Blocks) (guard : GuardReader) (n : ActsReader) (ts : List Token) (kind : Kind) (at : ℕ) (word : List ℕ) (marks : List (List ℕ)) → condition_read names blocks guard (token_as at kind word) ≡ Ok n
      → BehaviourHeld names stepped start blocks (Condition guard) ts marks → ReaderHeld names stepped start n (ts ++ token_as at kind word ∷ []) marks
  unfolding condition_read
  condition_held blocks guard n ts kinds.OpenBrace at word marks step h = go (guard_value guard at) refl step where
    t : Token
    t = token_as at kinds.OpenBrace word

    head : (c : Cond) → guard_value guard at ≡ Ok c → length blocks.outer < 16 → HeadHeld names (15 - length blocks.outer) c (h.vs ++ t ∷ [])
    head c e within =
        let w = h.here.0 in
        let deep : 16 - length blocks.outer ≡ suc (15 - length blocks.outer) = omega (arith, within) in
        let spelled : SpellsGuard names Either (16 - length blocks.outer) w.cs c = held_whole names (16 - length blocks.outer) guard at w.cs c e w.held in
        record { if' = w.if'; opening = t; cs = w.cs; is = w.is; spelled = subst (λ x. SpellsGuard names Either x w.cs c) deep spelled; opens = refl; whole = ap (λ x. x ++ t ∷ []) w.whole }

    go : (r : Result Cond ActFault) → guard_value guard at ≡ r → and_then r (λ c. block_opened blocks c None at) ≡ Ok n → ReaderHeld names stepped start n (ts ++ t ∷ []) marks
    go (Ok c) e is = opens_held blocks (Condition guard) c None n ts t marks h is refl (λ within. (head c e within, h.here.1))
    go (Err fault) e is = absurd (never_read _ _ is)
  condition_held blocks guard n ts kind at word marks step h = go (guard_step names (16 - length blocks.outer) guard (token_as at kind word)) refl step where
    t : Token
    t = token_as at kind word

    go : (r : Result GuardReader ActFault) → guard_step names (16 - length blocks.outer) guard t ≡ r → and_then r (λ more. Ok (at_turn blocks (Condition more))) ≡ Ok n → ReaderHeld names stepped start n (ts ++ t ∷ []) marks
    go (Ok more) e is =
        let w = h.here.0 in
        let same = read_same (at_turn blocks (Condition more)) n is in
        let read : ConditionHeld names (16 - length blocks.outer) more (h.vs ++ t ∷ []) =
        record { if' = w.if'; cs = w.cs ++ t ∷ []; is = w.is; held = held_more names (16 - length blocks.outer) guard more w.cs t e w.held; whole = ap (λ x. x ++ t ∷ []) w.whole } in
        let counts = turn_counted stepped blocks.earlier blocks.outer blocks.stmts blocks.begun (Condition guard) (Condition more) refl h.counts in
        subst (λ r. ReaderHeld names stepped start r (ts ++ t ∷ []) marks) same (statement_goes names stepped start blocks (Condition guard) ts t marks h (Condition more) blocks.begun marks (read, h.here.1) counts)
    go (Err fault) e is = absurd (never_read _ _ is)

  -- an `if` that has no `else`
  pub no_else : (blocks : Blocks) (c : Cond) (body : List Stmt) (ts : List Token) (marks : List (List ℕ)) → BehaviourHeld names stepped start blocks (Chosen c body) ts marks
      → BehaviourHeld names stepped start (without_else blocks c body) Begins ts marks
  no_else blocks c body ts marks h = record {
    steps = h.steps;
    xs = h.xs ++ h.vs;
    vs = [];
    began = h.began;
    noted = marks;
    done = h.done;
    block = chosen_added names h.began blocks.outer blocks.stmts body h.xs h.vs h.noted marks c h.block h.here.0 h.here.1;
    here = (refl, refl);
    counts = ends_counted stepped blocks.earlier blocks.outer blocks.stmts blocks.begun (Chosen c body) (stmts.Choose c body None) (sym (choice_count c body)) h.counts;
    whole = h.whole ∙ ap (λ x. h.steps ++ x) (sym (append-nil (h.xs ++ h.vs)));
  }

  choice_held : (blocks : Blocks) (c : Cond) (body : List Stmt) (n : ActsReader) (ts : List Token) (kind : Kind) (at : ℕ) (word : List ℕ) (marks : List (List ℕ)) → after_choice names stepped blocks c body (token_as at kind word) ≡ Ok n
      → BehaviourHeld names stepped start blocks (Chosen c body) ts marks → ReaderHeld names stepped start n (ts ++ token_as at kind word ∷ []) marks
  unfolding after_choice
  choice_held blocks c body n ts kinds.Else at word marks step h =
      let t = token_as at kinds.Else word in
      let same = read_same (at_turn blocks (Else c body)) n step in
      let here : TurnHeld names blocks.outer h.noted (Else c body) (h.vs ++ t ∷ []) marks = (h.here.0, record { front = h.vs; else' = t; chosen = h.here.1; is = refl; whole = refl }) in
      let counts = turn_counted stepped blocks.earlier blocks.outer blocks.stmts blocks.begun (Chosen c body) (Else c body) refl h.counts in
      subst (λ r. ReaderHeld names stepped start r (ts ++ t ∷ []) marks) same (statement_goes names stepped start blocks (Chosen c body) ts t marks h (Else c body) blocks.begun marks here counts)
  choice_held blocks c body n ts kind at word marks step h = begun_held names stepped start (without_else blocks c body) n ts kind at word marks step (no_else blocks c body ts marks h)

  else_held : (blocks : Blocks) (c : Cond) (body : List Stmt) (n : ActsReader) (ts : List Token) (kind : Kind) (at : ℕ) (word : List ℕ) (marks : List (List ℕ)) → else_opened blocks c body (token_as at kind word) ≡ Ok n
      → BehaviourHeld names stepped start blocks (Else c body) ts marks → ReaderHeld names stepped start n (ts ++ token_as at kind word ∷ []) marks
  unfolding else_opened
  else_held blocks c body n ts kinds.OpenBrace at word marks step h =
      let t = token_as at kinds.OpenBrace word in
      opens_held blocks (Else c body) c (Some body) n ts t marks h step refl (λ within. record { front = h.vs; opening = t; first = h.here.1; opens = refl; whole = refl })
  else_held blocks c body n ts kind at word marks step h = absurd (never_read _ _ step)

  -- the semicolon behind `step`
  taken_held : (blocks : Blocks) (n : ActsReader) (ts : List Token) (kind : Kind) (at : ℕ) (word : List ℕ) (marks : List (List ℕ)) → step_taken blocks (token_as at kind word) ≡ Ok n → StepHeld names stepped start blocks ts marks
      → ReaderHeld names stepped start n (ts ++ token_as at kind word ∷ []) marks
  unfolding step_taken
  taken_held blocks n ts kinds.Semicolon at word marks step h =
      let t = token_as at kinds.Semicolon word in
      let same = read_same (at_turn blocks Begins) n step in
      let held : BehaviourHeld names stepped start blocks Begins (ts ++ t ∷ []) marks = record {
        steps = ts ++ t ∷ [];
        xs = [];
        vs = [];
        began = marks;
        noted = marks;
        done = h.done t refl;
        block = subst (λ b. BlocksHeld names marks b.outer b.stmts [] marks) (sym h.bare) (blocks_start names marks);
        here = (refl, refl);
        counts = turn_counted stepped blocks.earlier blocks.outer blocks.stmts blocks.begun turns.Step Begins refl h.counts;
        whole = sym (append-nil (ts ++ t ∷ []));
      } in
      subst (λ r. ReaderHeld names stepped start r (ts ++ t ∷ []) marks) same held
  taken_held blocks n ts kind at word marks step h = absurd (never_read _ _ step)

  -- where the marks stay as they were
  beside_held : (marks : List (List ℕ)) (r : Result ActsReader ActFault) (n : ActsReader × List (List ℕ)) (ts : List Token) → beside marks r ≡ Ok n → ((next : ActsReader) → r ≡ Ok next → ReaderHeld names stepped start next ts marks)
      → ReaderHeld names stepped start n.0 ts n.1
  beside_held marks (Ok next) n ts step held =
      let due : ActsReader × List (List ℕ) = (next, marks) in
      let same = read_same due n step in
      subst (λ p. ReaderHeld names stepped start p.0 ts p.1) same (held next refl)
  beside_held marks (Err fault) n ts step held = absurd (never_read _ _ step)

  -- one token more
  pub turn_held : (blocks : Blocks) (turn : Turn) (n : ActsReader × List (List ℕ)) (ts : List Token) (t : Token) (marks : List (List ℕ)) → acts_step names stepped marks (at_turn blocks turn) t ≡ Ok n → StateHeld names stepped start blocks turn ts marks
      → ReaderHeld names stepped start n.0 (ts ++ t ∷ []) n.1
  unfolding acts_step
  turn_held blocks Begins n ts t marks step h = beside_held marks (begun_at names stepped blocks t) n (ts ++ t ∷ []) step (λ next e. begun_held names stepped start blocks next ts t.kind t.at t.word marks e h)
  turn_held blocks (Within phrase) n ts t marks step h = within_held blocks phrase n ts t marks step h
  turn_held blocks (Condition guard) n ts t marks step h = beside_held marks (condition_read names blocks guard t) n (ts ++ t ∷ []) step (λ next e. condition_held blocks guard next ts t.kind t.at t.word marks e h)
  turn_held blocks (Chosen c body) n ts t marks step h = beside_held marks (after_choice names stepped blocks c body t) n (ts ++ t ∷ []) step (λ next e. choice_held blocks c body next ts t.kind t.at t.word marks e h)
  turn_held blocks (Else c body) n ts t marks step h = beside_held marks (else_opened blocks c body t) n (ts ++ t ∷ []) step (λ next e. else_held blocks c body next ts t.kind t.at t.word marks e h)
  turn_held blocks turns.Step n ts t marks step h = beside_held marks (step_taken blocks t) n (ts ++ t ∷ []) step (λ next e. taken_held blocks next ts t.kind t.at t.word marks e h)

-- the behaviours that have been read
record ActsHeld (names : Names) (stepped : Bool) (start : List (List ℕ)) (r : ReadActs) (ts : List Token) (noted : List (List ℕ)) : Type 0 where
  steps : List Token
  us : List Token
  began : List (List ℕ)
  done : EarlierHeld names start r.earlier steps began
  spelled : SpellsBehaviour names began us r.last noted
  few : length r.earlier < 64
  lone : IsLone stepped r.earlier
  whole : ts ≡ steps ++ us

module _ (names : Names) (stepped : Bool) (start : List (List ℕ)) where
  whole_held : (earlier : List Act) (outer : List OpenIf) (block : List Stmt) (begun : ℕ) (r : ReadActs) (at : ℕ) (ts : List Token) (marks : List (List ℕ)) → whole_acts_in outer (blocks_at earlier outer block begun) at ≡ Ok r
      → BehaviourHeld names stepped start (blocks_at earlier outer block begun) Begins ts marks → ActsHeld names stepped start r ts marks
  whole_held earlier [] block begun r at ts marks is h =
      let b = at_beginning names stepped start (blocks_at earlier [] block begun) ts marks h in
      let read : ReadActs = record { earlier = earlier; last = record { stmts = block } } in
      let same : read ≡ r = cc in
      let held : ActsHeld names stepped start read ts marks =
      record { steps = b.steps; us = b.xs; began = b.began; done = b.done; spelled = act_spelled names stepped start earlier block begun ts marks b; few = b.counts.steps; lone = b.counts.lone; whole = b.whole } in
      subst (λ x. ActsHeld names stepped start x ts marks) same held
  whole_held earlier (open' ∷ outer) block begun r at ts marks is h = absurd (never_read _ _ is)

  value_held : (blocks : Blocks) (turn : Turn) (r : ReadActs) (at : ℕ) (ts : List Token) (marks : List (List ℕ)) → acts_value (at_turn blocks turn) at ≡ Ok r → StateHeld names stepped start blocks turn ts marks → ActsHeld names stepped start r ts marks
  unfolding acts_value whole_acts
  value_held blocks Begins r at ts marks is h = whole_held blocks.earlier blocks.outer blocks.stmts blocks.begun r at ts marks is h
  value_held blocks (Chosen c body) r at ts marks is h =
      whole_held blocks.earlier blocks.outer (blocks.stmts ++ stmts.Choose c body None ∷ []) blocks.begun r at ts marks is (no_else names stepped start blocks c body ts marks h)
  value_held blocks turn r at ts marks is h = absurd (never_read _ _ is)

  end_held : (r : Result ReadActs ActFault) (n : ReadActs × List (List ℕ)) (ts : List Token) (marks : List (List ℕ)) → beside marks r ≡ Ok n → ((x : ReadActs) → r ≡ Ok x → ActsHeld names stepped start x ts marks) → ActsHeld names stepped start n.0 ts n.1
  end_held (Ok x) n ts marks is held =
      let due : ReadActs × List (List ℕ) = (x, marks) in
      let same = read_same due n is in
      subst (λ p. ActsHeld names stepped start p.0 ts p.1) same (held x refl)
  end_held (Err fault) n ts marks is held = absurd (never_read _ _ is)

pub start_held : (names : Names) (stepped : Bool) (start : List (List ℕ)) → IsLone stepped [] → ReaderHeld names stepped start fresh_acts [] start
start_held names stepped start lone = record {
  steps = [];
  xs = [];
  vs = [];
  began = start;
  noted = start;
  done = (refl, refl);
  block = blocks_start names start;
  here = (refl, refl);
  counts = record { few = omega arith; all = refl; steps = omega arith; lone = lone };
  whole = refl;
}

-- the end of the text
read_held : (names : Names) (stepped : Bool) (end : ℕ) (marks : List (List ℕ)) (ts : List Token) (n : ReadActs × List (List ℕ)) → IsLone stepped [] → acts_read names stepped end marks fresh_acts ts ≡ Ok n → ActsHeld names stepped marks n.0 ts n.1
read_held names stepped end marks ts n lone is =
    let all = to_the_end (acts_steps_in names stepped) (acts_worth end) (fresh_acts, marks) ts n is in
    let held : ReaderHeld names stepped marks all.0.0 ts all.0.1 =
    kept (λ (s : ActsState) us. ReaderHeld names stepped marks s.0 us s.1) (λ s m us t step h. turn_held names stepped marks s.0.blocks s.0.turn m us t s.1 step h) [] all.1 (start_held names stepped marks lone) in
    end_held names stepped marks (acts_value all.0.0 end) n ts all.0.1 all.2 (λ x e. value_held names stepped marks all.0.0.blocks all.0.0.turn x end ts all.0.1 e held)

-- What is read as one behaviour is spelled so.
pub spelled_behaviour : (names : Names) (end : ℕ) (marks : List (List ℕ)) (ts : List Token) (r : ReadActs) (noted : List (List ℕ)) → acts_read names false end marks fresh_acts ts ≡ Ok (r, noted) → SpellsBehaviour names marks ts r.last noted
spelled_behaviour names end marks ts r noted is =
    let h = read_held names false end marks ts (r, noted) refl is in
    let alone : EarlierHeld names marks [] h.steps h.began = subst (λ x. EarlierHeld names marks x h.steps h.began) h.lone h.done in
    let tokens : ts ≡ h.us = h.whole ∙ ap (λ x. x ++ h.us) alone.0 in
    subst (λ x. SpellsBehaviour names marks x r.last noted) (sym tokens) (subst (λ m. SpellsBehaviour names m h.us r.last noted) alone.1 h.spelled)

-- What is read as steps is spelled so.
pub spelled_behaviours : (names : Names) (end : ℕ) (marks : List (List ℕ)) (ts : List Token) (r : ReadActs) (noted : List (List ℕ)) → acts_read names true end marks fresh_acts ts ≡ Ok (r, noted)
    → SpellsBehaviours names marks ts (r.earlier ++ r.last ∷ []) noted × (length (r.earlier ++ r.last ∷ []) ≤ 64)
spelled_behaviours names end marks ts r noted is =
    let h = read_held names true end marks ts (r, noted) tt is in
    let joined = step_joined names marks h.began noted r.earlier r.last h.steps h.us h.done h.spelled in
    (subst (λ x. SpellsBehaviours names marks x (r.earlier ++ r.last ∷ []) noted) (sym h.whole) joined, omega (arith, length-append r.earlier (r.last ∷ []), h.few))
