-- A text of behaviours that is refused has the fault that its tokens tell.
use Rattle.std.proofs.Common.{◌≡◌, ◌≤◌, ℕ, Bool, true, false, ltb, List, [], ◌∷◌, ◌++◌, length, Result, Ok, Err, Vec, refl, sym, ap, ◌∙◌, subst, append_assoc, arith, if◌then◌else◌}
use Rattle.std.proofs.lemmas.Bool.{ltb-true, ltb-false}
use Rattle.std.specs.declared.alloc.Global.{Global}
use Rattle.pssm_acts.specs.declared.act_fault.ActFault.{ActFault}
use Rattle.pssm_acts.specs.declared.act_fault.ActFault.TheVariants.{Syntax, UnknownName, WideNumber, Arity, TooLong, NoMemory}
use Rattle.pssm_acts.specs.declared.acts_reader.ActsReader.{ActsReader}
use Rattle.pssm_acts.specs.declared.acts_reader.ReadActs.{ReadActs}
use Rattle.pssm_acts.specs.declared.acts_reader.Turn.{Turn}
use Rattle.pssm_acts.specs.declared.acts_reader.Turn.TheVariants.{Begins, Chosen}
use Rattle.pssm_acts.specs.declared.read_blocks.Blocks.{Blocks}
use Rattle.pssm_acts.specs.declared.read_blocks.OpenIf.{OpenIf}
use Rattle.pssm_semantics.specs.declared.setting.Names.{Names}
use Rattle.pssm_acts.specs.declared.token.Kind.{Kind}
use Rattle.pssm_acts.specs.declared.token.Kind.TheVariants as kinds
use Rattle.pssm_semantics.specs.declared.tree.Act.{Act}
use Rattle.pssm_acts.specs.Tokens.{Token, tokens_of}
use Rattle.pssm_acts.specs.inner.ActReading.{ActsState, acts_steps_in, fresh_acts, acts_step, whole_acts_in, whole_acts, acts_value, acts_worth, text_acts, acts_reading, act_reading, steps_reading}
use Rattle.pssm_acts.specs.Answers.{Answers, AnswersWith, Faults}
use Rattle.pssm_acts.specs.Shapes.{StmtsShape, StepsShape}
use Rattle.pssm_acts.specs.Shapes as shapes
use Rattle.pssm_acts.specs.TextFaults.{place_behind, Breaks, unknown, wide, sent, marked, level, statement, Obeys, TextFault, long, early}
use Rattle.pssm_acts.specs.TextFaults as rules
use Rattle.pssm_acts.proofs.ActRun.{Runs}
use Rattle.pssm_acts.proofs.AnswerLaws.{passed, not_past}
use Rattle.pssm_acts.proofs.Readers.{Leads, done, one, onward, first_of, parted, kept, Outcome, at_token, at_end, outcome, to_the_end}
use Rattle.pssm_acts.proofs.ActRead.{whole_value}
use Rattle.pssm_acts.proofs.ActLaws.{act_answers_spelled, steps_answers_spelled}
use Rattle.pssm_acts.proofs.ArgumentCounts.{sent_taken, marked_taken, miscounts_breaks}
use Rattle.pssm_acts.proofs.ActsTold.{turn_place, state_tally, IsProperState, ActsNext, MiscountsAt, acts_told}
use Rattle.pssm_acts.proofs.BlockCounts.{IsLone}
use Rattle.pssm_acts.proofs.StepsHeld.{ReaderHeld}
use Rattle.pssm_acts.proofs.ActsHeld.{turn_held, start_held}
use Rattle.pssm_acts.proofs.GuardBegins.{failed_first}
use Rattle.pssm_acts.proofs.Fares.{IsOther, Fares, fares_as}
use Rattle.pssm_acts.proofs.FareLaws.{fares_other, fares_from, fares_whole}
use Rattle.pssm_acts.proofs.BlockFares.{steps_fares, behaviour_fares}
use Rattle.pssm_acts.proofs.BlockBegins.{reader_begins, reader_other}
use Rattle.pssm_acts.proofs.RuleLaws.{obeys_none, obeys_more, fits_breaks, fault_breaks, Fails, misplaced_there, broken_there, fails_text, same_fault, no_fault}
use Rattle.pssm_acts.proofs.ShapeLaws.{ShapeOf, stmts_shape, steps_shape}
use Rattle.pssm_acts.proofs.Tallies.{tally, tally_behind, Fits, IsFaultOf, KnownSignals, tally_none, tally_more}

-- ---- the shape

-- The states behind texts of the shape are those at which a text may end.
abbrev Ended : ActsState → Type 0
Ended s = (end : ℕ) → (read : ReadActs) × (acts_value s.0 end ≡ Ok read)

shape_fares : (names : Names) (stepped : Bool) (marks : List (List ℕ)) (ts : List Token) → ShapeOf stepped ts → Fares (acts_steps_in names stepped) Ended (fresh_acts, marks) ts
shape_fares names true marks ts shape =
    fares_as (steps_fares names marks shape)
    (λ n goal.
    let r = goal.0 in
    let is : n.0 ≡ r.last.reader = ap (λ s. s.0) goal.1 in
    λ end. (record { earlier = r.earlier; last = record { stmts = r.last.block } }, ap (λ x. acts_value x end) is ∙ whole_value r.last.reader r.earlier r.last.block r.last.begun end r.last.stands))
shape_fares names false marks ts shape =
    fares_as (behaviour_fares names false marks shape)
    (λ n goal.
    let r = goal.0 in
    let is : n.0 ≡ r.reader = ap (λ s. s.0) goal.1 in
    λ end. (record { earlier = []; last = record { stmts = r.block } }, ap (λ x. acts_value x end) is ∙ whole_value r.reader [] r.block r.begun end r.stands))

-- A token that is refused for its place goes on with nothing of the shape.
goes_no_further : (names : Names) (stepped : Bool) (start : List (List ℕ)) (before : List Token) (t : Token) (r : ActsReader) (marks : List (List ℕ)) (fault : ActFault) → Runs names stepped start fresh_acts before marks r
    → acts_step names stepped marks r t ≡ Err fault → shapes.Begins (ShapeOf stepped) (before ++ t ∷ []) → IsOther fault
goes_no_further names stepped start before t r marks fault run step b =
    let all = shape_fares names stepped start ((before ++ t ∷ []) ++ b.more) b.shape in
    let parted = subst (λ x. Fares (acts_steps_in names stepped) Ended (fresh_acts, start) x) (append_assoc before (t ∷ []) b.more) all in
    fares_other t b.more fault refl step (fares_from Ended (t ∷ b.more) run parted)

-- A text that ends too early has not the shape.
ends_early : (names : Names) (stepped : Bool) (start : List (List ℕ)) (end : ℕ) (ts : List Token) (r : ActsReader) (marks : List (List ℕ)) (fault : ActFault) → Runs names stepped start fresh_acts ts marks r → acts_value r end ≡ Err fault → ShapeOf stepped ts → ⊥
ends_early names stepped start end ts r marks fault run e shape = let last = fares_whole Ended run (shape_fares names stepped start ts shape) end in let is = last.1 in absurd cc

-- ---- what a run tells

-- what a step tells that succeeds
taken_tells : (names : Names) (stepped : Bool) (marks : List (List ℕ)) (r : ActsReader) (t : Token) (n : ActsReader × List (List ℕ)) → IsProperState r → acts_step names stepped marks r t ≡ Ok n → ActsNext t.kind names t.word (state_tally r) n.0
taken_tells names stepped marks r t n some step = subst (λ x. KnownSignals (λ (m : ActsReader × List (List ℕ)). ActsNext t.kind names t.word (state_tally r) m.0) (MiscountsAt r.turn names r.blocks t) names t (state_tally r) x) step (acts_told names stepped marks r t some)

run_proper : (names : Names) (stepped : Bool) {marks noted : List (List ℕ)} {r n : ActsReader} {ts : List Token} → Runs names stepped marks r ts noted n → IsProperState r → IsProperState n
run_proper names stepped run some = kept (λ (s : ActsState) ts. IsProperState s.0) (λ s n us t step some'. let told = taken_tells names stepped s.1 s.0 t n some' step in told.2) [] run some

-- behind a token that is taken a name has the place behind it
place_taken : (names : Names) (stepped : Bool) (marks noted : List (List ℕ)) (r n : ActsReader) (t : Token) (kind : Kind) → t.kind ≡ kind → IsProperState r → acts_step names stepped marks r t ≡ Ok (n, noted) → turn_place n.turn ≡ place_behind kind
place_taken names stepped marks noted r n t kind is some step =
    let told = taken_tells names stepped marks r t (n, noted) some step in
    sym (ap (λ c. c.place) told.1) ∙ ap place_behind is

-- A token that is taken breaks no rule of the number of arguments.
counts_right : (names : Names) (stepped : Bool) (start marks : List (List ℕ)) (before : List Token) (t : Token) (n : ActsReader) {fault : ActFault} → Runs names stepped start fresh_acts (before ++ t ∷ []) marks n → fault ≡ Arity t.at
    → Breaks names before t fault → ⊥
counts_right names stepped start marks before t n run is (unknown name un) = absurd cc
counts_right names stepped start marks before t n run is (wide digits never) = absurd cc
counts_right names stepped start marks before t n run is (level opens deep) = absurd cc
counts_right names stepped start marks before t n run is (statement begins many) = absurd cc
counts_right names stepped start marks before t n run is (rules.step steps late) = absurd cc
counts_right names stepped start marks before t n run is (sent earlier us dot name e dots names' found spelled wrong) =
    let p = parted earlier (dot ∷ name ∷ us) (subst (λ x. Runs names stepped start fresh_acts x marks n) e run) in
    let it = first_of dot (name ∷ us) refl p.2 in
    wrong (sent_taken names stepped name (place_taken names stepped p.0.1 it.0.1 p.0.0 it.0.0 dot kinds.Dot dots (run_proper names stepped p.1 tt) it.1) it.2 names' found spelled)
counts_right names stepped start marks before t n run is (marked earlier us mark name e marks' names' spelled wrong) =
    let p = parted earlier (mark ∷ name ∷ us) (subst (λ x. Runs names stepped start fresh_acts x marks n) e run) in
    let it = first_of mark (name ∷ us) refl p.2 in
    let few = marked_taken names stepped name (place_taken names stepped p.0.1 it.0.1 p.0.0 it.0.0 mark kinds.Mark marks' (run_proper names stepped p.1 tt) it.1) it.2 names' spelled in
    omega (arith, few, wrong)

-- The reader has come so far with these tokens.
record Reached (names : Names) (stepped : Bool) (start : List (List ℕ)) (ts : List Token) (marks : List (List ℕ)) (r : ActsReader) : Type 0 where
  run : Runs names stepped start fresh_acts ts marks r
  held : ReaderHeld names stepped start r ts marks
  told : tally ts ≡ state_tally r
  proper : IsProperState r
  obeys : Obeys names ts

reached_start : (names : Names) (stepped : Bool) (start : List (List ℕ)) → IsLone stepped [] → Reached names stepped start [] start fresh_acts
reached_start names stepped start lone = record { run = done; held = start_held names stepped start lone; told = tally_none; proper = tt; obeys = obeys_none names }

reached_more : (names : Names) (stepped : Bool) (start marks : List (List ℕ)) (ts : List Token) (t : Token) (r : ActsReader) (n : ActsReader × List (List ℕ)) → Reached names stepped start ts marks r → acts_step names stepped marks r t ≡ Ok n
    → Reached names stepped start (ts ++ t ∷ []) n.1 n.0
reached_more names stepped start marks ts t r n h step =
    let tells = taken_tells names stepped marks r t n h.proper step in
    let run : Runs names stepped start fresh_acts (ts ++ t ∷ []) n.1 n.0 = onward h.run (one step) in
    record {
      run = run;
      held = turn_held names stepped start r.blocks r.turn n ts t marks step h.held;
      told = tally_more ts t ∙ ap (tally_behind t.kind) h.told ∙ tells.1;
      proper = tells.2;
      obeys = obeys_more names ts t h.obeys
          (λ fault breaks. fits_breaks names ts t (subst (λ c. Fits t.kind names t.word c) (sym h.told) tells.0) (λ wrong. counts_right names stepped start n.1 ts t n.0 run refl wrong) breaks);
    }

-- The token at which the reader stops fails.
token_fails : (names : Names) (stepped : Bool) (start marks : List (List ℕ)) (ts : List Token) (t : Token) (r : ActsReader) (fault : ActFault) → Reached names stepped start ts marks r → acts_step names stepped marks r t ≡ Err fault
    → Fails (ShapeOf stepped) names ts t fault
token_fails names stepped start marks ts t r fault h step = go fault step told where
  told : IsFaultOf fault (MiscountsAt r.turn names r.blocks t) names t (tally ts)
  told = subst (λ c. IsFaultOf fault (MiscountsAt r.turn names r.blocks t) names t c) (sym h.told)
      (subst (λ x. KnownSignals (λ (m : ActsReader × List (List ℕ)). ActsNext t.kind names t.word (state_tally r) m.0) (MiscountsAt r.turn names r.blocks t) names t (state_tally r) x) step (acts_told names stepped marks r t h.proper))

  other : (f : ActFault) → acts_step names stepped marks r t ≡ Err f → IsOther f → IsFaultOf f (MiscountsAt r.turn names r.blocks t) names t (tally ts) → Fails (ShapeOf stepped) names ts t f
  other f is free is' =
      broken_there (reader_other names stepped start r ts t marks f is free h.held) (fault_breaks (MiscountsAt r.turn names r.blocks t) names ts t f (λ wrong. miscounts_breaks names stepped start r ts t marks h.held wrong) is' free)

  go : (f : ActFault) → acts_step names stepped marks r t ≡ Err f → IsFaultOf f (MiscountsAt r.turn names r.blocks t) names t (tally ts) → Fails (ShapeOf stepped) names ts t f
  go (Syntax k) is at =
      subst (λ x. Fails (ShapeOf stepped) names ts t (Syntax x)) (sym at)
      (misplaced_there (reader_begins names stepped start r ts marks h.held) (λ b. goes_no_further names stepped start ts t r marks (Syntax k) h.run is b))
  go (UnknownName k) is at = other (UnknownName k) is tt at
  go (WideNumber k) is at = other (WideNumber k) is tt at
  go (Arity k) is at = other (Arity k) is tt at
  go (TooLong k) is at = other (TooLong k) is tt at
  go NoMemory is at = absurd at

whole_ends : (outer : List OpenIf) (blocks : Blocks) (at : ℕ) → (fault : ActFault) → whole_acts_in outer blocks at ≡ Err fault → Syntax at ≡ fault
whole_ends [] blocks at fault e = absurd cc
whole_ends (first ∷ outer) blocks at fault e = cc

-- The fault of an early end is `Syntax` there.
early_end : (reader : ActsReader) (at : ℕ) (fault : ActFault) → acts_value reader at ≡ Err fault → Syntax at ≡ fault
unfolding acts_value whole_acts
early_end reader at fault = go reader.turn where
  go : (turn : Turn) → acts_value (record { blocks = reader.blocks; turn = turn }) at ≡ Err fault → Syntax at ≡ fault
  go Begins e = whole_ends reader.blocks.outer reader.blocks at fault e
  go (Chosen c body) e = whole_ends reader.blocks.outer _ at fault e
  go turn e = cc

-- ---- texts

reached : (names : Names) (stepped : Bool) {start : List (List ℕ)} {ts : List Token} {n : ActsState} → IsLone stepped [] → Leads (acts_steps_in names stepped) (fresh_acts, start) ts n → Reached names stepped start ts n.1 n.0
reached names stepped {start} lone run =
    kept (λ (s : ActsState) ts. Reached names stepped start ts s.1 s.0) (λ s n us t step h. reached_more names stepped start s.1 us t s.0 n h step) [] run (reached_start names stepped start lone)

text_outcome : (names : Names) (stepped : Bool) (start : List (List ℕ)) (text : List ℕ) → Outcome (acts_steps_in names stepped) (acts_worth (length text)) (fresh_acts, start) (tokens_of text) (text_acts names stepped start text)
text_outcome names stepped start text = outcome (acts_steps_in names stepped) (acts_worth (length text)) (fresh_acts, start) (tokens_of text)

-- A text that is refused has the fault.
pub text_fault : (names : Names) (stepped : Bool) (start : List (List ℕ)) (text : List ℕ) (fault : ActFault) → IsLone stepped [] → acts_reading names stepped start text ≡ Err fault → TextFault (ShapeOf stepped) names text fault
unfolding acts_reading
text_fault names stepped start text fault lone e = go (ltb 4096 (length text)) refl e where
  from : length text ≤ 4096 → text_acts names stepped start text ≡ Err fault → Outcome (acts_steps_in names stepped) (acts_worth (length text)) (fresh_acts, start) (tokens_of text) (text_acts names stepped start text) → TextFault (ShapeOf stepped) names text fault
  from within is (at_token before after t n f whole run step result) =
      let same : f ≡ fault = cc in
      let h = reached names stepped lone run in
      subst (λ x. TextFault (ShapeOf stepped) names text x) same (fails_text (ShapeOf stepped) names text before after t within whole h.obeys (token_fails names stepped start n.1 before t n.0 f h step))
  from within is (at_end n run result) =
      let value = failed_first (λ a. (a, n.1)) (acts_value n.0 (length text)) fault (sym result ∙ is) in
      let h = reached names stepped lone run in
      subst (λ x. TextFault (ShapeOf stepped) names text x) (early_end n.0 (length text) fault value)
      (early within h.obeys (reader_begins names stepped start n.0 (tokens_of text) n.1 h.held) (λ shape. ends_early names stepped start (length text) (tokens_of text) n.0 n.1 fault run value shape))

  go : (b : Bool) → ltb 4096 (length text) ≡ b → (if b then Err (TooLong 0) else text_acts names stepped start text) ≡ Err fault → TextFault (ShapeOf stepped) names text fault
  go true much is = let same : TooLong 0 ≡ fault = cc in subst (λ x. TextFault (ShapeOf stepped) names text x) same (long (ltb-true 4096 (length text) much))
  go false few is = from (ltb-false 4096 (length text) few) is (text_outcome names stepped start text)

-- A text that is read breaks no rule.
pub text_obeys : (names : Names) (stepped : Bool) (start : List (List ℕ)) (text : List ℕ) (x : ReadActs × List (List ℕ)) → IsLone stepped [] → acts_reading names stepped start text ≡ Ok x → Obeys names (tokens_of text)
unfolding acts_reading
text_obeys names stepped start text x lone e =
    let it = not_past (ltb 4096 (length text)) (text_acts names stepped start text) (TooLong 0) x e in
    let all = to_the_end (acts_steps_in names stepped) (acts_worth (length text)) (fresh_acts, start) (tokens_of text) x it.1 in
    let h = reached names stepped lone all.1 in h.obeys

-- ---- the clauses

due_fault : {A : Type 0} (due : Result (A × List (List ℕ)) ActFault) (fault : ActFault) (left : List (List ℕ)) (IsDue : ActFault → Type 0) → ((f : ActFault) → due ≡ Err f → IsDue f) → AnswersWith due (Err fault) left → Faults IsDue fault
due_fault due NoMemory left IsDue is h = tt
due_fault due (Syntax at) left IsDue is h = is (Syntax at) h
due_fault due (UnknownName at) left IsDue is h = is (UnknownName at) h
due_fault due (WideNumber at) left IsDue is h = is (WideNumber at) h
due_fault due (Arity at) left IsDue is h = is (Arity at) h
due_fault due (TooLong at) left IsDue is h = is (TooLong at) h

-- what has one fault is refused with it
one_fault : (A : Type 0) (IsDue : ActFault → Type 0) → ((f g : ActFault) → IsDue f → IsDue g → f ≡ g) → (fault other : ActFault) → Faults IsDue fault → IsDue other → Answers {A = A} (Err other) (Err fault)
one_fault A IsDue same NoMemory other h is = tt
one_fault A IsDue same (Syntax at) other h is = ap (λ x. Err x) (same other (Syntax at) is h)
one_fault A IsDue same (UnknownName at) other h is = ap (λ x. Err x) (same other (UnknownName at) is h)
one_fault A IsDue same (WideNumber at) other h is = ap (λ x. Err x) (same other (WideNumber at) is h)
one_fault A IsDue same (Arity at) other h is = ap (λ x. Err x) (same other (Arity at) is h)
one_fault A IsDue same (TooLong at) other h is = ap (λ x. Err x) (same other (TooLong at) is h)

-- The clauses of `read_act` that say what a refusal is.
pub act_answers_fault : (names : Names) (marks : List (List ℕ)) (text : List ℕ) (fault : ActFault) (left : List (List ℕ)) → AnswersWith (act_reading names marks text) (Err fault) left → Faults (TextFault StmtsShape names text) fault
unfolding act_reading
act_answers_fault names marks text fault left h =
    due_fault (act_reading names marks text) fault left (TextFault StmtsShape names text)
    (λ f e. text_fault names false marks text f refl (failed_first (λ read. (read.0.last, read.1)) (acts_reading names false marks text) f e)) h

pub act_refused_first : (names : Names) (marks : List (List ℕ)) (text : List ℕ) (fault : ActFault) (left : List (List ℕ)) → AnswersWith (act_reading names marks text) (Err fault) left
    → (other : ActFault) → TextFault StmtsShape names text other → Answers {A = Act} (Err other) (Err fault)
act_refused_first names marks text fault left h other is =
    one_fault Act (TextFault StmtsShape names text) (λ f g a b. same_fault StmtsShape names text a b) fault other (act_answers_fault names marks text fault left h) is

-- What is read has no fault.
pub act_read_first : (names : Names) (marks : List (List ℕ)) (text : List ℕ) (act : Act) (left : List (List ℕ)) → act_reading names marks text ≡ Ok (act, left) → (fault : ActFault) → TextFault StmtsShape names text fault → ⊥
unfolding act_reading
act_read_first names marks text act left e fault is =
    let spelled = act_answers_spelled names marks text (Ok act) left e in
    let read = passed (acts_reading names false marks text) (λ read. Ok (read.0.last, read.1)) (act, left) e in
    no_fault StmtsShape names text spelled.short (stmts_shape spelled.spelled.spelled) (text_obeys names false marks text read.0 refl read.1) is

-- The same of `read_steps`.
pub steps_answers_fault : (names : Names) (marks : List (List ℕ)) (text : List ℕ) (fault : ActFault) (left : List (List ℕ)) → AnswersWith (steps_reading names marks text) (Err fault) left → Faults (TextFault StepsShape names text) fault
unfolding steps_reading
steps_answers_fault names marks text fault left h =
    due_fault (steps_reading names marks text) fault left (TextFault StepsShape names text)
    (λ f e. text_fault names true marks text f tt (failed_first (λ read. (read.0.earlier ++ read.0.last ∷ [], read.1)) (acts_reading names true marks text) f e)) h

pub steps_refused_first : (names : Names) (marks : List (List ℕ)) (text : List ℕ) (fault : ActFault) (left : List (List ℕ)) → AnswersWith (steps_reading names marks text) (Err fault) left
    → (other : ActFault) → TextFault StepsShape names text other → Answers {A = Vec Act Global} (Err other) (Err fault)
steps_refused_first names marks text fault left h other is =
    one_fault (Vec Act Global) (TextFault StepsShape names text) (λ f g a b. same_fault StepsShape names text a b) fault other (steps_answers_fault names marks text fault left h) is

pub steps_read_first : (names : Names) (marks : List (List ℕ)) (text : List ℕ) (steps : Vec Act Global) (left : List (List ℕ)) → steps_reading names marks text ≡ Ok (steps.items, left) → (fault : ActFault) → TextFault StepsShape names text fault → ⊥
unfolding steps_reading
steps_read_first names marks text steps left e fault is =
    let spelled = steps_answers_spelled names marks text (Ok steps) left e in
    let read = passed (acts_reading names true marks text) (λ read. Ok (read.0.earlier ++ read.0.last ∷ [], read.1)) (steps.items, left) e in
    no_fault StepsShape names text spelled.short (steps_shape spelled.spelled) (text_obeys names true marks text read.0 tt read.1) is
