-- A guard that is refused has the fault that its tokens tell.
use Rattle.std.proofs.Common.{◌≡◌, ◌≤◌, ◌⊎◌, inl, inr, ℕ, Bool, true, false, ltb, List, [], ◌∷◌, ◌++◌, length, Result, Ok, Err, refl, sym, ap, ◌∙◌, subst, append_assoc, arith, if◌then◌else◌, IfErr}
use Rattle.std.proofs.lemmas.Bool.{ltb-true, ltb-false}
use Rattle.pssm_acts.specs.declared.act_fault.ActFault.{ActFault}
use Rattle.pssm_acts.specs.declared.act_fault.ActFault.TheVariants.{Syntax, UnknownName, WideNumber, Arity, TooLong, NoMemory}
use Rattle.pssm_acts.specs.declared.guard_reader.GuardReader.{GuardReader}
use Rattle.pssm_semantics.specs.declared.setting.Names.{Names}
use Rattle.pssm_acts.specs.declared.token.Kind.{Kind}
use Rattle.pssm_acts.specs.declared.token.Kind.TheVariants as kinds
use Rattle.pssm_semantics.specs.declared.tree.Cond.{Cond}
use Rattle.pssm_acts.specs.Answers.{Answers, Faults}
use Rattle.pssm_acts.specs.Grammar.{Either}
use Rattle.pssm_acts.specs.inner.GuardReading.{fresh_guard, guard_step, guard_value, text_reading, cond_reading}
use Rattle.pssm_acts.specs.Shapes.{GuardShape, Begins}
use Rattle.pssm_acts.specs.TextFaults.{Place, Statement, Operand, Breaks, unknown, wide, sent, marked, level, Obeys, TextFault, long, early}
use Rattle.pssm_acts.specs.TextFaults as rules
use Rattle.pssm_acts.specs.Tokens.{Token, tokens_of}
use Rattle.pssm_acts.proofs.AnswerLaws.{not_past}
use Rattle.pssm_acts.proofs.CondLaws.{reading_spelled}
use Rattle.pssm_acts.proofs.EndLaws.{guard_ends}
use Rattle.pssm_acts.proofs.ExprTold.{guard_levels, guard_told}
use Rattle.pssm_acts.proofs.FareLaws.{fares_other, fares_from, fares_whole}
use Rattle.pssm_acts.proofs.Fares.{IsOther, Fares, Among}
use Rattle.pssm_acts.proofs.GuardBegins.{guard_begins, guard_other}
use Rattle.pssm_acts.proofs.GuardFares.{guard_fares, chain_read}
use Rattle.pssm_acts.proofs.GuardHeld.{Held, held_more, held_start}
use Rattle.pssm_acts.proofs.GuardRead.{guard_steps_in, ends_guard}
use Rattle.pssm_acts.proofs.Readers.{Leads, done, one, onward, first_of, parted, kept, Outcome, at_token, at_end, outcome, to_the_end}
use Rattle.pssm_acts.proofs.RuleLaws.{obeys_none, obeys_more, fits_breaks, fault_breaks, Fails, misplaced_there, broken_there, fails_text, same_fault, no_fault}
use Rattle.pssm_acts.proofs.ShapeLaws.{guard_shape}
use Rattle.pssm_acts.proofs.Tallies.{Tally, tally, tally_behind, operand, Fits, Taken, taken_fits, Exceeds, IsFaultOf, KnownSignals, tally_none, tally_more}
use Rattle.pssm_acts.proofs.Tallies as tallies

-- ---- runs

abbrev Run : Names → GuardReader → List Token → GuardReader → Type 0
Run names r ts n = Leads (guard_steps_in names 16) r ts n

-- A token that is refused for its place goes on with nothing of the shape, and a text that ends too early has not the shape.
goes_no_further : (names : Names) (before : List Token) (t : Token) (r : GuardReader) (fault : ActFault) → Run names fresh_guard before r → guard_step names 16 r t ≡ Err fault → Begins (GuardShape Either) (before ++ t ∷ []) → IsOther fault
goes_no_further names before t r fault run step b =
    let parted = subst (λ x. Fares (guard_steps_in names 16) (Among (chain_read [])) fresh_guard x) (append_assoc before (t ∷ []) b.more) (guard_fares names 16 [] b.shape) in
    fares_other t b.more fault refl step (fares_from (Among (chain_read [])) (t ∷ b.more) run parted)

ends_early : (names : Names) (end : ℕ) (ts : List Token) (r : GuardReader) (fault : ActFault) → Run names fresh_guard ts r → guard_value r end ≡ Err fault → GuardShape Either ts → ⊥
ends_early names end ts r fault run e shape =
    let last = fares_whole (Among (chain_read [])) run (guard_fares names 16 [] shape) in
    let is = ap (λ x. guard_value x end) last.1 ∙ ends_guard end last.0.0 last.0.1.stage last.0.1.cond last.0.1.stands in
    absurd cc

-- ---- what a run tells

-- no statement has begun
abbrev plain : Place → ℕ → Tally
plain p levels = record { place = p; levels = levels; begun = 0; steps = 0 }

abbrev IsPlain : Place → Type 0
IsPlain Statement = Unit {0}
IsPlain Operand = Unit {0}
IsPlain p = ⊥

fits_plain : (names : Names) (word : List ℕ) (l : ℕ) (p : Place) → IsPlain p → (kind : Kind) → Fits kind names word (operand l 0 0) → Fits kind names word (plain p l)
fits_plain names word l Operand is kind h = h
fits_plain names word l Statement is kinds.Name h = (h.0, λ e. omega arith)
fits_plain names word l Statement is kind h = h
fits_plain names word l rules.Receiver is kind h = absurd is
fits_plain names word l rules.Signal is kind h = absurd is
fits_plain names word l rules.Mark is kind h = absurd is

exceeds_plain : (names : Names) (t : Token) (l : ℕ) (p : Place) → Exceeds names t (operand l 0 0) → Exceeds names t (plain p l)
exceeds_plain names t l p (tallies.level opens deep) = tallies.level opens deep
exceeds_plain names t l p (tallies.statement begins many) = absurd (omega (arith, many))
exceeds_plain names t l p (tallies.step is late) = absurd (omega (arith, late))

fault_plain : (names : Names) (t : Token) (l : ℕ) (p : Place) → IsPlain p → (fault : ActFault) → IsFaultOf fault ⊥ names t (operand l 0 0) → IsFaultOf fault ⊥ names t (plain p l)
fault_plain names t l p is (TooLong k) h = (h.0, exceeds_plain names t l p h.1)
fault_plain names t l Operand is (UnknownName k) h = h
fault_plain names t l Statement is (UnknownName k) h = h
fault_plain names t l rules.Receiver is (UnknownName k) h = absurd is
fault_plain names t l rules.Signal is (UnknownName k) h = absurd is
fault_plain names t l rules.Mark is (UnknownName k) h = absurd is
fault_plain names t l p is (Syntax k) h = h
fault_plain names t l p is (WideNumber k) h = h
fault_plain names t l p is (Arity k) h = h
fault_plain names t l p is NoMemory h = h

step_tells : (names : Names) (r : GuardReader) (t : Token)
    → KnownSignals (λ n. Taken t.kind names t.word (guard_levels r 0) (guard_levels n 0)) ⊥ names t (operand (guard_levels r 0) 0 0) (guard_step names 16 r t)
step_tells names r t = guard_told ⊥ names 16 0 0 0 (omega arith) r t.kind t.at t.word

taken_tells : (names : Names) (r n : GuardReader) (t : Token) → guard_step names 16 r t ≡ Ok n → Taken t.kind names t.word (guard_levels r 0) (guard_levels n 0)
taken_tells names r n t step = subst (λ x. KnownSignals (λ m. Taken t.kind names t.word (guard_levels r 0) (guard_levels m 0)) ⊥ names t (operand (guard_levels r 0) 0 0) x) step (step_tells names r t)

-- each token is taken
taken_in : (names : Names) {r n : GuardReader} {xs : List Token} (earlier rest : List Token) (u : Token) → xs ≡ earlier ++ u ∷ rest → Run names r xs n → (m : GuardReader) × (k : GuardReader) × (guard_step names 16 m u ≡ Ok k)
taken_in names {r} {n} earlier rest u same run =
    let parts = parted earlier (u ∷ rest) (subst (λ x. Run names r x n) same run) in
    let it = first_of u rest refl parts.2 in
    (parts.0, it.0, it.1)

-- No send and no mark stands in a guard.
counts_none : (names : Names) (ts : List Token) (n : GuardReader) (before : List Token) (t : Token) {fault : ActFault} → before ++ t ∷ [] ≡ ts → Run names fresh_guard ts n → fault ≡ Arity t.at → Breaks names before t fault → ⊥
counts_none names ts n before t same run is (unknown name un) = absurd cc
counts_none names ts n before t same run is (wide digits never) = absurd cc
counts_none names ts n before t same run is (level opens deep) = absurd cc
counts_none names ts n before t same run is (rules.statement begins many) = absurd cc
counts_none names ts n before t same run is (rules.step steps late) = absurd cc
counts_none names ts n before t same run is (sent earlier us dot name e dots names' found spelled wrong) =
    let it = taken_in names earlier (name ∷ us) dot (sym same ∙ e) run in
    subst (λ k. Taken k names dot.word (guard_levels it.0 0) (guard_levels it.1 0)) dots (taken_tells names it.0 it.1 dot it.2)
counts_none names ts n before t same run is (marked earlier us mark name e marks names' spelled wrong) =
    let it = taken_in names earlier (name ∷ us) mark (sym same ∙ e) run in
    subst (λ k. Taken k names mark.word (guard_levels it.0 0) (guard_levels it.1 0)) marks (taken_tells names it.0 it.1 mark it.2)

-- The reader has come so far with these tokens.
record Reached (names : Names) (ts : List Token) (r : GuardReader) : Type 0 where
  run : Run names fresh_guard ts r
  held : Held names 16 r ts
  at : Place
  told : tally ts ≡ plain at (guard_levels r 0)
  is : IsPlain at
  obeys : Obeys names ts

reached_start : (names : Names) → Reached names [] fresh_guard
reached_start names = record { run = done; held = held_start names 16; at = Statement; told = tally_none; is = tt; obeys = obeys_none names }

reached_more : (names : Names) (ts : List Token) (t : Token) (r n : GuardReader) → Reached names ts r → guard_step names 16 r t ≡ Ok n → Reached names (ts ++ t ∷ []) n
reached_more names ts t r n h step =
    let fits = taken_fits names t.word (guard_levels r 0) (guard_levels n 0) 0 0 t.kind (taken_tells names r n t step) in
    let run : Run names fresh_guard (ts ++ t ∷ []) n = onward h.run (one step) in
    record {
      run = run;
      held = held_more names 16 r n ts t step h.held;
      at = Operand;
      told = tally_more ts t ∙ ap (tally_behind t.kind) h.told ∙ fits.1;
      is = tt;
      obeys = obeys_more names ts t h.obeys
          (λ fault breaks. fits_breaks names ts t (subst (λ c. Fits t.kind names t.word c) (sym h.told) (fits_plain names t.word (guard_levels r 0) h.at h.is t.kind fits.0)) (λ wrong. counts_none names (ts ++ t ∷ []) n ts t refl run refl wrong) breaks);
    }

-- The token at which the reader stops fails.
token_fails : (names : Names) (ts : List Token) (t : Token) (r : GuardReader) (fault : ActFault) → Reached names ts r → guard_step names 16 r t ≡ Err fault → Fails (GuardShape Either) names ts t fault
token_fails names ts t r fault h step = go fault step told where
  told : IsFaultOf fault ⊥ names t (tally ts)
  told =
      subst (λ c. IsFaultOf fault ⊥ names t c) (sym h.told)
      (fault_plain names t (guard_levels r 0) h.at h.is fault
      (subst (λ x. KnownSignals (λ m. Taken t.kind names t.word (guard_levels r 0) (guard_levels m 0)) ⊥ names t (operand (guard_levels r 0) 0 0) x) step (step_tells names r t)))

  other : (f : ActFault) → guard_step names 16 r t ≡ Err f → IsOther f → IsFaultOf f ⊥ names t (tally ts) → Fails (GuardShape Either) names ts t f
  other f is free is' = broken_there (guard_other names 16 r ts t f is free h.held) (fault_breaks ⊥ names ts t f (λ wrong. absurd wrong) is' free)

  go : (f : ActFault) → guard_step names 16 r t ≡ Err f → IsFaultOf f ⊥ names t (tally ts) → Fails (GuardShape Either) names ts t f
  go (Syntax k) is at =
      subst (λ x. Fails (GuardShape Either) names ts t (Syntax x)) (sym at) (misplaced_there (guard_begins names 16 r ts h.held) (λ b. goes_no_further names ts t r (Syntax k) h.run is b))
  go (UnknownName k) is at = other (UnknownName k) is tt at
  go (WideNumber k) is at = other (WideNumber k) is tt at
  go (Arity k) is at = other (Arity k) is tt at
  go (TooLong k) is at = other (TooLong k) is tt at
  go NoMemory is at = absurd at

-- ---- texts

reached : (names : Names) {ts : List Token} {r : GuardReader} → Run names fresh_guard ts r → Reached names ts r
reached names run = kept (λ r ts. Reached names ts r) (λ s n us t step h. reached_more names us t s n h step) [] run (reached_start names)

text_outcome : (names : Names) (text : List ℕ) → Outcome (guard_steps_in names 16) (λ r. guard_value r (length text)) fresh_guard (tokens_of text) (text_reading names text)
text_outcome names text = outcome (guard_steps_in names 16) (λ r. guard_value r (length text)) fresh_guard (tokens_of text)

early_end : (r : GuardReader) (end : ℕ) (fault : ActFault) → guard_value r end ≡ Err fault → Syntax end ≡ fault
early_end r end fault e = go (guard_ends r) where
  go : (((c : Cond) × ((at : ℕ) → guard_value r at ≡ Ok c)) ⊎ ((at : ℕ) → guard_value r at ≡ Err (Syntax at))) → Syntax end ≡ fault
  go (inl ends) = let is = ends.1 end in absurd cc
  go (inr stops) = let is = stops end in cc

-- A text that is refused has the fault.
pub refused : (names : Names) (text : List ℕ) (fault : ActFault) → cond_reading names text ≡ Err fault → TextFault (GuardShape Either) names text fault
unfolding cond_reading
refused names text fault e = go (ltb 4096 (length text)) refl e where
  from : length text ≤ 4096 → text_reading names text ≡ Err fault → Outcome (guard_steps_in names 16) (λ r. guard_value r (length text)) fresh_guard (tokens_of text) (text_reading names text) → TextFault (GuardShape Either) names text fault
  from within is (at_token before after t r f whole run step result) =
      let same : f ≡ fault = cc in
      let h = reached names run in
      subst (λ x. TextFault (GuardShape Either) names text x) same (fails_text (GuardShape Either) names text before after t within whole h.obeys (token_fails names before t r f h step))
  from within is (at_end r run result) =
      let value = sym result ∙ is in
      let h = reached names run in
      subst (λ x. TextFault (GuardShape Either) names text x) (early_end r (length text) fault value)
      (early within h.obeys (guard_begins names 16 r (tokens_of text) h.held) (λ shape. ends_early names (length text) (tokens_of text) r fault run value shape))

  go : (b : Bool) → ltb 4096 (length text) ≡ b → (if b then Err (TooLong 0) else text_reading names text) ≡ Err fault → TextFault (GuardShape Either) names text fault
  go true much is = let same : TooLong 0 ≡ fault = cc in subst (λ x. TextFault (GuardShape Either) names text x) same (long (ltb-true 4096 (length text) much))
  go false few is = from (ltb-false 4096 (length text) few) is (text_outcome names text)

-- A text that is read breaks no rule.
pub text_obeys : (names : Names) (text : List ℕ) (c : Cond) → cond_reading names text ≡ Ok c → Obeys names (tokens_of text)
unfolding cond_reading
text_obeys names text c e =
    let it = not_past (ltb 4096 (length text)) (text_reading names text) (TooLong 0) c e in
    let all = to_the_end (guard_steps_in names 16) (λ r. guard_value r (length text)) fresh_guard (tokens_of text) c it.1 in
    let h = reached names all.1 in h.obeys

-- The clauses of `read_cond` that say what a refusal is.
pub answers_fault : (names : Names) (text : List ℕ) (r : Result Cond ActFault) → Answers (cond_reading names text) r → IfErr r (λ fault. Faults (TextFault (GuardShape Either) names text) fault)
answers_fault names text (Ok c) h = tt
answers_fault names text (Err NoMemory) h = tt
answers_fault names text (Err (Syntax at)) h = refused names text (Syntax at) h
answers_fault names text (Err (UnknownName at)) h = refused names text (UnknownName at) h
answers_fault names text (Err (WideNumber at)) h = refused names text (WideNumber at) h
answers_fault names text (Err (Arity at)) h = refused names text (Arity at) h
answers_fault names text (Err (TooLong at)) h = refused names text (TooLong at) h

pub answers_first : (names : Names) (text : List ℕ) (r : Result Cond ActFault) → Answers (cond_reading names text) r → (fault : ActFault) → TextFault (GuardShape Either) names text fault → Answers (Err fault) r
answers_first names text r h fault is = subst (λ due. Answers due r) (go (cond_reading names text) refl) h where
  go : (x : Result Cond ActFault) → cond_reading names text ≡ x → x ≡ Err fault
  go (Ok c) e = let spelled = reading_spelled names text c e in absurd (no_fault (GuardShape Either) names text spelled.short (guard_shape spelled.spelled) (text_obeys names text c e) is)
  go (Err other) e = ap (λ f. Err f) (same_fault (GuardShape Either) names text (refused names text other e) is)
