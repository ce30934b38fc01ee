-- What is read as an assignment, a send or a mark is spelled so.
use Rattle.std.proofs.Common.{◌≡◌, ◌≤◌, ◌-◌, ◌<◌, ℕ, suc, Bool, true, false, ltb, eqb, List, [], ◌∷◌, ◌++◌, length, Option, Some, None, Result, Ok, Err, refl, sym, ap, ◌∙◌, subst, append_assoc, arith, position, bytes_eq, if◌then◌else◌}
use Rattle.std.proofs.lemmas.Bool.{ltb-true, ltb-false, eqb-true}
use Rattle.pssm_model.specs.declared.ids.MarkId.{MarkId}
use Rattle.pssm_model.specs.declared.ids.SignalId.{SignalId}
use Rattle.pssm_acts.specs.declared.act_fault.ActFault.{ActFault}
use Rattle.pssm_acts.specs.declared.act_fault.ActFault.TheVariants.{Arity, TooLong}
use Rattle.pssm_acts.specs.declared.argument_reader.Arguments.{Arguments}
use Rattle.pssm_acts.specs.declared.argument_reader.Arguments.TheVariants.{Opened}
use Rattle.pssm_acts.specs.declared.argument_reader.Argued.{Argued}
use Rattle.pssm_acts.specs.declared.argument_reader.Argued.TheVariants as arguments
use Rattle.pssm_semantics.specs.declared.entry.ObjectId.{ObjectId}
use Rattle.pssm_acts.specs.declared.expr_reader.ExprReader.{ExprReader}
use Rattle.pssm_acts.specs.declared.phrase_reader.Call.{Call}
use Rattle.pssm_acts.specs.declared.phrase_reader.Call.TheVariants as calls
use Rattle.pssm_acts.specs.declared.phrase_reader.Phrase.{Phrase}
use Rattle.pssm_acts.specs.declared.phrase_reader.Phrase.TheVariants.{Variable, Value, Receiver, Dotted, Named, Called, Whole}
use Rattle.pssm_acts.specs.declared.phrase_reader.Phrase.TheVariants as phrases
use Rattle.pssm_acts.specs.declared.phrase_reader.Phrased.{Phrased}
use Rattle.pssm_acts.specs.declared.phrase_reader.Phrased.TheVariants.{Goes, Ends}
use Rattle.pssm_semantics.specs.declared.setting.Names.{Names}
use Rattle.pssm_acts.specs.declared.token.Kind.{Kind}
use Rattle.pssm_acts.specs.declared.token.Kind.TheVariants as kinds
use Rattle.pssm_semantics.specs.declared.tree.Expr.{Expr}
use Rattle.pssm_semantics.specs.declared.tree.Stmt.{Stmt, Assign, Send, Mark}
use Rattle.pssm_acts.specs.ActGrammar.{SpellsArguments, NamesReceiver, object, running, SpellsPhrase, assignment, sending, bare_mark, marking}
use Rattle.pssm_acts.specs.inner.ArgumentReading.{arguments_step}
use Rattle.pssm_acts.specs.inner.ExprReading.{expr_step, expr_value, fresh_expr}
use Rattle.pssm_acts.specs.Marks.{mark_of, with_mark}
use Rattle.pssm_acts.specs.inner.PhraseReading.{beside, signal_count, signal_found, variable_begun, phrase_begun, became, value_read, object_read, receiver_read, dotted, signal_named, signal_read, mark_read, named, call_made, argued, argument_read, called_ended, phrase_step}
use Rattle.pssm_acts.specs.Tokens.{Token}
use Rattle.pssm_acts.proofs.AnswerLaws.{never_read, read_same, passed}
use Rattle.pssm_acts.proofs.ExprHeld.{ExprHeld, token_as, expr_more, expr_whole, expr_start}
use Rattle.pssm_acts.proofs.ArgumentHeld.{ArguedHeld, arguments_held}
use Rattle.pssm_acts.proofs.PhraseTokens.{VariableHeld, ValueHeld, WordHeld, ReceiverHeld, DottedHeld, SendHeld, MarkHeld, CallHeld, CalledHeld, PhraseHeld, PhrasedHeld}

module _ (names : Names) (noted : List (List ℕ)) (l : ℕ) where
  begun_held : (phrase : Phrase) (kind : Kind) (at : ℕ) (word : List ℕ) → phrase_begun names (token_as at kind word) ≡ Ok phrase → PhraseHeld names noted l phrase (token_as at kind word ∷ []) noted
  unfolding phrase_begun
  begun_held phrase kinds.Name at word step = go (position (λ n. bytes_eq n word) names.vars) refl step where
    go : (r : Option ℕ) → position (λ n. bytes_eq n word) names.vars ≡ r → variable_begun at r ≡ Ok phrase → PhraseHeld names noted l phrase (token_as at kinds.Name word ∷ []) noted
    go (Some x) e is =
        let same = read_same (Variable x) phrase is in
        let held : PhraseHeld names noted l (Variable x) (token_as at kinds.Name word ∷ []) noted = (record { variable = token_as at kinds.Name word; is = refl; found = e; whole = refl }, refl) in
        subst (λ p. PhraseHeld names noted l p (token_as at kinds.Name word ∷ []) noted) same held
    go None e is = absurd (never_read _ _ is)
  begun_held phrase kinds.Send at word step =
      let same = read_same (phrases.Send) phrase step in
      let held : PhraseHeld names noted l phrases.Send (token_as at kinds.Send word ∷ []) noted = (record { word = token_as at kinds.Send word; is = refl; whole = refl }, refl) in
      subst (λ p. PhraseHeld names noted l p (token_as at kinds.Send word ∷ []) noted) same held
  begun_held phrase kinds.Mark at word step =
      let same = read_same (phrases.Mark) phrase step in
      let held : PhraseHeld names noted l phrases.Mark (token_as at kinds.Mark word ∷ []) noted = (record { word = token_as at kinds.Mark word; is = refl; whole = refl }, refl) in
      subst (λ p. PhraseHeld names noted l p (token_as at kinds.Mark word ∷ []) noted) same held
  begun_held phrase kind at word step = absurd (never_read _ _ step)

  became_held : (x : ℕ) (n : Phrased) (ts : List Token) (kind : Kind) (at : ℕ) (word : List ℕ) → became x (token_as at kind word) ≡ Ok n → VariableHeld names x ts → PhrasedHeld names noted l n (ts ++ token_as at kind word ∷ []) noted
  unfolding became
  became_held x n ts kinds.Becomes at word step h =
      let t = token_as at kinds.Becomes word in
      let same = read_same (Goes (Value x fresh_expr)) n step in
      let held : PhrasedHeld names noted l (Goes (Value x fresh_expr)) (ts ++ t ∷ []) noted =
      (record { variable = h.variable; becomes = t; us = []; is = h.is; found = h.found; assigns = refl; held = expr_start names l; whole = ap (λ xs. xs ++ t ∷ []) h.whole }, refl) in
      subst (λ p. PhrasedHeld names noted l p (ts ++ t ∷ []) noted) same held
  became_held x n ts kind at word step h = absurd (never_read _ _ step)

  value_held : (x : ℕ) (reader : ExprReader) (n : Phrased) (ts : List Token) (kind : Kind) (at : ℕ) (word : List ℕ) → value_read names l x reader (token_as at kind word) ≡ Ok n → ValueHeld names l x reader ts
      → PhrasedHeld names noted l n (ts ++ token_as at kind word ∷ []) noted
  unfolding value_read
  value_held x reader n ts kinds.Semicolon at word step h =
      let it = passed (expr_value reader at) (λ e. Ok (Ends (Assign x e))) n step in
      let t = token_as at kinds.Semicolon word in
      let same = read_same (Ends (Assign x it.0)) n it.2 in
      let spelled : SpellsPhrase names noted l (h.variable ∷ h.becomes ∷ (h.us ++ t ∷ [])) (Assign x it.0) noted = assignment t h.is h.found h.assigns (expr_whole names l reader at h.us it.0 it.1 h.held) refl in
      let held : PhrasedHeld names noted l (Ends (Assign x it.0)) (ts ++ t ∷ []) noted = subst (λ xs. SpellsPhrase names noted l xs (Assign x it.0) noted) (sym (ap (λ xs. xs ++ t ∷ []) h.whole)) spelled in
      subst (λ p. PhrasedHeld names noted l p (ts ++ t ∷ []) noted) same held
  value_held x reader n ts kind at word step h =
      let it = passed (expr_step names l reader (token_as at kind word)) (λ more. Ok (Goes (Value x more))) n step in
      let t = token_as at kind word in
      let same = read_same (Goes (Value x it.0)) n it.2 in
      let read : ExprHeld names l it.0 (h.us ++ t ∷ []) = expr_more names l reader.outer reader.left reader.place it.0 h.us kind at word it.1 h.held in
      let held : PhrasedHeld names noted l (Goes (Value x it.0)) (ts ++ t ∷ []) noted =
      (record { variable = h.variable; becomes = h.becomes; us = h.us ++ t ∷ []; is = h.is; found = h.found; assigns = h.assigns; held = read; whole = ap (λ xs. xs ++ t ∷ []) h.whole }, refl) in
      subst (λ p. PhrasedHeld names noted l p (ts ++ t ∷ []) noted) same held

  -- the object to which a signal is sent
  received : (to : Option ObjectId) (ts : List Token) (t : Token) → NamesReceiver names t to → WordHeld kinds.Send ts → PhrasedHeld names noted l (Goes (Receiver to)) (ts ++ t ∷ []) noted
  received to ts t receives h = (record { send = h.word; receiver = t; is = h.is; receives = receives; whole = ap (λ xs. xs ++ t ∷ []) h.whole }, refl)

  receiver_held : (n : Phrased) (ts : List Token) (kind : Kind) (at : ℕ) (word : List ℕ) → receiver_read names (token_as at kind word) ≡ Ok n → WordHeld kinds.Send ts → PhrasedHeld names noted l n (ts ++ token_as at kind word ∷ []) noted
  unfolding receiver_read
  receiver_held n ts kinds.Own at word step h =
      let same = read_same (Goes (Receiver None)) n step in
      subst (λ p. PhrasedHeld names noted l p (ts ++ token_as at kinds.Own word ∷ []) noted) same (received None ts (token_as at kinds.Own word) (running refl) h)
  receiver_held n ts kinds.Name at word step h = go (position (λ n. bytes_eq n word) names.objects) refl step where
    go : (r : Option ℕ) → position (λ n. bytes_eq n word) names.objects ≡ r → object_read at r ≡ Ok n → PhrasedHeld names noted l n (ts ++ token_as at kinds.Name word ∷ []) noted
    go (Some o) e is =
        let it : ObjectId = record { 0 = o } in
        let same = read_same (Goes (Receiver (Some it))) n is in
        subst (λ p. PhrasedHeld names noted l p (ts ++ token_as at kinds.Name word ∷ []) noted) same (received (Some it) ts (token_as at kinds.Name word) (object refl e) h)
    go None e is = absurd (never_read _ _ is)
  receiver_held n ts kind at word step h = absurd (never_read _ _ step)

  dotted_held : (to : Option ObjectId) (n : Phrased) (ts : List Token) (kind : Kind) (at : ℕ) (word : List ℕ) → dotted to (token_as at kind word) ≡ Ok n → ReceiverHeld names to ts → PhrasedHeld names noted l n (ts ++ token_as at kind word ∷ []) noted
  unfolding dotted
  dotted_held to n ts kinds.Dot at word step h =
      let t = token_as at kinds.Dot word in
      let same = read_same (Goes (Dotted to)) n step in
      let held : PhrasedHeld names noted l (Goes (Dotted to)) (ts ++ t ∷ []) noted =
      (record { send = h.send; receiver = h.receiver; dot = t; is = h.is; receives = h.receives; dots = refl; whole = ap (λ xs. xs ++ t ∷ []) h.whole }, refl) in
      subst (λ p. PhrasedHeld names noted l p (ts ++ t ∷ []) noted) same held
  dotted_held to n ts kind at word step h = absurd (never_read _ _ step)

  signal_held : (to : Option ObjectId) (n : Phrased) (ts : List Token) (kind : Kind) (at : ℕ) (word : List ℕ) → signal_read names to (token_as at kind word) ≡ Ok n → DottedHeld names to ts → PhrasedHeld names noted l n (ts ++ token_as at kind word ∷ []) noted
  unfolding signal_read
  signal_held to n ts kinds.Name at word step h = go (position (λ d. bytes_eq d.name word) names.signals) refl step where
    go : (r : Option ℕ) → position (λ d. bytes_eq d.name word) names.signals ≡ r → signal_named at to (signal_found names.signals r) ≡ Ok n → PhrasedHeld names noted l n (ts ++ token_as at kinds.Name word ∷ []) noted
    go (Some s) e is =
        let t = token_as at kinds.Name word in
        let signal : SignalId = record { 0 = s } in
        let same = read_same (Goes (Named (calls.Send to signal (signal_count names.signals s)))) n is in
        let held : PhrasedHeld names noted l (Goes (Named (calls.Send to signal (signal_count names.signals s)))) (ts ++ t ∷ []) noted =
        (record { send = h.send; receiver = h.receiver; dot = h.dot; name = t; is = h.is; receives = h.receives; dots = h.dots; names' = refl; found = e; counts = refl; whole = ap (λ xs. xs ++ t ∷ []) h.whole }, refl) in
        subst (λ p. PhrasedHeld names noted l p (ts ++ t ∷ []) noted) same held
    go None e is = absurd (never_read _ _ is)
  signal_held to n ts kind at word step h = absurd (never_read _ _ step)

  mark_held : (n : Phrased × List (List ℕ)) (ts : List Token) (kind : Kind) (at : ℕ) (word : List ℕ) → mark_read noted (token_as at kind word) ≡ Ok n → WordHeld kinds.Mark ts → PhrasedHeld names noted l n.0 (ts ++ token_as at kind word ∷ []) n.1
  unfolding mark_read
  mark_held n ts kinds.Name at word step h =
      let t = token_as at kinds.Name word in
      let due : Phrased × List (List ℕ) = (Goes (Named (calls.Mark (mark_of noted word))), with_mark noted word) in
      let same = read_same due n step in
      let held : PhrasedHeld names noted l due.0 (ts ++ t ∷ []) due.1 = record { word = h.word; name = t; is = h.is; names' = refl; which = refl; more = refl; whole = ap (λ xs. xs ++ t ∷ []) h.whole } in
      subst (λ p. PhrasedHeld names noted l p.0 (ts ++ t ∷ []) p.1) same held
  mark_held n ts kind at word step h = absurd (never_read _ _ step)

  -- a token behind the name of a signal that is sent or of a mark
  called : (call : Call) (ts : List Token) (marks : List (List ℕ)) (t : Token) → t.kind ≡ kinds.Open → 0 < l → CallHeld names noted call ts marks → PhrasedHeld names noted l (Goes (Called call Opened)) (ts ++ t ∷ []) marks
  called call ts marks t opens deep h = record { front = ts; opening = t; us = []; calls = h; opens = opens; deep = deep; held = refl; whole = refl }

  mark_ended : (mark : MarkId) (ts : List Token) (marks : List (List ℕ)) (t : Token) → t.kind ≡ kinds.Semicolon → MarkHeld noted mark ts marks → SpellsPhrase names noted l (ts ++ t ∷ []) (Mark mark []) marks
  mark_ended mark ts marks t ends h =
      let spelled : SpellsPhrase names noted l (h.word ∷ h.name ∷ t ∷ []) (Mark (mark_of noted h.name.word) []) (with_mark noted h.name.word) = bare_mark h.is h.names' ends in
      let at_tokens = subst (λ xs. SpellsPhrase names noted l xs (Mark (mark_of noted h.name.word) []) (with_mark noted h.name.word)) (sym (ap (λ xs. xs ++ t ∷ []) h.whole)) spelled in
      let at_mark = subst (λ m. SpellsPhrase names noted l (ts ++ t ∷ []) (Mark m []) (with_mark noted h.name.word)) (sym h.which) at_tokens in
      subst (λ m. SpellsPhrase names noted l (ts ++ t ∷ []) (Mark mark []) m) (sym h.more) at_mark

  named_held : (call : Call) (n : Phrased) (ts : List Token) (marks : List (List ℕ)) (kind : Kind) (at : ℕ) (word : List ℕ) → named l call (token_as at kind word) ≡ Ok n → CallHeld names noted call ts marks
      → PhrasedHeld names noted l n (ts ++ token_as at kind word ∷ []) marks
  unfolding named
  named_held call n ts marks kinds.Open at word step h = go (ltb 0 l) refl step where
    go : (b : Bool) → ltb 0 l ≡ b → (if b then Ok (Goes (Called call Opened)) else Err (TooLong at)) ≡ Ok n → PhrasedHeld names noted l n (ts ++ token_as at kinds.Open word ∷ []) marks
    go true e is =
        let t = token_as at kinds.Open word in
        let same = read_same (Goes (Called call Opened)) n is in
        subst (λ p. PhrasedHeld names noted l p (ts ++ t ∷ []) marks) same (called call ts marks t refl (ltb-true 0 l e) h)
    go false e is = absurd (never_read _ _ is)
  named_held (calls.Mark mark) n ts marks kinds.Semicolon at word step h =
      let t = token_as at kinds.Semicolon word in
      let same = read_same (Ends (Mark mark [])) n step in
      subst (λ p. PhrasedHeld names noted l p (ts ++ t ∷ []) marks) same (mark_ended mark ts marks t refl h)
  named_held (calls.Send to signal count) n ts marks kinds.Semicolon at word step h = absurd (never_read _ _ step)
  named_held call n ts marks kind at word step h = absurd (never_read _ _ step)

  -- a send or a mark with its arguments
  sent : (to : Option ObjectId) (signal : SignalId) (count : ℕ) (front us : List Token) (args : List Expr) (semicolon : Token)
      → SendHeld names to signal count front → SpellsArguments names l us args → length args ≡ count → semicolon.kind ≡ kinds.Semicolon → SpellsPhrase names noted l ((front ++ us) ++ semicolon ∷ []) (Send to signal args) noted
  sent to signal count front us args semicolon h spelled few ends =
      let whole : SpellsPhrase names noted l (h.send ∷ h.receiver ∷ h.dot ∷ h.name ∷ (us ++ semicolon ∷ [])) (Send to signal args) noted =
      sending semicolon h.is h.receives h.dots h.names' h.found spelled (few ∙ h.counts) ends in
      subst (λ xs. SpellsPhrase names noted l xs (Send to signal args) noted) (sym (ap (λ xs. (xs ++ us) ++ semicolon ∷ []) h.whole)) whole

  marked : (mark : MarkId) (front us : List Token) (args : List Expr) (marks : List (List ℕ)) (semicolon : Token)
      → MarkHeld noted mark front marks → SpellsArguments names l us args → length args ≤ 8 → semicolon.kind ≡ kinds.Semicolon → SpellsPhrase names noted l ((front ++ us) ++ semicolon ∷ []) (Mark mark args) marks
  marked mark front us args marks semicolon h spelled few ends =
      let whole : SpellsPhrase names noted l (h.word ∷ h.name ∷ (us ++ semicolon ∷ [])) (Mark (mark_of noted h.name.word) args) (with_mark noted h.name.word) = marking semicolon h.is h.names' spelled few ends in
      let at_tokens = subst (λ xs. SpellsPhrase names noted l xs (Mark (mark_of noted h.name.word) args) (with_mark noted h.name.word)) (sym (ap (λ xs. (xs ++ us) ++ semicolon ∷ []) h.whole)) whole in
      let at_mark = subst (λ m. SpellsPhrase names noted l ((front ++ us) ++ semicolon ∷ []) (Mark m args) (with_mark noted h.name.word)) (sym h.which) at_tokens in
      subst (λ m. SpellsPhrase names noted l ((front ++ us) ++ semicolon ∷ []) (Mark mark args) m) (sym h.more) at_mark

  made : (call : Call) (args : List Expr) (s : Stmt) (at : ℕ) (front us : List Token) (marks : List (List ℕ)) → call_made call args at ≡ Ok s → CallHeld names noted call front marks → SpellsArguments names l us args
      → PhrasedHeld names noted l (Goes (Whole s)) (front ++ us) marks
  unfolding call_made
  made (calls.Send to signal count) args s at front us marks step h spelled = go (eqb (length args) count) refl step where
    go : (b : Bool) → eqb (length args) count ≡ b → (if b then Ok (Send to signal args) else Err (Arity at)) ≡ Ok s → PhrasedHeld names noted l (Goes (Whole s)) (front ++ us) marks
    go true e is = λ semicolon ends.
        let same = read_same (Send to signal args) s is in
        let whole = sent to signal count front us args semicolon h.0 spelled (eqb-true (length args) count e) ends in
        subst (λ x. SpellsPhrase names noted l ((front ++ us) ++ semicolon ∷ []) x marks) same (subst (λ m. SpellsPhrase names noted l ((front ++ us) ++ semicolon ∷ []) (Send to signal args) m) (sym h.1) whole)
    go false e is = absurd (never_read _ _ is)
  made (calls.Mark mark) args s at front us marks step h spelled = go (ltb 8 (length args)) refl step where
    go : (b : Bool) → ltb 8 (length args) ≡ b → (if b then Err (Arity at) else Ok (Mark mark args)) ≡ Ok s → PhrasedHeld names noted l (Goes (Whole s)) (front ++ us) marks
    go false e is = λ semicolon ends.
        let same = read_same (Mark mark args) s is in
        let whole = marked mark front us args marks semicolon h spelled (ltb-false 8 (length args) e) ends in
        subst (λ x. SpellsPhrase names noted l ((front ++ us) ++ semicolon ∷ []) x marks) same whole
    go true e is = absurd (never_read _ _ is)

  -- a token in arguments
  argued_held : (call : Call) (n : Phrased) (ts front us : List Token) (marks : List (List ℕ)) (opening : Token) (at : ℕ) (a : Argued) → argued call a at ≡ Ok n → CallHeld names noted call front marks → opening.kind ≡ kinds.Open → 0 < l
      → ts ≡ front ++ opening ∷ us → ArguedHeld names (l - 1) a us → PhrasedHeld names noted l n ts marks
  argued_held call n ts front us marks opening at (arguments.Goes args) step h opens deep whole held =
      let same = read_same (Goes (Called call args)) n step in
      let all : CalledHeld names noted l call args ts marks = record { front = front; opening = opening; us = us; calls = h; opens = opens; deep = deep; held = held; whole = whole } in
      subst (λ p. PhrasedHeld names noted l p ts marks) same all
  argued_held call n ts front us marks opening at (arguments.Ends args) step h opens deep whole held =
      let it = passed (call_made call args at) (λ s. Ok (Goes (Whole s))) n step in
      let same = read_same (Goes (Whole it.0)) n it.2 in
      let level : suc (l - 1) ≡ l = omega arith in
      let spelled : SpellsArguments names l (opening ∷ us) args = subst (λ x. SpellsArguments names x (opening ∷ us) args) level (held opening opens) in
      let all : PhrasedHeld names noted l (Goes (Whole it.0)) (front ++ opening ∷ us) marks = made call args it.0 at front (opening ∷ us) marks it.1 h spelled in
      subst (λ p. PhrasedHeld names noted l p ts marks) same (subst (λ xs. PhrasedHeld names noted l (Goes (Whole it.0)) xs marks) (sym whole) all)

  called_held : (call : Call) (args : Arguments) (n : Phrased) (ts : List Token) (marks : List (List ℕ)) (t : Token) → argument_read names (l - 1) call args t ≡ Ok n → CalledHeld names noted l call args ts marks
      → PhrasedHeld names noted l n (ts ++ t ∷ []) marks
  unfolding argument_read
  called_held call args n ts marks t step h =
      let it = passed (arguments_step names (l - 1) args t) (λ a. argued call a t.at) n step in
      let held : ArguedHeld names (l - 1) it.0 (h.us ++ t ∷ []) = arguments_held names (l - 1) args it.0 h.us t it.1 h.held in
      argued_held call n (ts ++ t ∷ []) h.front (h.us ++ t ∷ []) marks h.opening t.at it.0 it.2 h.calls h.opens h.deep (ap (λ xs. xs ++ t ∷ []) h.whole ∙ append_assoc h.front (h.opening ∷ h.us) (t ∷ [])) held

  ended_held : (s : Stmt) (n : Phrased) (ts : List Token) (marks : List (List ℕ)) (kind : Kind) (at : ℕ) (word : List ℕ) → called_ended s (token_as at kind word) ≡ Ok n → PhraseHeld names noted l (Whole s) ts marks
      → PhrasedHeld names noted l n (ts ++ token_as at kind word ∷ []) marks
  unfolding called_ended
  ended_held s n ts marks kinds.Semicolon at word step h =
      let t = token_as at kinds.Semicolon word in
      let same = read_same (Ends s) n step in
      subst (λ p. PhrasedHeld names noted l p (ts ++ t ∷ []) marks) same (h t refl)
  ended_held s n ts marks kind at word step h = absurd (never_read _ _ step)

  -- where the marks stay as they were
  beside_held : (marks : List (List ℕ)) (r : Result Phrased ActFault) (n : Phrased × List (List ℕ)) (ts : List Token) → beside marks r ≡ Ok n → ((next : Phrased) → r ≡ Ok next → PhrasedHeld names noted l next ts marks)
      → PhrasedHeld names noted l n.0 ts n.1
  beside_held marks (Ok next) n ts step held =
      let due : Phrased × List (List ℕ) = (next, marks) in
      let same = read_same due n step in
      subst (λ p. PhrasedHeld names noted l p.0 ts p.1) same (held next refl)
  beside_held marks (Err fault) n ts step held = absurd (never_read _ _ step)

  at_marks : (marks : List (List ℕ)) (n : Phrased) (ts : List Token) → marks ≡ noted → PhrasedHeld names noted l n ts noted → PhrasedHeld names noted l n ts marks
  at_marks marks n ts same held = subst (λ m. PhrasedHeld names noted l n ts m) (sym same) held

  -- one token more
  phrase_more : (marks : List (List ℕ)) (phrase : Phrase) (n : Phrased × List (List ℕ)) (ts : List Token) (t : Token) → phrase_step names l marks phrase t ≡ Ok n → PhraseHeld names noted l phrase ts marks
      → PhrasedHeld names noted l n.0 (ts ++ t ∷ []) n.1
  unfolding phrase_step
  phrase_more marks (Variable x) n ts t step h = beside_held marks (became x t) n (ts ++ t ∷ []) step (λ next e. at_marks marks next (ts ++ t ∷ []) h.1 (became_held x next ts t.kind t.at t.word e h.0))
  phrase_more marks (Value x reader) n ts t step h = beside_held marks (value_read names l x reader t) n (ts ++ t ∷ []) step (λ next e. at_marks marks next (ts ++ t ∷ []) h.1 (value_held x reader next ts t.kind t.at t.word e h.0))
  phrase_more marks phrases.Send n ts t step h = beside_held marks (receiver_read names t) n (ts ++ t ∷ []) step (λ next e. at_marks marks next (ts ++ t ∷ []) h.1 (receiver_held next ts t.kind t.at t.word e h.0))
  phrase_more marks (Receiver to) n ts t step h = beside_held marks (dotted to t) n (ts ++ t ∷ []) step (λ next e. at_marks marks next (ts ++ t ∷ []) h.1 (dotted_held to next ts t.kind t.at t.word e h.0))
  phrase_more marks (Dotted to) n ts t step h = beside_held marks (signal_read names to t) n (ts ++ t ∷ []) step (λ next e. at_marks marks next (ts ++ t ∷ []) h.1 (signal_held to next ts t.kind t.at t.word e h.0))
  phrase_more marks phrases.Mark n ts t step h = mark_held n ts t.kind t.at t.word (subst (λ m. mark_read m t ≡ Ok n) h.1 step) h.0
  phrase_more marks (Named call) n ts t step h = beside_held marks (named l call t) n (ts ++ t ∷ []) step (λ next e. named_held call next ts marks t.kind t.at t.word e h)
  phrase_more marks (Called call args) n ts t step h = beside_held marks (argument_read names (l - 1) call args t) n (ts ++ t ∷ []) step (λ next e. called_held call args next ts marks t e h)
  phrase_more marks (Whole s) n ts t step h = beside_held marks (called_ended s t) n (ts ++ t ∷ []) step (λ next e. ended_held s next ts marks t.kind t.at t.word e h)

-- The first token of a statement, and one token more.
pub phrase_start : (names : Names) (noted : List (List ℕ)) (l : ℕ) (phrase : Phrase) (t : Token) → phrase_begun names t ≡ Ok phrase → PhraseHeld names noted l phrase (t ∷ []) noted
phrase_start names noted l phrase t step = begun_held names noted l phrase t.kind t.at t.word step

pub phrase_held : (names : Names) (noted : List (List ℕ)) (l : ℕ) (marks : List (List ℕ)) (phrase : Phrase) (n : Phrased × List (List ℕ)) (ts : List Token) (t : Token) → phrase_step names l marks phrase t ≡ Ok n
    → PhraseHeld names noted l phrase ts marks → PhrasedHeld names noted l n.0 (ts ++ t ∷ []) n.1
phrase_held names noted l marks phrase n ts t step h = phrase_more names noted l marks phrase n ts t step h
