-- How many arguments a send or a mark takes: what the reader takes has the right number, and what it refuses for that has not.
use Rattle.std.proofs.Common.{◌≡◌, ◌≤◌, ◌-◌, ◌<◌, ℕ, suc, Bool, true, false, ltb, eqb, List, [], ◌∷◌, ◌++◌, length, Option, Some, Result, Ok, Err, refl, sym, ap, ◌∙◌, subst, append_assoc, arith, position, bytes_eq, length-append, if◌then◌else◌}
use Rattle.std.proofs.lemmas.Bool.{ltb-true, ltb-false, eqb-true, eq-eqb}
use Rattle.pssm_model.specs.declared.ids.SignalId.{SignalId}
use Rattle.pssm_acts.specs.declared.act_fault.ActFault.{ActFault}
use Rattle.pssm_acts.specs.declared.act_fault.ActFault.TheVariants.{Arity, TooLong}
use Rattle.pssm_acts.specs.declared.acts_reader.ActsReader.{ActsReader}
use Rattle.pssm_acts.specs.declared.read_blocks.Blocks.{Blocks}
use Rattle.pssm_acts.specs.declared.acts_reader.Turn.{Turn}
use Rattle.pssm_acts.specs.declared.acts_reader.Turn.TheVariants.{Begins, Within, Condition, Chosen, Else}
use Rattle.pssm_acts.specs.declared.acts_reader.Turn.TheVariants as turns
use Rattle.pssm_acts.specs.declared.argument_reader.Arguments.{Arguments}
use Rattle.pssm_acts.specs.declared.argument_reader.Arguments.TheVariants.{Opened, Listed}
use Rattle.pssm_acts.specs.declared.argument_reader.Argued.TheVariants as argued_as
use Rattle.pssm_semantics.specs.declared.entry.ObjectId.{ObjectId}
use Rattle.pssm_acts.specs.declared.expr_reader.Left.{Left}
use Rattle.pssm_acts.specs.declared.expr_reader.Place.TheVariants.{Has}
use Rattle.pssm_acts.specs.declared.phrase_reader.Call.{Call}
use Rattle.pssm_acts.specs.declared.phrase_reader.Call.TheVariants as calls
use Rattle.pssm_acts.specs.declared.phrase_reader.Phrase.TheVariants.{Variable, Value, Receiver, Dotted, Named, Called, Whole}
use Rattle.pssm_acts.specs.declared.phrase_reader.Phrase.TheVariants as phrases
use Rattle.pssm_semantics.specs.declared.setting.Names.{Names}
use Rattle.pssm_acts.specs.declared.token.Kind.TheVariants as kinds
use Rattle.pssm_semantics.specs.declared.tree.Expr.{Expr}
use Rattle.pssm_semantics.specs.declared.tree.Stmt.{Stmt, Send, Mark}
use Rattle.pssm_acts.specs.ActGrammar.{SpellsList, one, further, SpellsArguments, none, some}
use Rattle.pssm_acts.specs.inner.ActReading.{ActsState, acts_steps_in, acts_step}
use Rattle.pssm_acts.specs.inner.ArgumentReading.{arguments_step}
use Rattle.pssm_acts.specs.inner.ExprReading.{sum_of, fresh_expr}
use Rattle.pssm_acts.specs.Marks.{mark_of, with_mark}
use Rattle.pssm_acts.specs.inner.PhraseReading.{signal_count, call_made}
use Rattle.pssm_acts.specs.TextFaults.{Signal, Breaks, sent, marked}
use Rattle.pssm_acts.specs.TextFaults as places
use Rattle.pssm_acts.specs.Tokens.{Token}
use Rattle.pssm_acts.proofs.ActRun.{Runs}
use Rattle.pssm_acts.proofs.Readers.{Leads, first_of}
use Rattle.pssm_acts.proofs.ExprRead.{reader_at}
use Rattle.pssm_acts.proofs.ArgumentRead.{behind_comma, behind_last, behind_none, within, room_in, takes_goes, takes_ends, takes_open}
use Rattle.pssm_acts.proofs.ArgumentHeld.{ArguedHeld, arguments_held}
use Rattle.pssm_acts.proofs.PhraseTokens.{CallHeld, CalledHeld}
use Rattle.pssm_acts.proofs.PhraseRead.{behind_dot, behind_mark}
use Rattle.pssm_acts.proofs.FareLaws.{fares_whole}
use Rattle.pssm_acts.proofs.Fares.{Fares, arrives, goes, stops, fares_on, fares_as}
use Rattle.pssm_acts.proofs.ArgumentFares.{list_at, first_fares, further_fares, end_refuses, open_refuses, made_refuses}
use Rattle.pssm_acts.proofs.ShapeLaws.{expr_shape}
use Rattle.pssm_acts.proofs.StepsHeld.{ReaderHeld}
use Rattle.pssm_acts.proofs.ActsTold.{turn_place, MiscountsAt}

-- ---- what is taken

-- A send or a mark has been made of so many arguments.
pub record Made (call : Call) (count : ℕ) : Type 0 where
  pub args : List Expr
  pub at : ℕ
  pub stmt : Stmt
  pub many : length args ≡ count
  pub made : call_made call args at ≡ Ok stmt

module _ (names : Names) (stepped : Bool) (marks : List (List ℕ)) (blocks : Blocks) (call : Call) where
  -- so many arguments have been read, the last one perhaps not to its end
  abbrev CountsTo : ℕ → ActsState → Type 0
  CountsTo count s = (q : List Expr × Left × Expr) × (s ≡ list_at names stepped marks blocks call q) × (suc (length q.0) ≡ count)

  list_counts : {others : Names} {l : ℕ} {ts : List Token} {es : List Expr} → SpellsList others l ts es → Fares (acts_steps_in names stepped) (CountsTo (length es)) (within blocks (Called call Opened), marks) ts
  list_counts (one spelled) = fares_as (first_fares names stepped marks blocks call (expr_shape spelled)) (λ n goal. (([], goal.0.0, goal.0.1), goal.1, refl))
  list_counts (further comma {ts} {us} {es} {e} front is back) = fares_on (list_counts front) (λ n goal. subst (λ m. Fares (acts_steps_in names stepped) (CountsTo (length (es ++ e ∷ []))) m (comma ∷ us)) (sym goal.1) (on goal.0 goal.2)) where
    on : (q : List Expr × Left × Expr) → suc (length q.0) ≡ length es → Fares (acts_steps_in names stepped) (CountsTo (length (es ++ e ∷ []))) (list_at names stepped marks blocks call q) (comma ∷ us)
    on q count =
        let all : List Expr = q.0 ++ sum_of q.1 q.2 ∷ [] in
        goes (takes_goes names stepped marks blocks call (Listed q.0 (reader_at [] q.1 (Has q.2))) (Listed all fresh_expr) comma (behind_comma names (room_in blocks) comma q.0 q.1 q.2 is))
        (fares_as (further_fares names stepped marks blocks call all (expr_shape back))
        (λ n goal. ((all, goal.0.0, goal.0.1), goal.1, omega (arith, count, length-append q.0 (sum_of q.1 q.2 ∷ []), length-append es (e ∷ [])))))

  abbrev MadeOf : ℕ → ActsState → Type 0
  MadeOf count s = Made call count

  end_counts : (args : Arguments) (es : List Expr) (t : Token) (count : ℕ) → length es ≡ count → arguments_step names (room_in blocks) args t ≡ Ok (argued_as.Ends es) → Fares (acts_steps_in names stepped) (MadeOf count) (within blocks (Called call args), marks) (t ∷ [])
  end_counts args es t count many step = go (call_made call es t.at) refl where
    go : (r : Result Stmt ActFault) → call_made call es t.at ≡ r → Fares (acts_steps_in names stepped) (MadeOf count) (within blocks (Called call args), marks) (t ∷ [])
    go (Ok stmt) made = goes (takes_ends names stepped marks blocks call args es stmt t step made) (arrives (record { args = es; at = t.at; stmt = stmt; many = many; made = made }))
    go (Err fault) made = stops fault (end_refuses names stepped marks blocks call args es t fault step made) (made_refuses call es t.at fault made)

  open_counts : {rest : List Token} (t : Token) (count : ℕ) → t.kind ≡ kinds.Open → Fares (acts_steps_in names stepped) (MadeOf count) (within blocks (Called call Opened), marks) rest
      → Fares (acts_steps_in names stepped) (MadeOf count) (within blocks (Named call), marks) (t ∷ rest)
  open_counts {rest} t count is inner = go (ltb 0 (16 - length blocks.outer)) refl where
    go : (b : Bool) → ltb 0 (16 - length blocks.outer) ≡ b → Fares (acts_steps_in names stepped) (MadeOf count) (within blocks (Named call), marks) (t ∷ rest)
    go true e = goes (takes_open names stepped marks blocks call t is (ltb-true 0 (16 - length blocks.outer) e)) inner
    go false e = stops (TooLong t.at) (open_refuses names stepped marks blocks call t is e) tt

  arguments_count : {others : Names} {l : ℕ} {ts : List Token} {es : List Expr} → SpellsArguments others l ts es → Fares (acts_steps_in names stepped) (MadeOf (length es)) (within blocks (Named call), marks) ts
  arguments_count (none {opening = opening} {closing = closing} opens closes) = open_counts opening 0 opens (end_counts Opened [] closing 0 refl (behind_none names (room_in blocks) closing closes))
  arguments_count (some {opening = opening} closing {ts = ts} {es = es} opens inner closes) =
      open_counts opening (length es) opens (fares_on (list_counts inner) (λ n goal. subst (λ m. Fares (acts_steps_in names stepped) (MadeOf (length es)) m (closing ∷ [])) (sym goal.1) (on goal.0 goal.2))) where
        on : (q : List Expr × Left × Expr) → suc (length q.0) ≡ length es → Fares (acts_steps_in names stepped) (MadeOf (length es)) (list_at names stepped marks blocks call q) (closing ∷ [])
        on q count =
            end_counts (Listed q.0 (reader_at [] q.1 (Has q.2))) (q.0 ++ sum_of q.1 q.2 ∷ []) closing (length es) (omega (arith, count, length-append q.0 (sum_of q.1 q.2 ∷ [])))
            (behind_last names (room_in blocks) closing q.0 q.1 q.2 closes)

-- What is made of a send has as many arguments as its signal has parameters, and a mark has no more than eight.
made_sent : (to : Option ObjectId) (signal : SignalId) (count k : ℕ) → Made (calls.Send to signal count) k → k ≡ count
unfolding call_made
made_sent to signal count k m = sym m.many ∙ go (eqb (length m.args) count) refl m.made where
  go : (b : Bool) → eqb (length m.args) count ≡ b → (if b then Ok (Send to signal m.args) else Err (Arity m.at)) ≡ Ok m.stmt → length m.args ≡ count
  go true e is = eqb-true (length m.args) count e
  go false e is = absurd cc

made_marked : (name : List ℕ) (marks : List (List ℕ)) (k : ℕ) → Made (calls.Mark (mark_of marks name)) k → k ≤ 8
unfolding call_made
made_marked name marks k m = go (ltb 8 (length m.args)) refl m.made where
  go : (b : Bool) → ltb 8 (length m.args) ≡ b → (if b then Err (Arity m.at) else Ok (Mark (mark_of marks name) m.args)) ≡ Ok m.stmt → k ≤ 8
  go true e is = absurd cc
  go false e is = omega (arith, ltb-false 8 (length m.args) e, m.many)

-- ---- runs

same_ok : {A : Type 0} {x y : A} (r : Result A ActFault) → r ≡ Ok x → r ≡ Ok y → x ≡ y
same_ok r e e' = cc

-- The place that a state tells is one only.
at_signal : (turn : Turn) → turn_place turn ≡ Signal → (to : Option ObjectId) × (turn ≡ Within (Dotted to))
at_signal (Within (Dotted to)) is = (to, refl)
at_signal (Within (Variable x)) is = absurd cc
at_signal (Within (Value x reader)) is = absurd cc
at_signal (Within phrases.Send) is = absurd cc
at_signal (Within (Receiver to)) is = absurd cc
at_signal (Within phrases.Mark) is = absurd cc
at_signal (Within (Named call)) is = absurd cc
at_signal (Within (Called call args)) is = absurd cc
at_signal (Within (Whole stmt)) is = absurd cc
at_signal Begins is = absurd cc
at_signal (Condition guard) is = absurd cc
at_signal (Chosen c body) is = absurd cc
at_signal (Else c body) is = absurd cc
at_signal turns.Step is = absurd cc

at_mark : (turn : Turn) → turn_place turn ≡ places.Mark → turn ≡ Within phrases.Mark
at_mark (Within phrases.Mark) is = refl
at_mark (Within (Dotted to)) is = absurd cc
at_mark (Within (Variable x)) is = absurd cc
at_mark (Within (Value x reader)) is = absurd cc
at_mark (Within phrases.Send) is = absurd cc
at_mark (Within (Receiver to)) is = absurd cc
at_mark (Within (Named call)) is = absurd cc
at_mark (Within (Called call args)) is = absurd cc
at_mark (Within (Whole stmt)) is = absurd cc
at_mark Begins is = absurd cc
at_mark (Condition guard) is = absurd cc
at_mark (Chosen c body) is = absurd cc
at_mark (Else c body) is = absurd cc
at_mark turns.Step is = absurd cc

-- Behind a dot, a signal and its arguments a send has been made, where all are taken.
pub sent_taken : (names : Names) (stepped : Bool) {marks more : List (List ℕ)} {r n : ActsReader} {others : Names} {l s : ℕ} {us : List Token} {args : List Expr} (name : Token) → turn_place r.turn ≡ Signal → Runs names stepped marks r (name ∷ us) more n
    → name.kind ≡ kinds.Name → position (λ d. bytes_eq d.name name.word) names.signals ≡ Some s → SpellsArguments others l us args → length args ≡ signal_count names.signals s
sent_taken names stepped {marks} {more} {r} {n} {others} {l} {s} {us} {args} name at run names' found spelled =
    let turn = at_signal r.turn at in
    let signal : SignalId = record { 0 = s } in
    let call : Call = calls.Send turn.0 signal (signal_count names.signals s) in
    let it = first_of name us refl run in
    let here : acts_step names stepped marks r name ≡ Ok (within r.blocks (Named call), marks) =
    ap (λ x. acts_step names stepped marks (record { blocks = r.blocks; turn = x }) name) turn.1 ∙ behind_dot names stepped marks r.blocks name turn.0 signal names' found in
    let rest : Runs names stepped marks (within r.blocks (Named call)) us more n = subst (λ s. Leads (acts_steps_in names stepped) s us (n, more)) (same_ok (acts_step names stepped marks r name) it.1 here) it.2 in
    made_sent turn.0 signal (signal_count names.signals s) (length args) (fares_whole (MadeOf names stepped marks r.blocks call (length args)) rest (arguments_count names stepped marks r.blocks call spelled))

-- The same of `mark`, a name and arguments.
pub marked_taken : (names : Names) (stepped : Bool) {marks more : List (List ℕ)} {r n : ActsReader} {others : Names} {l : ℕ} {us : List Token} {args : List Expr} (name : Token) → turn_place r.turn ≡ places.Mark → Runs names stepped marks r (name ∷ us) more n
    → name.kind ≡ kinds.Name → SpellsArguments others l us args → length args ≤ 8
marked_taken names stepped {marks} {more} {r} {n} {others} {l} {us} {args} name at run names' spelled =
    let turn = at_mark r.turn at in
    let call : Call = calls.Mark (mark_of marks name.word) in
    let noted = with_mark marks name.word in
    let it = first_of name us refl run in
    let here : acts_step names stepped marks r name ≡ Ok (within r.blocks (Named call), noted) =
    ap (λ x. acts_step names stepped marks (record { blocks = r.blocks; turn = x }) name) turn ∙ behind_mark names stepped marks r.blocks name names' in
    let rest : Runs names stepped noted (within r.blocks (Named call)) us more n = subst (λ s. Leads (acts_steps_in names stepped) s us (n, more)) (same_ok (acts_step names stepped marks r name) it.1 here) it.2 in
    made_marked name.word marks (length args) (fares_whole (MadeOf names stepped noted r.blocks call (length args)) rest (arguments_count names stepped noted r.blocks call spelled))

-- ---- what is refused

refused_sent : (to : Option ObjectId) (signal : SignalId) (count : ℕ) (args : List Expr) (at : ℕ) → call_made (calls.Send to signal count) args at ≡ Err (Arity at) → length args ≡ count → ⊥
unfolding call_made
refused_sent to signal count args at refused same = let right : eqb (length args) count ≡ true = eq-eqb (length args) count same in let is = ap (λ b. if b then Ok (Send to signal args) else Err (Arity at)) right in absurd cc

refused_marked : (name : List ℕ) (marks : List (List ℕ)) (args : List Expr) (at : ℕ) → call_made (calls.Mark (mark_of marks name)) args at ≡ Err (Arity at) → 8 < length args
unfolding call_made
refused_marked name marks args at refused = go (ltb 8 (length args)) refl refused where
  go : (b : Bool) → ltb 8 (length args) ≡ b → (if b then Err (Arity at) else Ok (Mark (mark_of marks name) args)) ≡ Err (Arity at) → 8 < length args
  go true e is = ltb-true 8 (length args) e
  go false e is = absurd cc

module _ (names : Names) (noted : List (List ℕ)) (ahead before : List Token) (t : Token) where
  call_breaks : {l : ℕ} (call : Call) (front ws : List Token) (marks : List (List ℕ)) (es : List Expr) → before ++ t ∷ [] ≡ ahead ++ (front ++ ws) → CallHeld names noted call front marks → SpellsArguments names l ws es → call_made call es t.at ≡ Err (Arity t.at)
      → Breaks names before t (Arity t.at)
  call_breaks (calls.Send to signal count) front ws marks es whole h spelled refused =
      let held = h.0 in
      sent (ahead ++ held.send ∷ held.receiver ∷ []) ws held.dot held.name (whole ∙ ap (λ x. ahead ++ (x ++ ws)) held.whole ∙ sym (append_assoc ahead (held.send ∷ held.receiver ∷ []) (held.dot ∷ held.name ∷ ws)))
      held.dots held.names' held.found spelled (λ same. refused_sent to signal count es t.at refused (same ∙ sym held.counts))
  call_breaks (calls.Mark mark) front ws marks es whole h spelled refused =
      marked ahead ws h.word h.name (whole ∙ ap (λ x. ahead ++ (x ++ ws)) h.whole) h.is h.names' spelled (refused_marked h.name.word noted es t.at (subst (λ m. call_made (calls.Mark m) es t.at ≡ Err (Arity t.at)) h.which refused))

-- The parenthesis behind arguments that are refused for their number breaks the rule.
pub miscounts_breaks : (names : Names) (stepped : Bool) (start : List (List ℕ)) (r : ActsReader) (before : List Token) (t : Token) (marks : List (List ℕ)) → ReaderHeld names stepped start r before marks → MiscountsAt r.turn names r.blocks t
    → Breaks names before t (Arity t.at)
miscounts_breaks names stepped start r before t marks h wrong = go r.turn h wrong where
  called : (call : Call) (args : Arguments) → ReaderHeld names stepped start (record { blocks = r.blocks; turn = Within (Called call args) }) before marks → MiscountsAt (Within (Called call args)) names r.blocks t → Breaks names before t (Arity t.at)
  called call args held (es, step, refused) =
      let here : CalledHeld names held.noted (16 - length r.blocks.outer) call args held.vs marks = held.here in
      let ws = here.opening ∷ (here.us ++ t ∷ []) in
      let read : ArguedHeld names (16 - length r.blocks.outer - 1) (argued_as.Ends es) (here.us ++ t ∷ []) = arguments_held names (16 - length r.blocks.outer - 1) args (argued_as.Ends es) here.us t step here.held in
      let tokens : before ++ t ∷ [] ≡ (held.steps ++ held.xs) ++ (here.front ++ ws) = ap (λ x. x ++ t ∷ []) (held.whole ∙ ap (λ x. held.steps ++ (held.xs ++ x)) here.whole) ∙ simp append_assoc in
      call_breaks names held.noted (held.steps ++ held.xs) before t call here.front ws marks es tokens here.calls (read here.opening here.opens) refused

  go : (turn : Turn) → ReaderHeld names stepped start (record { blocks = r.blocks; turn = turn }) before marks → MiscountsAt turn names r.blocks t → Breaks names before t (Arity t.at)
  go (Within (Called call args)) held wrong = called call args held wrong
  go (Within (Dotted to)) held wrong = absurd wrong
  go (Within (Variable x)) held wrong = absurd wrong
  go (Within (Value x reader)) held wrong = absurd wrong
  go (Within phrases.Send) held wrong = absurd wrong
  go (Within phrases.Mark) held wrong = absurd wrong
  go (Within (Receiver to)) held wrong = absurd wrong
  go (Within (Named call)) held wrong = absurd wrong
  go (Within (Whole stmt)) held wrong = absurd wrong
  go Begins held wrong = absurd wrong
  go (Condition guard) held wrong = absurd wrong
  go (Chosen c body) held wrong = absurd wrong
  go (Else c body) held wrong = absurd wrong
  go turns.Step held wrong = absurd wrong
