-- Whatever has been read of an assignment, a send or a mark begins one, also with a token that is refused for another reason than its place.
use Rattle.std.proofs.Common.{◌≡◌, ◌⊎◌, inl, inr, ◌-◌, ℕ, suc, List, [], ◌∷◌, ◌++◌, Option, Result, Ok, Err, refl, sym, ap, ◌∙◌, subst, append_assoc}
use Rattle.std.proofs.lemmas.List.{append-nil}
use Rattle.pssm_acts.specs.declared.act_fault.ActFault.{ActFault}
use Rattle.pssm_acts.specs.declared.act_fault.ActFault.TheVariants.{Syntax}
use Rattle.pssm_acts.specs.declared.argument_reader.Arguments.{Arguments}
use Rattle.pssm_acts.specs.declared.argument_reader.Arguments.TheVariants.{Opened, Listed}
use Rattle.pssm_acts.specs.declared.argument_reader.Argued.{Argued}
use Rattle.pssm_acts.specs.declared.argument_reader.Argued.TheVariants as arguments
use Rattle.pssm_semantics.specs.declared.entry.ObjectId.{ObjectId}
use Rattle.pssm_acts.specs.declared.expr_reader.ExprReader.{ExprReader}
use Rattle.pssm_acts.specs.declared.expr_reader.Level.{Level}
use Rattle.pssm_acts.specs.declared.phrase_reader.Call.{Call}
use Rattle.pssm_acts.specs.declared.phrase_reader.Call.TheVariants as calls
use Rattle.pssm_acts.specs.declared.phrase_reader.Phrase.{Phrase}
use Rattle.pssm_acts.specs.declared.phrase_reader.Phrase.TheVariants.{Variable, Value, Receiver, Dotted, Named, Called, Whole}
use Rattle.pssm_acts.specs.declared.phrase_reader.Phrase.TheVariants as phrases
use Rattle.pssm_acts.specs.declared.phrase_reader.Phrased.TheVariants.{Goes, Ends}
use Rattle.pssm_semantics.specs.declared.setting.Names.{Names}
use Rattle.pssm_acts.specs.declared.token.Kind.{Kind}
use Rattle.pssm_acts.specs.declared.token.Kind.TheVariants as kinds
use Rattle.pssm_semantics.specs.declared.tree.Expr.{Expr}
use Rattle.pssm_semantics.specs.declared.tree.Stmt.{Stmt, Assign}
use Rattle.pssm_acts.specs.Tokens.{Token}
use Rattle.pssm_acts.specs.inner.ExprReading.{and_then, expr_step, expr_value, fresh_expr}
use Rattle.pssm_acts.specs.inner.ArgumentReading.{argument_ended, argument_more, argument_closed_in, argument_closed, listed_step, opened_step_by, arguments_step}
use Rattle.pssm_acts.specs.inner.PhraseReading.{beside, became, value_read, receiver_read, dotted, signal_read, mark_read, named, argued, argument_read, called_ended, phrase_step}
use Rattle.pssm_acts.specs.ActGrammar.{SpellsArguments}
use Rattle.pssm_acts.specs.Grammar.{Sum}
use Rattle.pssm_acts.specs.Shapes.{ExprShape, atom, product, ListShape, one, further, ArgumentsShape, none, some, PhraseShape, assignment, sending, bare_mark, marking, Begins}
use Rattle.pssm_acts.proofs.AnswerLaws.{never_refused}
use Rattle.pssm_acts.proofs.ExprHeld.{token_as, expr_start}
use Rattle.pssm_acts.proofs.ArgumentHeld.{EarlierHeld, ListHeld, ArgumentsHeld, arguments_held}
use Rattle.pssm_acts.proofs.PhraseTokens.{CallHeld, CalledHeld, PhraseHeld}
use Rattle.pssm_acts.proofs.EndLaws.{expr_ends}
use Rattle.pssm_acts.proofs.Fares.{IsOther, place_no_other}
use Rattle.pssm_acts.proofs.ShapeLaws.{list_shape, arguments_shape, receiver_shape, phrase_shape, begins_shorter, begins_same}
use Rattle.pssm_acts.proofs.GuardBegins.{expr_begins, other_begins, failed_first, zero_shape}

-- tokens that may stand behind others
abbrev pub sign : Kind → Token
sign kind = token_as 0 kind []

abbrev pub nil : Token
nil = token_as 0 kinds.Number (48 ∷ [])

pub nil_shape : ExprShape Sum (nil ∷ [])
nil_shape = product (atom (zero_shape 0))

-- ---- arguments

earlier_shape : (names : Names) (l : ℕ) (us ts : List Token) (args : List Expr) → EarlierHeld names l us args → ExprShape Sum ts → ListShape (us ++ ts)
earlier_shape names l us ts [] h shape = subst (λ x. ListShape (x ++ ts)) (sym h) (one shape)
earlier_shape names l us ts (e ∷ es) h shape = subst ListShape (sym (ap (λ x. x ++ ts) h.whole ∙ append_assoc h.tokens (h.comma ∷ []) ts)) (further h.comma (list_shape h.spelled) h.is shape)

-- the tokens behind the opening parenthesis, with the one that opens
abbrev IsArgued : List Token → Type 0
IsArgued ts = (opening : Token) → opening.kind ≡ kinds.Open → Begins ArgumentsShape (opening ∷ ts)

listed_argued : (names : Names) (l : ℕ) (args : List Expr) (last : ExprReader) (ts extra : List Token) (h : ListHeld names l args last ts) → Begins (ExprShape Sum) (h.vs ++ extra) → IsArgued (ts ++ extra)
listed_argued names l args last ts extra h b = λ opening opens.
    let list = earlier_shape names l h.us ((h.vs ++ extra) ++ b.more) args h.before b.shape in
    let same : h.us ++ ((h.vs ++ extra) ++ b.more) ≡ (ts ++ extra) ++ b.more = sym (ap (λ x. (x ++ extra) ++ b.more) h.whole ∙ simp append_assoc) in
    record {
      more = b.more ++ sign kinds.Close ∷ [];
      shape = subst (λ x. ArgumentsShape (opening ∷ x)) (append_assoc (ts ++ extra) b.more (sign kinds.Close ∷ [])) (some (sign kinds.Close) opens (subst ListShape same list) refl);
    }

arguments_begin : (names : Names) (l : ℕ) (args : Arguments) (ts : List Token) → ArgumentsHeld names l args ts → IsArgued ts
arguments_begin names l Opened ts h = λ opening opens. subst (λ x. Begins ArgumentsShape (opening ∷ x)) (sym h) (record { more = sign kinds.Close ∷ []; shape = none opens refl })
arguments_begin names l (Listed args last) ts h = λ opening opens.
    subst (λ x. Begins ArgumentsShape (opening ∷ x)) (append-nil ts) (listed_argued names l args last ts [] h (begins_same (sym (append-nil h.vs)) (expr_begins {room = l} last h.vs h.here)) opening opens)

ended_other : (args : List Expr) (last : ExprReader) (f : List Expr → Argued) (at : ℕ) (fault : ActFault) → and_then (argument_ended args last at) (λ all. Ok (f all)) ≡ Err fault → IsOther fault → ⊥
unfolding argument_ended
ended_other args last f at fault e other = go (expr_ends last) where
  go : (((v : Expr) × ((k : ℕ) → expr_value last k ≡ Ok v)) ⊎ ((k : ℕ) → expr_value last k ≡ Err (Syntax k))) → ⊥
  go (inl ends) = let is = ap (λ x. and_then (and_then x (λ v. Ok (args ++ v ∷ []))) (λ all. Ok (f all))) (ends.1 at) in absurd cc
  go (inr stops) = let is = ap (λ x. and_then (and_then x (λ v. Ok (args ++ v ∷ []))) (λ all. Ok (f all))) (stops at) in let same : Syntax at ≡ fault = cc in subst IsOther (sym same) other

more_other : (names : Names) (room : ℕ) (args : List Expr) (last : ExprReader) (ts : List Token) (t : Token) (fault : ActFault) → argument_more names room args last t ≡ Err fault → IsOther fault → ListHeld names room args last ts → IsArgued (ts ++ t ∷ [])
unfolding argument_more
more_other names room args last ts t fault e other h =
    listed_argued names room args last ts (t ∷ []) h (other_begins names room last h.vs t fault (failed_first (λ more. arguments.Goes (Listed args more)) (expr_step names room last t) fault e) other h.here)

listed_other : (names : Names) (room : ℕ) (args : List Expr) (last : ExprReader) (ts : List Token) (kind : Kind) (at : ℕ) (word : List ℕ) (fault : ActFault) → listed_step names room args last (token_as at kind word) ≡ Err fault → IsOther fault
    → ListHeld names room args last ts → IsArgued (ts ++ token_as at kind word ∷ [])
unfolding listed_step argument_closed
listed_other names room args last ts kinds.Comma at word fault e other h = absurd (ended_other args last (λ all. arguments.Goes (Listed all fresh_expr)) at fault e other)
listed_other names room args last ts kinds.Close at word fault e other h = go last.outer e where
  go : (outer : List Level) → argument_closed_in outer names room args last (token_as at kinds.Close word) ≡ Err fault → IsArgued (ts ++ token_as at kinds.Close word ∷ [])
  go [] is = absurd (ended_other args last (λ all. arguments.Ends all) at fault is other)
  go (level ∷ outer) is = more_other names room args last ts (token_as at kinds.Close word) fault is other h
listed_other names room args last ts kind at word fault e other h = more_other names room args last ts (token_as at kind word) fault e other h

opened_other : (names : Names) (room : ℕ) (kind : Kind) (at : ℕ) (word : List ℕ) (fault : ActFault) → opened_step_by kind names room (token_as at kind word) ≡ Err fault → IsOther fault → IsArgued (token_as at kind word ∷ [])
opened_other names room kinds.Close at word fault e other = absurd (never_refused _ fault e)
opened_other names room kind at word fault e other =
    listed_other names room [] fresh_expr [] kind at word fault e other (record { us = []; vs = []; before = refl; here = expr_start names room; whole = refl })

arguments_other : (names : Names) (room : ℕ) (args : Arguments) (ts : List Token) (t : Token) (fault : ActFault) → arguments_step names room args t ≡ Err fault → IsOther fault → ArgumentsHeld names room args ts → IsArgued (ts ++ t ∷ [])
unfolding arguments_step
arguments_other names room Opened ts t fault e other h = subst (λ x. IsArgued (x ++ t ∷ [])) (sym h) (opened_other names room t.kind t.at t.word fault e other)
arguments_other names room (Listed args last) ts t fault e other h = listed_other names room args last ts t.kind t.at t.word fault e other h

-- ---- sends and marks

-- the tokens of a send or a mark before its arguments, and these
call_shape : (names : Names) (noted : List (List ℕ)) (call : Call) (front args : List Token) (marks : List (List ℕ)) → CallHeld names noted call front marks → ArgumentsShape args → PhraseShape (front ++ (args ++ sign kinds.Semicolon ∷ []))
call_shape names noted (calls.Send to signal count) front args marks h shape =
    let s = h.0 in
    subst (λ x. PhraseShape (x ++ (args ++ sign kinds.Semicolon ∷ []))) (sym s.whole) (sending (sign kinds.Semicolon) s.is (receiver_shape s.receives) s.dots s.names' shape refl)
call_shape names noted (calls.Mark mark) front args marks h shape =
    subst (λ x. PhraseShape (x ++ (args ++ sign kinds.Semicolon ∷ []))) (sym h.whole) (marking (sign kinds.Semicolon) h.is h.names' shape refl)

call_begins : (names : Names) (noted : List (List ℕ)) (call : Call) (front : List Token) (marks : List (List ℕ)) → CallHeld names noted call front marks → (args : List Token) → Begins ArgumentsShape args → Begins PhraseShape (front ++ args)
call_begins names noted call front marks h args b = record {
  more = b.more ++ sign kinds.Semicolon ∷ [];
  shape = subst PhraseShape (ap (λ x. front ++ x) (append_assoc args b.more (sign kinds.Semicolon ∷ [])) ∙ sym (append_assoc front args (b.more ++ sign kinds.Semicolon ∷ []))) (call_shape names noted call front (args ++ b.more) marks h b.shape);
}

called_begins : (names : Names) (noted : List (List ℕ)) (room : ℕ) (call : Call) (args : Arguments) (vs extra : List Token) (marks : List (List ℕ)) (h : CalledHeld names noted room call args vs marks) → IsArgued (h.us ++ extra) → Begins PhraseShape (vs ++ extra)
called_begins names noted room call args vs extra marks h argued' =
    begins_same (sym (ap (λ x. x ++ extra) h.whole ∙ append_assoc h.front (h.opening ∷ h.us) extra)) (call_begins names noted call h.front marks h.calls (h.opening ∷ (h.us ++ extra)) (argued' h.opening h.opens))

call_alone : (names : Names) (noted : List (List ℕ)) (call : Call) (front : List Token) (marks : List (List ℕ)) → CallHeld names noted call front marks → Begins PhraseShape front
call_alone names noted call front marks h =
    begins_shorter front (sign kinds.Open ∷ []) (call_begins names noted call front marks h (sign kinds.Open ∷ []) (record { more = sign kinds.Close ∷ []; shape = none refl refl }))

-- ---- the value of an assignment

value_begins : (variable becomes : Token) (us : List Token) → variable.kind ≡ kinds.Name → becomes.kind ≡ kinds.Becomes → Begins (ExprShape Sum) us → Begins PhraseShape (variable ∷ becomes ∷ us)
value_begins variable becomes us is assigns b = record {
  more = b.more ++ sign kinds.Semicolon ∷ [];
  shape = subst (λ x. PhraseShape (variable ∷ becomes ∷ x)) (append_assoc us b.more (sign kinds.Semicolon ∷ [])) (assignment (sign kinds.Semicolon) is assigns b.shape refl);
}

-- ---- what has been read

-- `x`
pub assigns_begins : (t : Token) → t.kind ≡ kinds.Name → Begins PhraseShape (t ∷ [])
assigns_begins t is = record { more = sign kinds.Becomes ∷ (nil ∷ [] ++ sign kinds.Semicolon ∷ []); shape = assignment (sign kinds.Semicolon) is refl nil_shape refl }

-- `send`, `send b`, `send b.` and `send b.Go`
sent_begins : (send receiver dot name : Token) → send.kind ≡ kinds.Send → (receiver.kind ≡ kinds.Name) ⊎ (receiver.kind ≡ kinds.Own) → dot.kind ≡ kinds.Dot → name.kind ≡ kinds.Name → Begins PhraseShape (send ∷ receiver ∷ dot ∷ name ∷ [])
sent_begins send receiver dot name is receives dots names' =
    record { more = (sign kinds.Open ∷ sign kinds.Close ∷ []) ++ sign kinds.Semicolon ∷ []; shape = sending (sign kinds.Semicolon) is receives dots names' (none refl refl) refl }

received_begins : (send receiver : Token) → send.kind ≡ kinds.Send → (receiver.kind ≡ kinds.Name) ⊎ (receiver.kind ≡ kinds.Own) → Begins PhraseShape (send ∷ receiver ∷ [])
received_begins send receiver is receives = begins_shorter (send ∷ receiver ∷ []) (sign kinds.Dot ∷ sign kinds.Name ∷ []) (sent_begins send receiver (sign kinds.Dot) (sign kinds.Name) is receives refl refl)

pub send_begins : (t : Token) → t.kind ≡ kinds.Send → Begins PhraseShape (t ∷ [])
send_begins t is = begins_shorter (t ∷ []) (sign kinds.Own ∷ []) (received_begins t (sign kinds.Own) is (inr refl))

pub mark_begins : (t : Token) → t.kind ≡ kinds.Mark → Begins PhraseShape (t ∷ [])
mark_begins t is = record { more = sign kinds.Name ∷ sign kinds.Semicolon ∷ []; shape = bare_mark is refl refl }

pub phrase_begins : (names : Names) (noted : List (List ℕ)) (room : ℕ) (phrase : Phrase) (vs : List Token) (marks : List (List ℕ)) → PhraseHeld names noted room phrase vs marks → Begins PhraseShape vs
phrase_begins names noted room (Variable x) vs marks h = begins_same (sym h.0.whole) (assigns_begins h.0.variable h.0.is)
phrase_begins names noted room (Value x reader) vs marks h =
    begins_same (sym h.0.whole) (value_begins h.0.variable h.0.becomes h.0.us h.0.is h.0.assigns (expr_begins {room = room} reader h.0.us h.0.held))
phrase_begins names noted room phrases.Send vs marks h = begins_same (sym h.0.whole) (send_begins h.0.word h.0.is)
phrase_begins names noted room (Receiver to) vs marks h = begins_same (sym h.0.whole) (received_begins h.0.send h.0.receiver h.0.is (receiver_shape h.0.receives))
phrase_begins names noted room (Dotted to) vs marks h =
    begins_same (sym h.0.whole) (begins_shorter (h.0.send ∷ h.0.receiver ∷ h.0.dot ∷ []) (sign kinds.Name ∷ []) (sent_begins h.0.send h.0.receiver h.0.dot (sign kinds.Name) h.0.is (receiver_shape h.0.receives) h.0.dots refl))
phrase_begins names noted room phrases.Mark vs marks h = begins_same (sym h.0.whole) (mark_begins h.0.word h.0.is)
phrase_begins names noted room (Named call) vs marks h = call_alone names noted call vs marks h
phrase_begins names noted room (Called call args) vs marks h =
    begins_shorter vs [] (called_begins names noted room call args vs [] marks h (λ opening opens. subst (λ x. Begins ArgumentsShape (opening ∷ x)) (sym (append-nil h.us)) (arguments_begin names (room - 1) args h.us h.held opening opens)))
phrase_begins names noted room (Whole s) vs marks h = record { more = sign kinds.Semicolon ∷ []; shape = phrase_shape (h (sign kinds.Semicolon) refl) }

-- ---- a token that is refused

became_other : (x at : ℕ) (kind : Kind) (word : List ℕ) (fault : ActFault) → became x (token_as at kind word) ≡ Err fault → IsOther fault → ⊥
unfolding became
became_other x at kinds.Becomes word fault e other = absurd (never_refused _ fault e)
became_other x at kind word fault e other = place_no_other at fault e other

dotted_other : (to : Option ObjectId) (at : ℕ) (kind : Kind) (word : List ℕ) (fault : ActFault) → dotted to (token_as at kind word) ≡ Err fault → IsOther fault → ⊥
unfolding dotted
dotted_other to at kinds.Dot word fault e other = absurd (never_refused _ fault e)
dotted_other to at kind word fault e other = place_no_other at fault e other

ended_call_other : (s : Stmt) (at : ℕ) (kind : Kind) (word : List ℕ) (fault : ActFault) → called_ended s (token_as at kind word) ≡ Err fault → IsOther fault → ⊥
unfolding called_ended
ended_call_other s at kinds.Semicolon word fault e other = absurd (never_refused _ fault e)
ended_call_other s at kind word fault e other = place_no_other at fault e other

receiver_other : (names : Names) (at : ℕ) (kind : Kind) (word : List ℕ) (fault : ActFault) → receiver_read names (token_as at kind word) ≡ Err fault → IsOther fault → kind ≡ kinds.Name
unfolding receiver_read
receiver_other names at kinds.Own word fault e other = absurd (never_refused _ fault e)
receiver_other names at kinds.Name word fault e other = refl
receiver_other names at kind word fault e other = absurd (place_no_other at fault e other)

signal_other : (names : Names) (to : Option ObjectId) (at : ℕ) (kind : Kind) (word : List ℕ) (fault : ActFault) → signal_read names to (token_as at kind word) ≡ Err fault → IsOther fault → kind ≡ kinds.Name
unfolding signal_read
signal_other names to at kinds.Name word fault e other = refl
signal_other names to at kind word fault e other = absurd (place_no_other at fault e other)

mark_other : (marks : List (List ℕ)) (at : ℕ) (kind : Kind) (word : List ℕ) (fault : ActFault) → mark_read marks (token_as at kind word) ≡ Err fault → IsOther fault → ⊥
unfolding mark_read
mark_other marks at kinds.Name word fault e other = absurd (never_refused _ fault e)
mark_other marks at kind word fault e other = place_no_other at fault e other

named_other : (room : ℕ) (call : Call) (at : ℕ) (kind : Kind) (word : List ℕ) (fault : ActFault) → named room call (token_as at kind word) ≡ Err fault → IsOther fault → kind ≡ kinds.Open
unfolding named
named_other room call at kinds.Open word fault e other = refl
named_other room (calls.Mark mark) at kinds.Semicolon word fault e other = absurd (never_refused _ fault e)
named_other room (calls.Send to signal count) at kinds.Semicolon word fault e other = absurd (place_no_other at fault e other)
named_other room call at kind word fault e other = absurd (place_no_other at fault e other)

value_other : (names : Names) (room x : ℕ) (reader : ExprReader) (at : ℕ) (kind : Kind) (word : List ℕ) (fault : ActFault) → value_read names room x reader (token_as at kind word) ≡ Err fault → IsOther fault → expr_step names room reader (token_as at kind word) ≡ Err fault
unfolding value_read
value_other names room x reader at kinds.Semicolon word fault e other = go (expr_ends reader) where
  go : (((v : Expr) × ((k : ℕ) → expr_value reader k ≡ Ok v)) ⊎ ((k : ℕ) → expr_value reader k ≡ Err (Syntax k))) → expr_step names room reader (token_as at kinds.Semicolon word) ≡ Err fault
  go (inl ends) = let is = ap (λ y. and_then y (λ v. Ok (Ends (Assign x v)))) (ends.1 at) in absurd cc
  go (inr stops) = let is = ap (λ y. and_then y (λ v. Ok (Ends (Assign x v)))) (stops at) in let same : Syntax at ≡ fault = cc in absurd (subst IsOther (sym same) other)
value_other names room x reader at kind word fault e other = failed_first (λ more. Goes (Value x more)) (expr_step names room reader (token_as at kind word)) fault e

called_other : (names : Names) (noted : List (List ℕ)) (room : ℕ) (call : Call) (args : Arguments) (vs : List Token) (t : Token) (fault : ActFault) (marks : List (List ℕ)) → argument_read names (room - 1) call args t ≡ Err fault → IsOther fault
    → CalledHeld names noted room call args vs marks → Begins PhraseShape (vs ++ t ∷ [])
unfolding argument_read
called_other names noted room call args vs t fault marks e other h = called_begins names noted room call args vs (t ∷ []) marks h (go (arguments_step names (room - 1) args t) refl e) where
  go : (r : Result Argued ActFault) → arguments_step names (room - 1) args t ≡ r → and_then r (λ a. argued call a t.at) ≡ Err fault → IsArgued (h.us ++ t ∷ [])
  go (Ok (arguments.Goes more)) step is = absurd cc
  go (Ok (arguments.Ends es)) step is = λ opening opens.
      let all : SpellsArguments names (suc (room - 1)) (opening ∷ (h.us ++ t ∷ [])) es = arguments_held names (room - 1) args (arguments.Ends es) h.us t step h.held opening opens in
      record { more = []; shape = subst ArgumentsShape (sym (append-nil (opening ∷ (h.us ++ t ∷ [])))) (arguments_shape all) }
  go (Err f) step is = let same : f ≡ fault = cc in arguments_other names (room - 1) args h.us t fault (step ∙ ap (λ x. Err x) same) other h.held

abbrev beside_failed : {A M : Type 0} (marks : M) (x : Result A ActFault) (fault : ActFault) → beside marks x ≡ Err fault → x ≡ Err fault
beside_failed marks x fault e = failed_first (λ a. (a, marks)) x fault e

-- With a token that it refuses for another reason than its place an assignment, a send or a mark can go on.
pub phrase_other : (names : Names) (noted : List (List ℕ)) (room : ℕ) (marks : List (List ℕ)) (phrase : Phrase) (vs : List Token) (t : Token) (fault : ActFault) → phrase_step names room marks phrase t ≡ Err fault → IsOther fault
    → PhraseHeld names noted room phrase vs marks → Begins PhraseShape (vs ++ t ∷ [])
unfolding phrase_step
phrase_other names noted room marks (Variable x) vs t fault e other h = absurd (became_other x t.at t.kind t.word fault (beside_failed marks (became x t) fault e) other)
phrase_other names noted room marks (Value x reader) vs t fault e other h =
    let step = value_other names room x reader t.at t.kind t.word fault (beside_failed marks (value_read names room x reader t) fault e) other in
    begins_same (sym (ap (λ x. x ++ t ∷ []) h.0.whole)) (value_begins h.0.variable h.0.becomes (h.0.us ++ t ∷ []) h.0.is h.0.assigns (other_begins names room reader h.0.us t fault step other h.0.held))
phrase_other names noted room marks phrases.Send vs t fault e other h =
    let is = receiver_other names t.at t.kind t.word fault (beside_failed marks (receiver_read names t) fault e) other in
    begins_same (sym (ap (λ x. x ++ t ∷ []) h.0.whole)) (received_begins h.0.word t h.0.is (inl is))
phrase_other names noted room marks (Receiver to) vs t fault e other h = absurd (dotted_other to t.at t.kind t.word fault (beside_failed marks (dotted to t) fault e) other)
phrase_other names noted room marks (Dotted to) vs t fault e other h =
    let is = signal_other names to t.at t.kind t.word fault (beside_failed marks (signal_read names to t) fault e) other in
    begins_same (sym (ap (λ x. x ++ t ∷ []) h.0.whole)) (sent_begins h.0.send h.0.receiver h.0.dot t h.0.is (receiver_shape h.0.receives) h.0.dots is)
phrase_other names noted room marks phrases.Mark vs t fault e other h = absurd (mark_other marks t.at t.kind t.word fault e other)
phrase_other names noted room marks (Named call) vs t fault e other h =
    let is = named_other room call t.at t.kind t.word fault (beside_failed marks (named room call t) fault e) other in
    call_begins names noted call vs marks h (t ∷ []) (record { more = sign kinds.Close ∷ []; shape = none is refl })
phrase_other names noted room marks (Called call args) vs t fault e other h = called_other names noted room call args vs t fault marks (beside_failed marks (argument_read names (room - 1) call args t) fault e) other h
phrase_other names noted room marks (Whole s) vs t fault e other h = absurd (ended_call_other s t.at t.kind t.word fault (beside_failed marks (called_ended s t) fault e) other)
