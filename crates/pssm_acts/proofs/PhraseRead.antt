-- Whatever spells an assignment, a send or a mark is read as that statement.
use Rattle.std.proofs.Common.{◌≡◌, ◌≤◌, ◌+◌, ◌-◌, ◌<◌, ℕ, Bool, List, [], ◌∷◌, ◌++◌, length, Option, Some, Ok, refl, ap, ◌∙◌, arith, position, bytes_eq, eq-eqb}
use Rattle.std.proofs.lemmas.Bool.{lt-ltb, le-ltb}
use Rattle.pssm_model.specs.declared.ids.SignalId.{SignalId}
use Rattle.pssm_model.specs.declared.ids.MarkId.{MarkId}
use Rattle.pssm_acts.specs.declared.acts_reader.ActsReader.{ActsReader}
use Rattle.pssm_acts.specs.declared.read_blocks.Blocks.{Blocks}
use Rattle.pssm_acts.specs.declared.acts_reader.Turn.TheVariants.{Begins, Chosen}
use Rattle.pssm_semantics.specs.declared.entry.ObjectId.{ObjectId}
use Rattle.pssm_acts.specs.declared.expr_reader.ExprReader.{ExprReader}
use Rattle.pssm_acts.specs.declared.expr_reader.Left.{Left}
use Rattle.pssm_acts.specs.declared.expr_reader.Level.{Level}
use Rattle.pssm_acts.specs.declared.expr_reader.Place.{Place}
use Rattle.pssm_acts.specs.declared.expr_reader.Place.TheVariants.{Wants, Has}
use Rattle.pssm_acts.specs.declared.phrase_reader.Call.TheVariants as calls
use Rattle.pssm_acts.specs.declared.phrase_reader.Phrase.TheVariants.{Variable, Value, Receiver, Dotted, Named, Whole}
use Rattle.pssm_acts.specs.declared.phrase_reader.Phrase.TheVariants as phrases
use Rattle.pssm_acts.specs.declared.phrase_reader.Phrased.TheVariants.{Goes}
use Rattle.pssm_semantics.specs.declared.setting.Names.{Names}
use Rattle.pssm_acts.specs.declared.token.Kind.{Kind}
use Rattle.pssm_acts.specs.declared.token.Kind.TheVariants as kinds
use Rattle.pssm_semantics.specs.declared.tree.Cond.{Cond}
use Rattle.pssm_semantics.specs.declared.tree.Expr.{Expr}
use Rattle.pssm_semantics.specs.declared.tree.Stmt.{Stmt, Assign, Send, Mark}
use Rattle.pssm_acts.specs.Tokens.{Token}
use Rattle.pssm_acts.specs.Marks.{mark_of, with_mark}
use Rattle.pssm_acts.specs.inner.ExprReading.{and_then, sum_of, at_atom, atom_of, after_atom, expr_step, expr_value, fresh_expr}
use Rattle.pssm_acts.specs.inner.PhraseReading.{beside, signal_count, phrase_begun, became, value_read, receiver_read, dotted, signal_read, mark_read, named, call_made, called_ended, phrase_step}
use Rattle.pssm_acts.specs.inner.ActReading.{at_turn, with_statement, without_else, statement_counted, begun_at, after_choice, phrased, phrase_read, acts_step}
use Rattle.pssm_acts.specs.ActGrammar.{NamesReceiver, object, running, SpellsPhrase, assignment, sending, bare_mark, marking}
use Rattle.pssm_acts.proofs.ExprRead.{reader_at, ReadsSum, reads}
use Rattle.pssm_acts.proofs.ActRun.{Runs}
use Rattle.pssm_acts.proofs.Readers.{next, one, onward}
use Rattle.pssm_acts.proofs.Readers as runs
use Rattle.pssm_acts.proofs.ArgumentRead.{within, reads_arguments}

-- Statements are whole, perhaps with an `if` at their end that `else` may still follow.
pub data Standing : ActsReader → Blocks → Type 0 where
  begins : {blocks : Blocks} → Standing (at_turn blocks Begins) blocks
  chosen : {blocks : Blocks} {c : Cond} {body : List Stmt} → Standing (at_turn blocks (Chosen c body)) (without_else blocks c body)

-- The token is not `else`.
abbrev pub IsNoElse : Kind → Type 0
IsNoElse kinds.Else = ⊥
IsNoElse kind = Unit {0}

pub stands_step : (names : Names) (stepped : Bool) (marks : List (List ℕ)) (n : ActsReader) (blocks : Blocks) (kind : Kind) (at : ℕ) (word : List ℕ) → IsNoElse kind → Standing n blocks
    → acts_step names stepped marks n (record { at = at; kind = kind; word = word }) ≡ beside marks (begun_at names stepped blocks (record { at = at; kind = kind; word = word }))
unfolding acts_step after_choice
stands_step names stepped marks n blocks kind at word other begins = refl
stands_step names stepped marks n blocks kinds.Else at word other chosen = absurd other
stands_step names stepped marks n blocks kind at word other chosen = refl

-- A token that may stand where statements are whole is read as at the beginning of one.
pub taken : {n m : ActsReader} {blocks : Blocks} (names : Names) (stepped : Bool) (marks : List (List ℕ)) (t : Token) → Standing n blocks → IsNoElse t.kind → begun_at names stepped blocks t ≡ Ok m
    → acts_step names stepped marks n t ≡ Ok (m, marks)
taken {n} {m} {blocks} names stepped marks t stands other step = stands_step names stepped marks n blocks t.kind t.at t.word other stands ∙ ap (λ x. beside marks x) step

-- the same blocks with one more statement that has begun
abbrev pub counted : Blocks → Blocks
counted blocks = record { earlier = blocks.earlier; outer = blocks.outer; stmts = blocks.stmts; begun = blocks.begun + 1 }

-- ---- the first token

module _ (names : Names) (stepped : Bool) (blocks : Blocks) (few : blocks.begun < 64) (t : Token) where
  pub assignment_begins : (x : ℕ) → t.kind ≡ kinds.Name → position (λ name. bytes_eq name t.word) names.vars ≡ Some x → begun_at names stepped blocks t ≡ Ok (within (counted blocks) (Variable x))
  unfolding begun_at phrase_begun statement_counted
  assignment_begins x is found = simp (is, found, lt-ltb blocks.begun 64 few) refl

  pub send_begins : t.kind ≡ kinds.Send → begun_at names stepped blocks t ≡ Ok (within (counted blocks) phrases.Send)
  unfolding begun_at phrase_begun statement_counted
  send_begins is = simp (is, lt-ltb blocks.begun 64 few) refl

  pub mark_begins : t.kind ≡ kinds.Mark → begun_at names stepped blocks t ≡ Ok (within (counted blocks) phrases.Mark)
  unfolding begun_at phrase_begun statement_counted
  mark_begins is = simp (is, lt-ltb blocks.begun 64 few) refl

-- ---- the further tokens

pub value_goes : (names : Names) (stepped : Bool) (marks : List (List ℕ)) (blocks : Blocks) (x : ℕ) (outer : List Level) (left : Left) (place : Place) (n : ExprReader) (kind : Kind) (at : ℕ) (word : List ℕ)
    → expr_step names (16 - length blocks.outer) (reader_at outer left place) (record { at = at; kind = kind; word = word }) ≡ Ok n
    → acts_step names stepped marks (within blocks (Value x (reader_at outer left place))) (record { at = at; kind = kind; word = word }) ≡ Ok (within blocks (Value x n), marks)
unfolding expr_step at_atom atom_of after_atom acts_step phrase_read phrase_step value_read
value_goes names stepped marks blocks x outer left (Wants factor) n kinds.Semicolon at word step = absurd cc
value_goes names stepped marks blocks x outer left (Has term) n kinds.Semicolon at word step = absurd cc
value_goes names stepped marks blocks x outer left place n kind at word step =
    ap (λ r. and_then (beside marks (and_then r (λ more. Ok (Goes (Value x more))))) (λ next. Ok (phrased blocks next.0, next.1))) step

module _ (names : Names) (stepped : Bool) (marks : List (List ℕ)) (blocks : Blocks) (t : Token) where
  pub behind_variable : (x : ℕ) → t.kind ≡ kinds.Becomes → acts_step names stepped marks (within blocks (Variable x)) t ≡ Ok (within blocks (Value x fresh_expr), marks)
  unfolding acts_step phrase_read phrase_step became
  behind_variable x is = simp is refl

  pub behind_value : (x : ℕ) (left : Left) (term : Expr) → t.kind ≡ kinds.Semicolon
      → acts_step names stepped marks (within blocks (Value x (reader_at [] left (Has term)))) t ≡ Ok (at_turn (with_statement blocks (Assign x (sum_of left term))) Begins, marks)
  unfolding acts_step phrase_read phrase_step value_read expr_value
  behind_value x left term is = simp is refl

  pub behind_send : (to : Option ObjectId) → NamesReceiver names t to → acts_step names stepped marks (within blocks phrases.Send) t ≡ Ok (within blocks (Receiver to), marks)
  unfolding acts_step phrase_read phrase_step receiver_read
  behind_send to (object is found) = simp (is, found) refl
  behind_send to (running is) = simp is refl

  pub behind_receiver : (to : Option ObjectId) → t.kind ≡ kinds.Dot → acts_step names stepped marks (within blocks (Receiver to)) t ≡ Ok (within blocks (Dotted to), marks)
  unfolding acts_step phrase_read phrase_step dotted
  behind_receiver to is = simp is refl

  pub behind_dot : (to : Option ObjectId) (signal : SignalId) → t.kind ≡ kinds.Name → position (λ d. bytes_eq d.name t.word) names.signals ≡ Some signal.0
      → acts_step names stepped marks (within blocks (Dotted to)) t ≡ Ok (within blocks (Named (calls.Send to signal (signal_count names.signals signal.0))), marks)
  unfolding acts_step phrase_read phrase_step signal_read
  behind_dot to signal is found = simp (is, found) refl

  pub behind_mark : t.kind ≡ kinds.Name → acts_step names stepped marks (within blocks phrases.Mark) t ≡ Ok (within blocks (Named (calls.Mark (mark_of marks t.word))), with_mark marks t.word)
  unfolding acts_step phrase_read phrase_step mark_read
  behind_mark is = simp is refl

  pub behind_bare : (mark : MarkId) → t.kind ≡ kinds.Semicolon → acts_step names stepped marks (within blocks (Named (calls.Mark mark))) t ≡ Ok (at_turn (with_statement blocks (Mark mark [])) Begins, marks)
  unfolding acts_step phrase_read phrase_step named
  behind_bare mark is = simp is refl

  pub behind_arguments : (s : Stmt) → t.kind ≡ kinds.Semicolon → acts_step names stepped marks (within blocks (Whole s)) t ≡ Ok (at_turn (with_statement blocks s) Begins, marks)
  unfolding acts_step phrase_read phrase_step called_ended
  behind_arguments s is = simp is refl

send_made : (to : Option ObjectId) (signal : SignalId) (count : ℕ) (args : List Expr) → length args ≡ count → (at : ℕ) → call_made (calls.Send to signal count) args at ≡ Ok (Send to signal args)
unfolding call_made
send_made to signal count args is at = simp (eq-eqb (length args) count is) refl

mark_made : (mark : MarkId) (args : List Expr) → length args ≤ 8 → (at : ℕ) → call_made (calls.Mark mark) args at ≡ Ok (Mark mark args)
unfolding call_made
mark_made mark args few at = simp (le-ltb 8 (length args) few) refl

-- the value of an assignment, and the semicolon
value_run : {names : Names} {ts : List Token} {e : Expr} (stepped : Bool) (marks : List (List ℕ)) (blocks : Blocks) (x : ℕ) (semicolon : Token) → ReadsSum names (16 - length blocks.outer) [] ts e
    → semicolon.kind ≡ kinds.Semicolon → Runs names stepped marks (within blocks (Value x fresh_expr)) (ts ++ semicolon ∷ []) marks (at_turn (with_statement blocks (Assign x e)) Begins)
value_run {names} {ts} {e} stepped marks blocks x semicolon r ends =
    let last : ExprReader = reader_at [] r.left (Has r.term) in
    let behind : acts_step names stepped marks (within blocks (Value x last)) semicolon ≡ Ok (at_turn (with_statement blocks (Assign x e)) Begins, marks) =
    behind_value names stepped marks blocks semicolon x r.left r.term ends ∙ ap (λ v. Ok (at_turn (with_statement blocks (Assign x v)) Begins, marks)) r.worth in
    onward (runs.within (λ m. (within blocks (Value x m), marks)) (λ r n t step. value_goes names stepped marks blocks x r.outer r.left r.place n t.kind t.at t.word step) r.run) (one behind)

-- The tokens of an assignment, a send or a mark, where a statement may begin and there may be one more, make it the last of the statements.
pub reads_phrase : {names : Names} {marks : List (List ℕ)} {l : ℕ} {ts : List Token} {s : Stmt} {noted : List (List ℕ)} (stepped : Bool) (n : ActsReader) (blocks : Blocks) → Standing n blocks → blocks.begun < 64
    → length blocks.outer + l ≡ 16 → SpellsPhrase names marks l ts s noted → Runs names stepped marks n ts noted (at_turn (with_statement (counted blocks) s) Begins)
reads_phrase {names} {marks} stepped n blocks stands few deep (assignment {l} {variable} {becomes} semicolon {ts} {x} {e} is found becoming spelled ends) =
    next (taken names stepped marks variable stands (rw is tt) (assignment_begins names stepped blocks few variable x is found))
    (next (behind_variable names stepped marks (counted blocks) becomes x becoming)
    (value_run stepped marks (counted blocks) x semicolon (reads (16 - length blocks.outer) [] (omega arith) spelled) ends))
reads_phrase {names} {marks} stepped n blocks stands few deep (sending {l} {send} {receiver} {dot} {name} semicolon {ts} {to} {signal} {args} is receives dots names' found spelled many ends) =
    let count : ℕ = signal_count names.signals signal.0 in
    next (taken names stepped marks send stands (rw is tt) (send_begins names stepped blocks few send is))
    (next (behind_send names stepped marks (counted blocks) receiver to receives)
    (next (behind_receiver names stepped marks (counted blocks) dot to dots)
    (next (behind_dot names stepped marks (counted blocks) name to signal names' found)
    (onward (reads_arguments stepped marks (counted blocks) (calls.Send to signal count) (Send to signal args) deep (send_made to signal count args many) spelled)
    (one (behind_arguments names stepped marks (counted blocks) semicolon (Send to signal args) ends))))))
reads_phrase {names} {marks} stepped n blocks stands few deep (bare_mark {l} {mark} {name} {semicolon} is names' ends) =
    next (taken names stepped marks mark stands (rw is tt) (mark_begins names stepped blocks few mark is))
    (next (behind_mark names stepped marks (counted blocks) name names')
    (one (behind_bare names stepped (with_mark marks name.word) (counted blocks) semicolon (mark_of marks name.word) ends)))
reads_phrase {names} {marks} stepped n blocks stands few deep (marking {l} {mark} {name} semicolon {ts} {args} is names' spelled short ends) =
    next (taken names stepped marks mark stands (rw is tt) (mark_begins names stepped blocks few mark is))
    (next (behind_mark names stepped marks (counted blocks) name names')
    (onward (reads_arguments stepped (with_mark marks name.word) (counted blocks) (calls.Mark (mark_of marks name.word)) (Mark (mark_of marks name.word) args) deep (mark_made (mark_of marks name.word) args short) spelled)
    (one (behind_arguments names stepped (with_mark marks name.word) (counted blocks) semicolon (Mark (mark_of marks name.word) args) ends))))
