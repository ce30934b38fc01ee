-- What one token makes of an assignment, a send or a mark that has been read in part (this profile's choice).
use Rattle.std.specs.Prelude.{◌-◌, ℕ, List, [], length, Option, Some, None, Result, Ok, Err, nat_lt, ◌==◌, if◌then◌else◌, position, bytes_eq}
use Rattle.std.specs.Option.{option_map}
use Rattle.pssm_model.specs.declared.ids.SignalId.{SignalId}
use Rattle.pssm_acts.specs.declared.act_fault.ActFault.{ActFault}
pub use Rattle.pssm_acts.specs.Answers.{AnswersWith}
use Rattle.pssm_acts.specs.declared.act_fault.ActFault.TheVariants.{Syntax, UnknownName, Arity, TooLong}
use Rattle.pssm_acts.specs.declared.argument_reader.Arguments.{Arguments}
use Rattle.pssm_acts.specs.declared.argument_reader.Arguments.TheVariants.{Opened}
use Rattle.pssm_acts.specs.declared.argument_reader.Argued.{Argued}
use Rattle.pssm_acts.specs.declared.argument_reader.Argued.TheVariants as arguments
use Rattle.pssm_semantics.specs.declared.entry.ObjectId.{ObjectId}
use Rattle.pssm_acts.specs.declared.expr_reader.ExprReader.{ExprReader}
use Rattle.pssm_acts.specs.declared.phrase_reader.Call.{Call}
use Rattle.pssm_acts.specs.declared.phrase_reader.Call.TheVariants as calls
use Rattle.pssm_acts.specs.declared.phrase_reader.Phrase.{Phrase}
use Rattle.pssm_acts.specs.declared.phrase_reader.Phrase.TheVariants.{Variable, Value, Receiver, Dotted, Named, Called, Whole}
use Rattle.pssm_acts.specs.declared.phrase_reader.Phrase.TheVariants as phrases
use Rattle.pssm_acts.specs.declared.phrase_reader.Phrased.{Phrased}
use Rattle.pssm_acts.specs.declared.phrase_reader.Phrased.TheVariants.{Goes, Ends}
use Rattle.pssm_semantics.specs.declared.setting.Names.{Names}
use Rattle.pssm_semantics.specs.declared.setting.SignalDecl.{SignalDecl}
use Rattle.pssm_acts.specs.declared.token.Kind.{Kind}
use Rattle.pssm_acts.specs.declared.token.Kind.TheVariants as kinds
use Rattle.pssm_semantics.specs.declared.tree.Expr.{Expr}
use Rattle.pssm_semantics.specs.declared.tree.Stmt.{Stmt, Assign, Send, Mark}
use Rattle.pssm_acts.specs.inner.ArgumentReading.{arguments_step}
use Rattle.pssm_acts.specs.inner.ExprReading.{and_then, expr_step, expr_value, fresh_expr}
use Rattle.pssm_acts.specs.Marks.{mark_of, with_mark}
use Rattle.pssm_acts.specs.Tokens.{Token}
pub use Rattle.pssm_acts.specs.Vocabularies.{signal_count}

-- what leaves the marks as they were
abbrev pub beside : {A M : Type 0} → M → Result A ActFault → Result (A × M) ActFault
beside marks r = and_then r (λ x. Ok (x, marks))

-- the signal at a place, and how many parameters it has
abbrev pub signal_found : List SignalDecl → Option ℕ → Option (SignalId × ℕ)
signal_found signals place = option_map (λ s. (record { 0 = s }, signal_count signals s)) place

-- the first token of an assignment, a send or a mark
abbrev pub variable_begun : ℕ → Option ℕ → Result Phrase ActFault
variable_begun at (Some x) = Ok (Variable x)
variable_begun at None = Err (UnknownName at)

abbrev pub phrase_begun_by : Kind → Names → Token → Result Phrase ActFault
phrase_begun_by kinds.Name names t = variable_begun t.at (position (λ n. bytes_eq n t.word) names.vars)
phrase_begun_by kinds.Send names t = Ok phrases.Send
phrase_begun_by kinds.Mark names t = Ok phrases.Mark
phrase_begun_by kind names t = Err (Syntax t.at)

unfoldable pub phrase_begun : Names → Token → Result Phrase ActFault
phrase_begun names t = phrase_begun_by t.kind names t

-- a token behind the variable of an assignment
abbrev pub became_by : Kind → ℕ → ℕ → Result Phrased ActFault
became_by kinds.Becomes x at = Ok (Goes (Value x fresh_expr))
became_by kind x at = Err (Syntax at)

unfoldable pub became : ℕ → Token → Result Phrased ActFault
became x t = became_by t.kind x t.at

-- a token in the value of an assignment, or the semicolon behind it
abbrev pub value_read_by : Kind → Names → ℕ → ℕ → ExprReader → Token → Result Phrased ActFault
value_read_by kinds.Semicolon names room x reader t = and_then (expr_value reader t.at) (λ e. Ok (Ends (Assign x e)))
value_read_by kind names room x reader t = and_then (expr_step names room reader t) (λ more. Ok (Goes (Value x more)))

unfoldable pub value_read : Names → ℕ → ℕ → ExprReader → Token → Result Phrased ActFault
value_read names room x reader t = value_read_by t.kind names room x reader t

-- a token behind `send`: the name of an object, or `self`
abbrev pub object_read : ℕ → Option ℕ → Result Phrased ActFault
object_read at (Some o) = Ok (Goes (Receiver (Some (record { 0 = o }))))
object_read at None = Err (UnknownName at)

abbrev pub receiver_read_by : Kind → Names → Token → Result Phrased ActFault
receiver_read_by kinds.Own names t = Ok (Goes (Receiver None))
receiver_read_by kinds.Name names t = object_read t.at (position (λ n. bytes_eq n t.word) names.objects)
receiver_read_by kind names t = Err (Syntax t.at)

unfoldable pub receiver_read : Names → Token → Result Phrased ActFault
receiver_read names t = receiver_read_by t.kind names t

-- a token behind the object to which a signal is sent
abbrev pub dotted_by : Kind → Option ObjectId → ℕ → Result Phrased ActFault
dotted_by kinds.Dot to at = Ok (Goes (Dotted to))
dotted_by kind to at = Err (Syntax at)

unfoldable pub dotted : Option ObjectId → Token → Result Phrased ActFault
dotted to t = dotted_by t.kind to t.at

-- a token behind the dot: the name of a signal
abbrev pub signal_named : ℕ → Option ObjectId → Option (SignalId × ℕ) → Result Phrased ActFault
signal_named at to (Some s) = Ok (Goes (Named (calls.Send to s.0 s.1)))
signal_named at to None = Err (UnknownName at)

abbrev pub signal_read_by : Kind → Names → Option ObjectId → Token → Result Phrased ActFault
signal_read_by kinds.Name names to t = signal_named t.at to (signal_found names.signals (position (λ d. bytes_eq d.name t.word) names.signals))
signal_read_by kind names to t = Err (Syntax t.at)

unfoldable pub signal_read : Names → Option ObjectId → Token → Result Phrased ActFault
signal_read names to t = signal_read_by t.kind names to t

-- a token behind `mark`: a name, which is noted where it is new
abbrev pub mark_read_by : Kind → List (List ℕ) → Token → Result (Phrased × List (List ℕ)) ActFault
mark_read_by kinds.Name marks t = Ok (Goes (Named (calls.Mark (mark_of marks t.word))), with_mark marks t.word)
mark_read_by kind marks t = Err (Syntax t.at)

unfoldable pub mark_read : List (List ℕ) → Token → Result (Phrased × List (List ℕ)) ActFault
mark_read marks t = mark_read_by t.kind marks t

-- a token behind the name of a signal that is sent or of a mark: a parenthesis, where there is room for its level; behind a mark also the semicolon
abbrev pub named_by : Kind → ℕ → Call → ℕ → Result Phrased ActFault
named_by kinds.Open room call at = if nat_lt 0 room then Ok (Goes (Called call Opened)) else Err (TooLong at)
named_by kinds.Semicolon room (calls.Mark mark) at = Ok (Ends (Mark mark []))
named_by kind room call at = Err (Syntax at)

unfoldable pub named : ℕ → Call → Token → Result Phrased ActFault
named room call t = named_by t.kind room call t.at

-- the send or mark with its arguments, where it may have so many
unfoldable pub call_made : Call → List Expr → ℕ → Result Stmt ActFault
call_made (calls.Send to signal count) args at = if length args == count then Ok (Send to signal args) else Err (Arity at)
call_made (calls.Mark mark) args at = if nat_lt 8 (length args) then Err (Arity at) else Ok (Mark mark args)

-- what a token in arguments makes of a send or a mark
abbrev pub argued : Call → Argued → ℕ → Result Phrased ActFault
argued call (arguments.Goes args) at = Ok (Goes (Called call args))
argued call (arguments.Ends args) at = and_then (call_made call args at) (λ s. Ok (Goes (Whole s)))

unfoldable pub argument_read : Names → ℕ → Call → Arguments → Token → Result Phrased ActFault
argument_read names room call args t = and_then (arguments_step names room args t) (λ a. argued call a t.at)

-- a token behind a send or mark and its arguments: the semicolon
abbrev pub called_ended_by : Kind → Stmt → ℕ → Result Phrased ActFault
called_ended_by kinds.Semicolon s at = Ok (Ends s)
called_ended_by kind s at = Err (Syntax at)

unfoldable pub called_ended : Stmt → Token → Result Phrased ActFault
called_ended s t = called_ended_by t.kind s t.at

-- the next token, with the marks behind it; so many levels of parentheses may be open
unfoldable pub phrase_step : Names → ℕ → List (List ℕ) → Phrase → Token → Result (Phrased × List (List ℕ)) ActFault
phrase_step names room marks (Variable x) t = beside marks (became x t)
phrase_step names room marks (Value x reader) t = beside marks (value_read names room x reader t)
phrase_step names room marks phrases.Send t = beside marks (receiver_read names t)
phrase_step names room marks (Receiver to) t = beside marks (dotted to t)
phrase_step names room marks (Dotted to) t = beside marks (signal_read names to t)
phrase_step names room marks phrases.Mark t = mark_read marks t
phrase_step names room marks (Named call) t = beside marks (named room call t)
phrase_step names room marks (Called call args) t = beside marks (argument_read names (room - 1) call args t)
phrase_step names room marks (Whole s) t = beside marks (called_ended s t)
