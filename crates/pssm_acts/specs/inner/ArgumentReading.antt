-- What one token makes of the arguments of a send or a mark that have been read in part (this profile's choice).
use Rattle.std.specs.Prelude.{ℕ, List, [], ◌∷◌, ◌++◌, Result, Ok}
use Rattle.pssm_acts.specs.declared.act_fault.ActFault.{ActFault}
use Rattle.pssm_acts.specs.declared.argument_reader.Arguments.{Arguments}
use Rattle.pssm_acts.specs.declared.argument_reader.Arguments.TheVariants.{Opened, Listed}
use Rattle.pssm_acts.specs.declared.argument_reader.Argued.{Argued}
use Rattle.pssm_acts.specs.declared.argument_reader.Argued.TheVariants.{Goes, Ends}
use Rattle.pssm_acts.specs.declared.expr_reader.ExprReader.{ExprReader}
use Rattle.pssm_acts.specs.declared.expr_reader.Level.{Level}
use Rattle.pssm_semantics.specs.declared.setting.Names.{Names}
use Rattle.pssm_acts.specs.declared.token.Kind.{Kind}
use Rattle.pssm_acts.specs.declared.token.Kind.TheVariants as kinds
use Rattle.pssm_semantics.specs.declared.tree.Expr.{Expr}
use Rattle.pssm_acts.specs.inner.ExprReading.{and_then, expr_step, expr_value, fresh_expr}
use Rattle.pssm_acts.specs.Tokens.{Token}

-- the arguments with the last one, where it may end at this byte
unfoldable pub argument_ended : List Expr → ExprReader → ℕ → Result (List Expr) ActFault
argument_ended args last at = and_then (expr_value last at) (λ e. Ok (args ++ e ∷ []))

-- a token that belongs to an argument
unfoldable pub argument_more : Names → ℕ → List Expr → ExprReader → Token → Result Argued ActFault
argument_more names room args last t = and_then (expr_step names room last t) (λ more. Ok (Goes (Listed args more)))

-- a closing parenthesis: that of the arguments, where none is open in the last one
abbrev pub argument_closed_in : List Level → Names → ℕ → List Expr → ExprReader → Token → Result Argued ActFault
argument_closed_in [] names room args last t = and_then (argument_ended args last t.at) (λ all. Ok (Ends all))
argument_closed_in (level ∷ outer) names room args last t = argument_more names room args last t

unfoldable pub argument_closed : Names → ℕ → List Expr → ExprReader → Token → Result Argued ActFault
argument_closed names room args last t = argument_closed_in last.outer names room args last t

-- a token behind the first of an argument, or where a further one may begin
abbrev pub listed_step_by : Kind → Names → ℕ → List Expr → ExprReader → Token → Result Argued ActFault
listed_step_by kinds.Comma names room args last t = and_then (argument_ended args last t.at) (λ all. Ok (Goes (Listed all fresh_expr)))
listed_step_by kinds.Close names room args last t = argument_closed names room args last t
listed_step_by kind names room args last t = argument_more names room args last t

unfoldable pub listed_step : Names → ℕ → List Expr → ExprReader → Token → Result Argued ActFault
listed_step names room args last t = listed_step_by t.kind names room args last t

-- the token behind the opening parenthesis
abbrev pub opened_step_by : Kind → Names → ℕ → Token → Result Argued ActFault
opened_step_by kinds.Close names room t = Ok (Ends [])
opened_step_by kind names room t = listed_step names room [] fresh_expr t

-- the next token of arguments; so many levels of parentheses may be open in them
unfoldable pub arguments_step : Names → ℕ → Arguments → Token → Result Argued ActFault
arguments_step names room Opened t = opened_step_by t.kind names room t
arguments_step names room (Listed args last) t = listed_step names room args last t
