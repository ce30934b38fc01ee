-- Operands of expressions and guards, in canonical spelling.
use Rattle.std.specs.Prelude.{ℕ, List}
use Rattle.pssm_semantics.specs.declared.setting.Names.{Names}
use Rattle.pssm_semantics.specs.declared.tree.Expr.{Expr}
use Rattle.pssm_semantics.specs.declared.tree.Cond.{Cond}
use Rattle.pssm_acts.specs.ActText.{is_operation, in_parentheses, expr_text, is_chain, in_brackets, cond_text}

-- an expression as an operand
abbrev pub operand_text : Names → Expr → List ℕ
operand_text names e = in_parentheses (is_operation e) (expr_text names e)

-- a guard as an operand
abbrev pub unit_text : Names → Cond → List ℕ
unit_text names c = in_brackets (is_chain c) (cond_text names c)
