-- How much is left to write.
use Rattle.std.proofs.Common.{◌+◌, ◌*◌}
use Rattle.pssm_acts.proofs.ExprText.{operations}
use Rattle.pssm_acts.proofs.terms.+exprs.Given as goal

abbrev pub decreases-put_expr : goal.decreases-put_expr
decreases-put_expr l = 4 * operations l.expr.now

abbrev pub decreases-put_operation : goal.decreases-put_operation
decreases-put_operation l = 4 * (operations l.left.now + operations l.right.now) + 3

abbrev pub decreases-put_operand : goal.decreases-put_operand
decreases-put_operand l = 4 * operations l.expr.now + 2
