-- The operands with the sign between them are the text, and have fewer operations.
use Rattle.std.proofs.Common.{◌++◌, ap, arith}
use Rattle.std.proofs.lemmas.Result.{IfOk-equal}
use Rattle.pssm_acts.proofs.ExprText.{Sum-count, Diff-count, Prod-count, Sum-text, Diff-text, Prod-text}
use Rattle.pssm_acts.proofs.terms.+exprs.Goals as goal

pub put_expr-returns-in-Sum : goal.put_expr-returns-in-Sum
put_expr-returns-in-Sum t c =
    IfOk-equal c.put_operation.result _ _ _ c.put_operation.ensures
    (ap (λ xs. c.args.text.now.items ++ xs) (Sum-text c.args.names.now c.args.expr.now _ _ c.get.result.now c.get-in-Sum.result.now c.in-Sum.is c.get.ensures c.get-in-Sum.ensures))

pub put_expr-returns-in-Diff : goal.put_expr-returns-in-Diff
put_expr-returns-in-Diff t c =
    IfOk-equal c.put_operation-in-Diff.result _ _ _ c.put_operation-in-Diff.ensures
    (ap (λ xs. c.args.text.now.items ++ xs) (Diff-text c.args.names.now c.args.expr.now _ _ c.get-in-Diff.result.now c.get-in-Diff-2.result.now c.in-Diff.is c.get-in-Diff.ensures c.get-in-Diff-2.ensures))

pub put_expr-returns-in-Prod : goal.put_expr-returns-in-Prod
put_expr-returns-in-Prod t c =
    IfOk-equal c.put_operation-in-Prod.result _ _ _ c.put_operation-in-Prod.ensures
    (ap (λ xs. c.args.text.now.items ++ xs) (Prod-text c.args.names.now c.args.expr.now _ _ c.get-in-Prod.result.now c.get-in-Prod-2.result.now c.in-Prod.is c.get-in-Prod.ensures c.get-in-Prod-2.ensures))

pub put_expr-put_operation-requires : goal.put_expr-put_operation-requires
put_expr-put_operation-requires t c =
    (omega (arith, c.decreases, Sum-count c.args.expr.now _ _ c.get.result.now c.get-in-Sum.result.now c.in-Sum.is c.get.ensures c.get-in-Sum.ensures), tt)

pub put_expr-put_operation-requires-in-Diff : goal.put_expr-put_operation-requires-in-Diff
put_expr-put_operation-requires-in-Diff t c =
    (omega (arith, c.decreases, Diff-count c.args.expr.now _ _ c.get-in-Diff.result.now c.get-in-Diff-2.result.now c.in-Diff.is c.get-in-Diff.ensures c.get-in-Diff-2.ensures), tt)

pub put_expr-put_operation-requires-in-Prod : goal.put_expr-put_operation-requires-in-Prod
put_expr-put_operation-requires-in-Prod t c =
    (omega (arith, c.decreases, Prod-count c.args.expr.now _ _ c.get-in-Prod.result.now c.get-in-Prod-2.result.now c.in-Prod.is c.get-in-Prod.ensures c.get-in-Prod-2.ensures), tt)
