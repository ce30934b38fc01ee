-- One expression more is written.
use Rattle.pssm_acts.proofs.StmtText.{expr-written}
use Rattle.pssm_acts.proofs.writing.put_further.Goals as goal

pub loop-expr-preserved : goal.loop-expr-preserved
loop-expr-preserved c =
    expr-written c.args.names.now c.args.text.now.items c.loop-expr.text.items _ _ c.args.args.now c.loop-expr.expr-index c.expr-item.result c.loop-expr-test.true c.expr-item.is
    c.loop-expr.invariant c.in_ok-extend_from_slice.ensures.items c.in_ok-put_expr.ensures
