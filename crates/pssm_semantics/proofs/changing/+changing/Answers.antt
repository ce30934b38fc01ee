-- The block that is run is a part of the statement.
use Rattle.std.proofs.Common.{◌≡◌, arith, sym, ap, ◌∙◌}
use Rattle.pssm_semantics.proofs.Blocks.{first_smaller, other_smaller, one_smaller}
use Rattle.pssm_semantics.proofs.Changes.{changes_first, changes_other, one_more_changes}
use Rattle.pssm_semantics.proofs.changing.+changing.Goals as goal

pub change_by_block-change_by_stmt-requires : goal.change_by_block-change_by_stmt-requires
change_by_block-change_by_stmt-requires t c =
    omega (arith, one_smaller c.args.stmts.now c.loop-stmt.stmt-index c.stmt-item.result c.loop-stmt-test.true c.stmt-item.is, c.decreases)

pub change_by_block-loop-stmt-preserved : goal.change_by_block-loop-stmt-preserved
change_by_block-loop-stmt-preserved t c =
    one_more_changes c.args.stmts.now c.loop-stmt.stmt-index c.stmt-item.result c.args.params.now _ _ _ c.loop-stmt-test.true c.stmt-item.is
    c.loop-stmt.invariant c.change_by_stmt.ensures

pub change_by_stmt-change_by_block-requires : goal.change_by_stmt-change_by_block-requires
change_by_stmt-change_by_block-requires t c =
    omega (arith, first_smaller c.args.stmt.now _ _ c.as_slice.result.now _ c.in-Choose.is c.as_slice.ensures, c.decreases)

pub change_by_stmt-returns-then-truth : goal.change_by_stmt-returns-then-truth
change_by_stmt-returns-then-truth t c =
    changes_first c.args.stmt.now _ _ c.as_slice.result.now _ c.args.params.now _ _ c.in-Choose.is c.as_slice.ensures
    (sym c.truth.ensures ∙ c.if-truth.true) c.change_by_block.ensures

pub change_by_stmt-change_by_block-requires-in-Some : goal.change_by_stmt-change_by_block-requires-in-Some
change_by_stmt-change_by_block-requires-in-Some t c =
    omega (arith, other_smaller c.args.stmt.now _ _ _ c.as_slice-in-Some.result.now _ c.in-Choose.is c.in-Some.is c.as_slice-in-Some.ensures, c.decreases)

pub change_by_stmt-returns-in-Some : goal.change_by_stmt-returns-in-Some
change_by_stmt-returns-in-Some t c =
    changes_other c.args.stmt.now _ _ _ c.as_slice-in-Some.result.now _ c.args.params.now _ _ c.in-Choose.is c.in-Some.is c.as_slice-in-Some.ensures
    (sym c.truth.ensures ∙ c.if-truth.false) c.change_by_block-in-Some.ensures
