-- What was written of a statement is its text, and its blocks are smaller.
use Rattle.std.proofs.Common.{◌++◌, refl, arith, codes}
use Rattle.std.proofs.lemmas.Result.{IfOk-equal}
use Rattle.pssm_acts.specs.ActText.{block_text, stmts_text}
use Rattle.pssm_semantics.proofs.Blocks.{first_smaller, other_smaller, one_smaller}
use Rattle.pssm_acts.proofs.StmtText.{Choose-written, Choose_else-written, stmt-written}
use Rattle.pssm_acts.proofs.writing.+stmts.Goals as goal

pub put_stmt-put_block-requires : goal.put_stmt-put_block-requires
put_stmt-put_block-requires t c =
    (omega (arith, c.decreases, first_smaller c.args.stmt.now _ _ c.as_slice.result.now _ c.in-Choose.is c.as_slice.ensures), tt)

pub put_stmt-put_block-requires-in-Some : goal.put_stmt-put_block-requires-in-Some
put_stmt-put_block-requires-in-Some t c =
    (omega (arith, c.decreases, other_smaller c.args.stmt.now _ _ _ c.as_slice-in-Some.result.now _ c.in-Choose.is c.in-Some.is c.as_slice-in-Some.ensures), tt)

pub put_stmts-put_stmt-requires : goal.put_stmts-put_stmt-requires
put_stmts-put_stmt-requires t c =
    (omega (arith, c.decreases, one_smaller c.args.stmts.now c.loop-stmt.stmt-index c.stmt-item.result c.loop-stmt-test.true c.stmt-item.is), tt)

pub put_stmts-loop-stmt-preserved : goal.put_stmts-loop-stmt-preserved
put_stmts-loop-stmt-preserved t c =
    stmt-written c.args.names.now c.args.marks.now c.args.text.now.items c.loop-stmt.text.items _ _ c.args.stmts.now c.loop-stmt.stmt-index c.stmt-item.result
    c.loop-stmt-test.true c.stmt-item.is c.loop-stmt.invariant c.in_ok-push.ensures.items c.in_ok-put_stmt.ensures

pub put_stmt-returns-in-None : goal.put_stmt-returns-in-None
put_stmt-returns-in-None t c =
    Choose-written c.args.names.now c.args.marks.now c.args.text.now.items _ _ _ c.args.stmt.now _ _ c.as_slice.result.now _ c.in-Choose.is c.in-None.is c.as_slice.ensures
    c.in_ok-extend_from_slice-in-Choose.ensures.items c.in_ok-put_cond-in-Choose.ensures c.in_ok-put_block-in-Choose.ensures

pub put_stmt-returns-in-Some : goal.put_stmt-returns-in-Some
put_stmt-returns-in-Some t c =
    let block = block_text (codes " else {") (stmts_text c.args.names.now c.args.marks.now c.as_slice-in-Some.result.now) in
    IfOk-equal c.put_block-in-Some.result _ _ _ c.put_block-in-Some.ensures
    (Choose_else-written c.args.names.now c.args.marks.now c.args.text.now.items _ _ c.put_block.new.text.items (c.put_block.new.text.items ++ block) c.args.stmt.now _ _ _ c.as_slice.result.now c.as_slice-in-Some.result.now _
    c.in-Choose.is c.in-Some.is c.as_slice.ensures c.as_slice-in-Some.ensures
    c.in_ok-extend_from_slice-in-Choose.ensures.items c.in_ok-put_cond-in-Choose.ensures c.in_ok-put_block-in-Choose.ensures refl)
