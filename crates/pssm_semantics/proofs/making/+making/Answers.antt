-- The block that is run is a part of the statement.
use Rattle.std.proofs.Common.{◌≡◌, arith, sym, ap, ◌∙◌}
use Rattle.std.proofs.lemmas.Option.{IfSome_then}
use Rattle.pssm_semantics.proofs.Blocks.{runs_first, runs_other, first_smaller, other_smaller, one_smaller, one_more}
use Rattle.pssm_semantics.proofs.making.+making.Goals as goal

pub made_by_block-made_by_stmt-requires : goal.made_by_block-made_by_stmt-requires
made_by_block-made_by_stmt-requires t c =
    (omega (arith, one_smaller c.args.stmts.now c.loop-stmt.stmt-index c.stmt-item.result c.loop-stmt-test.true c.stmt-item.is, c.decreases), c.loop-stmt.invariant.few)

pub made_by_block-loop-stmt-preserved : goal.made_by_block-loop-stmt-preserved
made_by_block-loop-stmt-preserved t c = record {
  few = c.in_ok-made.ensures.some;
  makes = one_more c.args.stmts.now c.loop-stmt.stmt-index c.stmt-item.result c.args.own c.args.params.now _ _ _ c.loop-stmt-test.true c.stmt-item.is
      c.loop-stmt.invariant.makes c.in_ok-made.ensures.makes;
}

pub made_by_stmt-made_by_block-requires : goal.made_by_stmt-made_by_block-requires
made_by_stmt-made_by_block-requires t c =
    (omega (arith, first_smaller c.args.stmt.now _ _ c.as_slice.result.now _ c.in-Choose.is c.as_slice.ensures, c.decreases), c.requires)

pub made_by_stmt-returns-then-truth-clause-makes : goal.made_by_stmt-returns-then-truth-clause-makes
made_by_stmt-returns-then-truth-clause-makes t c =
    IfSome_then c.made_by_block.result c.made_by_block.ensures.makes
    (λ after e. e ∙ runs_first c.args.stmt.now _ _ c.as_slice.result.now _ c.args.own c.args.params.now _ c.in-Choose.is c.as_slice.ensures
    (sym c.truth.ensures ∙ c.if-truth.true))

pub made_by_stmt-made_by_block-requires-in-Some : goal.made_by_stmt-made_by_block-requires-in-Some
made_by_stmt-made_by_block-requires-in-Some t c =
    (omega (arith, other_smaller c.args.stmt.now _ _ _ c.as_slice-in-Some.result.now _ c.in-Choose.is c.in-Some.is c.as_slice-in-Some.ensures, c.decreases), c.requires)

pub made_by_stmt-returns-in-Some-clause-makes : goal.made_by_stmt-returns-in-Some-clause-makes
made_by_stmt-returns-in-Some-clause-makes t c =
    IfSome_then c.made_by_block-in-Some.result c.made_by_block-in-Some.ensures.makes
    (λ after e. e ∙ runs_other c.args.stmt.now _ _ _ c.as_slice-in-Some.result.now _ c.args.own c.args.params.now _ c.in-Choose.is c.in-Some.is c.as_slice-in-Some.ensures
    (sym c.truth.ensures ∙ c.if-truth.false))
