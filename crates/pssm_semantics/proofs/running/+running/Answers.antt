-- The block that is run is a part of the statement.
use Rattle.std.proofs.Common.{◌≡◌, arith, sym, ap, ◌∙◌}
use Rattle.std.proofs.lemmas.Result.{IfOk-equal}
use Rattle.pssm_semantics.specs.Values.{truth_of}
use Rattle.pssm_semantics.proofs.Blocks.{runs_first, runs_other, IsPart, first_part, other_part, IsOneOf, one_of, one_more}
use Rattle.pssm_semantics.proofs.running.+running.Goals as goal

pub run_block-run_stmt-requires : goal.run_block-run_stmt-requires
run_block-run_stmt-requires t c =
    let one : IsOneOf c.stmt-item.result c.args.stmts.now =
    one_of c.args.stmts.now c.loop-stmt.stmt-index c.stmt-item.result c.requires c.loop-stmt-test.true c.stmt-item.is in
    (omega (arith, one.count, c.decreases), one.args)

pub run_block-loop-stmt-preserved : goal.run_block-loop-stmt-preserved
run_block-loop-stmt-preserved t c =
    one_more c.args.stmts.now c.loop-stmt.stmt-index c.stmt-item.result c.args.own c.args.params.now _ _ _ c.loop-stmt-test.true c.stmt-item.is
    c.loop-stmt.invariant c.in_ok-run_stmt.ensures

pub run_stmt-run_block-requires : goal.run_stmt-run_block-requires
run_stmt-run_block-requires t c =
    let part : IsPart c.as_slice-then-truth.result.now c.args.stmt.now =
    first_part c.args.stmt.now _ _ c.as_slice-then-truth.result.now _ c.in-Choose.is c.as_slice-then-truth.ensures c.requires in
    (omega (arith, part.count, c.decreases), part.args)

pub run_stmt-returns-then-truth : goal.run_stmt-returns-then-truth
run_stmt-returns-then-truth t c =
    let store : c.as_slice-in-Choose.result.now ≡ c.args.execution.now.store.items = c.as_slice-in-Choose.ensures.value in
    let holds = ap (λ xs. truth_of c.in-Choose.condition xs c.args.params.now) (sym store) ∙ sym c.truth.ensures ∙ c.if-truth.true in
    IfOk-equal c.run_block.result _ _ _ c.run_block.ensures
    (runs_first c.args.stmt.now _ _ c.as_slice-then-truth.result.now _ c.args.own c.args.params.now _ c.in-Choose.is c.as_slice-then-truth.ensures holds)

pub run_stmt-run_block-requires-in-Some : goal.run_stmt-run_block-requires-in-Some
run_stmt-run_block-requires-in-Some t c =
    let part : IsPart c.as_slice-in-Some.result.now c.args.stmt.now =
    other_part c.args.stmt.now _ _ _ c.as_slice-in-Some.result.now _ c.in-Choose.is c.in-Some.is c.as_slice-in-Some.ensures c.requires in
    (omega (arith, part.count, c.decreases), part.args)

pub run_stmt-returns-in-Some : goal.run_stmt-returns-in-Some
run_stmt-returns-in-Some t c =
    let store : c.as_slice-in-Choose.result.now ≡ c.args.execution.now.store.items = c.as_slice-in-Choose.ensures.value in
    let fails = ap (λ xs. truth_of c.in-Choose.condition xs c.args.params.now) (sym store) ∙ sym c.truth.ensures ∙ c.if-truth.false in
    IfOk-equal c.run_block-in-Some.result _ _ _ c.run_block-in-Some.ensures
    (runs_other c.args.stmt.now _ _ _ c.as_slice-in-Some.result.now _ c.args.own c.args.params.now _ c.in-Choose.is c.in-Some.is c.as_slice-in-Some.ensures fails)
