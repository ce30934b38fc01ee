-- What the first statements have made, and how much is left to run.
use Rattle.std.proofs.Common.{◌≡◌, ◌+◌, ◌*◌, take}
use Rattle.pssm_semantics.specs.Fits.{stmt_count, stmts_count}
use Rattle.pssm_semantics.specs.Values.{after_stmts}
use Rattle.pssm_semantics.specs.inner.Running.{so_far}
use Rattle.pssm_semantics.proofs.running.+running.Given as goal

abbrev pub decreases-run_stmt : goal.decreases-run_stmt
decreases-run_stmt l = 2 * stmt_count l.stmt.now

abbrev pub decreases-run_block : goal.decreases-run_block
decreases-run_block l = 2 * stmts_count l.stmts.now + 1

-- the outcome so far is that of the first statements
abbrev pub invariant-run_block-loop-stmt : goal.invariant-run_block-loop-stmt
invariant-run_block-loop-stmt l =
    so_far l.execution.store.items l.execution.outs.items
    ≡ after_stmts (take l.stmt-index l.stmts) l.own l.params (so_far l.initial.execution.store.items l.initial.execution.outs.items)
