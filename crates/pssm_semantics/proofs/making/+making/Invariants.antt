-- Which outputs the first statements make, and how much is left to run.
use Rattle.std.proofs.Common.{◌≡◌, ◌≤◌, ◌+◌, ◌*◌, take, length}
use Rattle.pssm_semantics.specs.Fits.{stmt_count, stmts_count}
use Rattle.pssm_semantics.specs.Values.{after_stmts}
use Rattle.pssm_semantics.specs.inner.Running.{so_far}
use Rattle.pssm_semantics.proofs.making.+making.Given as goal

abbrev pub decreases-made_by_stmt : goal.decreases-made_by_stmt
decreases-made_by_stmt l = 2 * stmt_count l.stmt.now

abbrev pub decreases-made_by_block : goal.decreases-made_by_block
decreases-made_by_block l = 2 * stmts_count l.stmts.now + 1

-- the outputs so far are those of the first statements, which assign nothing
abbrev pub invariant-made_by_block-loop-stmt : goal.invariant-made_by_block-loop-stmt
invariant-made_by_block-loop-stmt l = record {
  few : l.made ≤ length l.outs;
  makes : so_far l.store (take l.made l.outs) ≡ after_stmts (take l.stmt-index l.stmts) l.own l.params (so_far l.store (take l.before l.outs));
}
