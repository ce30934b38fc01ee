-- What the first statements leave of the variables, and how much is left to run.
use Rattle.std.proofs.Common.{◌+◌, ◌*◌, take}
use Rattle.pssm_semantics.specs.Fits.{stmt_count, stmts_count}
use Rattle.pssm_semantics.specs.inner.Running.{IsChangedByAll}
use Rattle.pssm_semantics.proofs.changing.+changing.Given as goal

abbrev pub decreases-change_by_stmt : goal.decreases-change_by_stmt
decreases-change_by_stmt l = 2 * stmt_count l.stmt.now

abbrev pub decreases-change_by_block : goal.decreases-change_by_block
decreases-change_by_block l = 2 * stmts_count l.stmts.now + 1

-- the values so far are those that the first statements leave
abbrev pub invariant-change_by_block-loop-stmt : goal.invariant-change_by_block-loop-stmt
invariant-change_by_block-loop-stmt l = IsChangedByAll (take l.stmt-index l.stmts) l.params l.initial.store l.store
