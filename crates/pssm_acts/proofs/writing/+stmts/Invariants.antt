-- The first statements are written, and how much is left to write.
use Rattle.std.proofs.Common.{◌≡◌, ◌+◌, ◌*◌, ◌++◌, take}
use Rattle.pssm_acts.specs.ActText.{stmts_text}
use Rattle.pssm_semantics.specs.Fits.{stmt_count, stmts_count}
use Rattle.pssm_acts.proofs.writing.+stmts.Given as goal

abbrev pub decreases-put_stmt : goal.decreases-put_stmt
decreases-put_stmt l = 3 * stmt_count l.stmt.now

abbrev pub decreases-put_block : goal.decreases-put_block
decreases-put_block l = 3 * stmts_count l.stmts.now + 2

abbrev pub decreases-put_stmts : goal.decreases-put_stmts
decreases-put_stmts l = 3 * stmts_count l.stmts.now + 1

-- the first statements are written
abbrev pub invariant-put_stmts-loop-stmt : goal.invariant-put_stmts-loop-stmt
invariant-put_stmts-loop-stmt l = l.text.items ≡ l.initial.text.items ++ stmts_text l.names l.marks (take l.stmt-index l.stmts)
