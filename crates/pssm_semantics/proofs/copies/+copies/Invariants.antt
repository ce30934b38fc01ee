-- How far the copy of a block has come.
use Rattle.std.proofs.Common.{◌≡◌, take}
use Rattle.pssm_semantics.proofs.copies.+copies.Given as goal

-- the statements that were copied are the first ones
abbrev pub invariant-copy_block-loop-stmt : goal.invariant-copy_block-loop-stmt
invariant-copy_block-loop-stmt l = l.items.items ≡ take l.stmt-index l.stmts
