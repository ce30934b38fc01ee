-- How far two blocks were found equal.
use Rattle.std.proofs.Common.{◌≡◌, take, length}
use Rattle.pssm_semantics.proofs.trees.+stmts.Given as goal

abbrev pub invariant-same_block-loop-i : goal.invariant-same_block-loop-i
invariant-same_block-loop-i l = record { front : take l.i l.a ≡ take l.i l.b; long : length l.a ≡ length l.b }
