-- How far the outputs were found equal.
use Rattle.std.proofs.Common.{◌≡◌, take, length}
use Rattle.pssm_semantics.proofs.making.same_outs.Given as goal

abbrev pub invariant-loop-i : goal.invariant-loop-i
invariant-loop-i l = record { front : take l.i l.a ≡ take l.i l.b; long : length l.a ≡ length l.b }
