-- How far the numbers were found to be the values.
use Rattle.std.proofs.Common.{◌≡◌, take, length}
use Rattle.pssm_semantics.specs.Values.{values_of}
use Rattle.pssm_semantics.proofs.making.are_values.Given as goal

abbrev pub invariant-loop-i : goal.invariant-loop-i
invariant-loop-i l = record { front : take l.i l.values ≡ values_of (take l.i l.exprs) l.store l.params; long : length l.values ≡ length l.exprs }
