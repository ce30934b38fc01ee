-- a part of each seat has come to the share, or is still there
use Rattle.std.specs.Prelude.{◌≡◌, ◌+◌, vec_len}
use Rattle.pssm_workers.proofs.running.gather.Given as goal

abbrev pub invariant-loop-seat : goal.invariant-loop-seat
invariant-loop-seat g l = l.share.parts + vec_len l.seats ≡ l.initial.share.parts + vec_len l.initial.seats

abbrev pub decreases-loop-seat : goal.decreases-loop-seat
decreases-loop-seat g l = goal.left-loop-seat g l
