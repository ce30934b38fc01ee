-- a part for each seat has left the share
use Rattle.std.specs.Prelude.{◌≡◌, ◌+◌, vec_len}
use Rattle.pssm_workers.proofs.running.new_seats.Given as goal

abbrev pub invariant-loop-i : goal.invariant-loop-i
invariant-loop-i g l = (l.share.parts + l._i ≡ l.initial.share.parts) × (l.share.amount ≡ 0) × (vec_len l.seats ≡ l._i)
