use Rattle.std.proofs.Common.{length, ◌-◌}
use Rattle.pssm_base.proofs.Pieces.{HasPut}
use Rattle.pssm_base.proofs.sink.put_all.Given as goal

abbrev pub invariant-loop-done : goal.invariant-loop-done
invariant-loop-done g l =
    HasPut (g.S.Sink.taken l.fn.out) (g.S.Sink.taken l.out) (g.S.Sink.faults l.fn.out) (g.S.Sink.faults l.out) l.bytes l.done

abbrev pub decreases-loop-done : goal.decreases-loop-done
decreases-loop-done g l = length l.bytes - l.done
