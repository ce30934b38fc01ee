-- the signals that the iterator has left are still to come
use Rattle.std.specs.Vec.Iter.{into_iter_items}
use Rattle.pssm_system.proofs.Pools.{AreToCome}
use Rattle.pssm_system.proofs.pooling.deliver.Given as goal

abbrev pub invariant-loop-signal : goal.invariant-loop-signal
invariant-loop-signal l = record {
  can : (goal.iterator-loop-signal).can_next l.signal-iterator;
  finite : (goal.iterator-loop-signal).is_finite l.signal-iterator;
  left : AreToCome l.initial.pools l.fn.told l.fn.signals.items l.number (into_iter_items l.signal-iterator) l.pools;
}
