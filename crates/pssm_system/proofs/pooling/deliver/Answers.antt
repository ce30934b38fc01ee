-- the next signal has come
use Rattle.std.specs.Vec.Iter.{into_iter_items}
use Rattle.pssm_system.proofs.Pools.{next-there, next-spare, one-comes}
use Rattle.pssm_system.proofs.pooling.deliver.Goals as goal

pub arrive-requires-clause-object : goal.arrive-requires-clause-object
arrive-requires-clause-object c =
    let next = c.in-Some.ensures in
    next-there c.args.pools.now c.loop-signal.pools c.args.told c.args.signals.items c.loop-signal.number c.in-Some.signal
    (into_iter_items c.loop-signal.signal-iterator) (into_iter_items c.next.new.self) next.steps.0 c.loop-signal.invariant.left

pub arrive-requires-clause-spare : goal.arrive-requires-clause-spare
arrive-requires-clause-spare c =
    let next = c.in-Some.ensures in
    next-spare c.args.pools.now c.loop-signal.pools c.args.told c.args.signals.items c.loop-signal.number c.in-Some.signal
    (into_iter_items c.loop-signal.signal-iterator) (into_iter_items c.next.new.self) next.steps.0 c.loop-signal.invariant.left

pub loop-signal-preserved : goal.loop-signal-preserved
loop-signal-preserved c =
    let next = c.in-Some.ensures in
    record {
      can = tt;
      finite = tt;
      left = one-comes c.args.pools.now c.loop-signal.pools c.args.told c.args.signals.items c.loop-signal.number c.in-Some.signal
          (into_iter_items c.loop-signal.signal-iterator) (into_iter_items c.next.new.self) next.steps.0 c.loop-signal.invariant.left
          c.arrive.new.self c.arrive.ensures.waiting c.arrive.ensures.spare;
    }
