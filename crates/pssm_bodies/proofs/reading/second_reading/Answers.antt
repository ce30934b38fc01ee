use Rattle.pssm_bodies.specs.inner.Through.{StopsInside}
use Rattle.pssm_bodies.proofs.Bridge.{none_stops}
use Rattle.pssm_bodies.proofs.GuardRoom.{guards_fit}
use Rattle.pssm_bodies.proofs.MachineLaws.{memory_alone}
use Rattle.pssm_bodies.proofs.reading.second_reading.Goals as goal

pub numbered-requires-clause-guards : goal.numbered-requires-clause-guards
numbered-requires-clause-guards c = guards_fit c.args.flat.now c.requires.once c.requires.few

pub unreachable-requires : goal.unreachable-requires
unreachable-requires c =
    c.in_default.not-NoMemory (memory_alone (StopsInside c.args.names.now c.args.flat.now)
    (none_stops c.args.names.now c.args.flat.now c.requires.once c.requires.read) c.in-Err.fault c.in-Err.ensures.fault)
