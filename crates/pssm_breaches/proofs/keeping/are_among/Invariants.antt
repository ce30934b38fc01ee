use Rattle.std.proofs.Common.{take}
use Rattle.pssm_breaches.specs.inner.Ends.{AreAmong}
use Rattle.pssm_breaches.proofs.keeping.are_among.Given as goal

abbrev pub invariant-loop-signal : goal.invariant-loop-signal
invariant-loop-signal l = AreAmong (take l.signal-index l.some) l.others
