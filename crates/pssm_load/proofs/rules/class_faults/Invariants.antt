use Rattle.std.proofs.Common.{take}
use Rattle.pssm_load.specs.Loads.{AreClassFaults}
use Rattle.pssm_load.proofs.rules.class_faults.Given as goal

-- the faults of the classes so far
abbrev pub invariant-loop-class : goal.invariant-loop-class
invariant-loop-class l = AreClassFaults (take l.class-index l.classes) l.list.items
