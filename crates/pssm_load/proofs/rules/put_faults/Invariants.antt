use Rattle.std.proofs.Common.{◌≡◌, ◌++◌, take}
use Rattle.std.specs.Prelude.{map}
use Rattle.pssm_load.specs.Loads.{in_class}
use Rattle.pssm_load.proofs.rules.put_faults.Given as goal

-- the faults so far
abbrev pub invariant-loop-fault : goal.invariant-loop-fault
invariant-loop-fault l = l.list.items ≡ l.fn.list.items ++ map (in_class l.class) (take l.fault-index l.faults)
