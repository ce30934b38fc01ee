use Rattle.std.proofs.Common.{◌≡◌, take}
use Rattle.std.specs.List.{flat_map}
use Rattle.pssm_tool.specs.Refusals.{fault_line}
use Rattle.pssm_tool.proofs.refusal.list_text.Given as goal

-- the lines of the faults so far
abbrev pub invariant-loop-fault : goal.invariant-loop-fault
invariant-loop-fault l = l.text.items ≡ flat_map fault_line (take l.fault-index l.faults)
