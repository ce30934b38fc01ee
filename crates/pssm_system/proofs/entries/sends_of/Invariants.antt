use Rattle.std.proofs.Common.{◌≡◌, take}
use Rattle.std.specs.List.{flat_map}
use Rattle.pssm_semantics.specs.Pool.{signals_of_out}
use Rattle.pssm_system.proofs.entries.sends_of.Given as goal

abbrev pub invariant-loop-out : goal.invariant-loop-out
invariant-loop-out l = l.signals.items ≡ flat_map signals_of_out (take l.out-index l.outs)
