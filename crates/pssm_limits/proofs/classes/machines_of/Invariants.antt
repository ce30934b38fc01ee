use Rattle.std.proofs.Common.{◌≡◌, take, map}
use Rattle.pssm_numbering.specs.Numbering.{classes}
use Rattle.pssm_limits.specs.inner.Variables.{machine_at}
use Rattle.pssm_limits.proofs.classes.machines_of.Given as goal

abbrev pub invariant-loop-c : goal.invariant-loop-c
invariant-loop-c l = l.machines.items ≡ map (machine_at l.file) (take l.c-index (classes l.file))
