use Rattle.std.proofs.Common.{◌≡◌, map, take}
use Rattle.pssm_values.specs.Labels.{label_byte}
use Rattle.pssm_values.proofs.labels.shown_bytes.Given as goal

abbrev pub invariant-loop-c : goal.invariant-loop-c
invariant-loop-c l = l.text.items ≡ map label_byte (take l.c-index l.name)
