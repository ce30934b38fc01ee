use Rattle.std.proofs.Common.{◌≡◌, ◌++◌, map, take}
use Rattle.pssm_values.specs.Names.{clean_byte}
use Rattle.pssm_values.proofs.names.with_clean.Given as goal

abbrev pub invariant-loop-c : goal.invariant-loop-c
invariant-loop-c l = l.text.items ≡ l.fn.text.items ++ map clean_byte (take l.c-index l.name)
