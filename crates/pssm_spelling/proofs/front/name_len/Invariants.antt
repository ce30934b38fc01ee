-- the bytes before this one go on with a name
use Rattle.std.proofs.Common.{◌≡◌, true, take}
use Rattle.std.specs.List.{list_all}
use Rattle.pssm_spelling.specs.Spelling.{continues_name}
use Rattle.pssm_spelling.proofs.front.name_len.Given as goal

abbrev pub invariant-loop-c : goal.invariant-loop-c
invariant-loop-c l = record { at : l.len ≡ l.c-index; run : list_all continues_name (take l.c-index l.bytes) ≡ true }
