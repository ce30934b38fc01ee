use Rattle.std.proofs.Common.{◌≡◌, ◌+◌, length, drop}
use Rattle.std.specs.Str.{chars}
use Rattle.pssm_xml.specs.inner.Reading.{good_bytes}
use Rattle.pssm_xml.proofs.characters.good_len.Given as goal

abbrev pub invariant-loop-c : goal.invariant-loop-c
invariant-loop-c l = l.len + good_bytes (drop (length l.yielded) (chars l.text)) ≡ good_bytes (chars l.text)
