use Rattle.std.proofs.Common.{◌≡◌, take, drop}
use Rattle.std.specs.Prelude.{option_map}
use Rattle.pssm_xml.specs.inner.Reading.{until, with_text_before}
use Rattle.pssm_xml.proofs.scan.split_at_word.Given as goal

abbrev pub invariant-loop-i : goal.invariant-loop-i
invariant-loop-i l = until l.word l.bytes ≡ option_map (with_text_before (take l.i l.bytes)) (until l.word (drop l.i l.bytes))
