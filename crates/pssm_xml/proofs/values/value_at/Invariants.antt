use Rattle.std.proofs.Common.{◌≡◌, ◌-◌, length}
use Rattle.std.specs.Prelude.{option_map}
use Rattle.pssm_xml.specs.inner.Reading.{value_taken, with_text_before}
use Rattle.pssm_xml.proofs.values.value_at.Given as goal

abbrev pub invariant-loop-i : goal.invariant-loop-i
invariant-loop-i l =
    value_taken (length l.bytes) l.quote l.bytes ≡ option_map (with_text_before l.value.items) (value_taken (length l.bytes - l.i) l.quote l.rest)
