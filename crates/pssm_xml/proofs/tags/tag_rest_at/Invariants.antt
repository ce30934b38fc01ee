use Rattle.std.proofs.Common.{◌≡◌, ◌-◌, ◌+◌, length, map}
use Rattle.std.specs.Prelude.{option_map}
use Rattle.pssm_xml.specs.inner.Reading.{tag_rest_taken, with_attributes}
use Rattle.pssm_xml.specs.inner.Cuts.{given_attribute}
use Rattle.pssm_xml.proofs.tags.tag_rest_at.Given as goal

abbrev pub invariant-loop-i : goal.invariant-loop-i
invariant-loop-i l =
    tag_rest_taken ((length l.bytes + 1)) l.bytes
    ≡ option_map (with_attributes (map given_attribute l.attributes.items)) (tag_rest_taken ((length l.bytes + 1) - l.i) l.rest)
