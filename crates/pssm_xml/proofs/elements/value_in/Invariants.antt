use Rattle.std.proofs.Common.{◌≡◌, map, drop}
use Rattle.pssm_xml.specs.inner.Trees.{attribute_of, value_among}
use Rattle.pssm_xml.proofs.elements.value_in.Given as goal

abbrev pub invariant-loop-pair : goal.invariant-loop-pair
invariant-loop-pair l = value_among l.name (map (attribute_of l.bytes) l.pairs) ≡ value_among l.name (map (attribute_of l.bytes) (drop l.pair-index l.pairs))
