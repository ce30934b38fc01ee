use Rattle.std.proofs.Common.{map, take}
use Rattle.pssm_xml.specs.inner.Cuts.{given_attribute}
use Rattle.pssm_xml.specs.inner.Stores.{ArePut}
use Rattle.pssm_xml.proofs.store.put_pairs.Given as goal

abbrev pub invariant-loop-attribute : goal.invariant-loop-attribute
invariant-loop-attribute l = ArePut l.fn.bytes.items l.fn.pairs.items (map given_attribute (take l.attribute-index l.attributes)) l.bytes.items l.pairs.items
