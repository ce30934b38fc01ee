use Rattle.std.proofs.Common.{◌≡◌, map, take}
use Rattle.pssm_xml.specs.inner.Cuts.{given_name, lent}
use Rattle.pssm_xml.proofs.different.names_of.Given as goal

abbrev pub invariant-loop-attribute : goal.invariant-loop-attribute
invariant-loop-attribute l = map lent l.names.items ≡ map given_name (take l.attribute-index l.attributes)
