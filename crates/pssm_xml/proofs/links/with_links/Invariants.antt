use Rattle.pssm_xml.specs.inner.Links.{AreLinkedFrom}
use Rattle.pssm_xml.proofs.links.with_links.Given as goal

abbrev pub invariant-down : goal.invariant-down
invariant-down l = AreLinkedFrom l.fn.nodes.items l.nodes.items l.n

abbrev pub decreases-down : goal.decreases-down
decreases-down l = l.n
