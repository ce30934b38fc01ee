use Rattle.pssm_xml.proofs.TreeLaws.{linked_at}
use Rattle.pssm_xml.proofs.elements.Elements.first_child.Goals as goal

pub returns : goal.returns
returns c = (linked_at c.self.inside c.deref.result.now c.args.self.now c.args.n c.node_at.result c.self.invariant c.self.view_is c.deref.ensures.value c.node_at.ensures).child
