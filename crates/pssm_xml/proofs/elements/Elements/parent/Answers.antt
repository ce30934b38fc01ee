use Rattle.pssm_xml.proofs.TreeLaws.{linked_at}
use Rattle.pssm_xml.proofs.elements.Elements.parent.Goals as goal

pub returns-clause-before : goal.returns-clause-before
returns-clause-before c =
    (linked_at c.self.inside c.deref.result.now c.args.self.now c.args.n c.node_at.result c.self.invariant c.self.view_is c.deref.ensures.value c.node_at.ensures).before
