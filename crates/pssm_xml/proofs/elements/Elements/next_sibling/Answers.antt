use Rattle.std.proofs.Common.{refl}
use Rattle.pssm_xml.proofs.TreeLaws.{linked_at, element_in, root_alone}
use Rattle.pssm_xml.specs.inner.Trees.{element_of}
use Rattle.pssm_xml.proofs.elements.Elements.next_sibling.Goals as goal

pub returns-clause-next : goal.returns-clause-next
returns-clause-next c =
    (linked_at c.self.inside c.deref.result.now c.args.self.now c.args.n c.node_at.result c.self.invariant c.self.view_is c.deref.ensures.value c.node_at.ensures).sibling

pub returns-clause-root : goal.returns-clause-root
returns-clause-root c =
    root_alone c.args.self.now c.args.n c.node_at.result (element_of c.self.inside.pairs.items c.self.inside.bytes.items c.node_at.result)
    (linked_at c.self.inside c.deref.result.now c.args.self.now c.args.n c.node_at.result c.self.invariant c.self.view_is c.deref.ensures.value c.node_at.ensures)
    (element_in c.self.inside c.deref.result.now c.args.self.now c.args.n c.node_at.result c.self.view_is c.deref.ensures.value c.node_at.ensures) refl
