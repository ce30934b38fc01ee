use Rattle.pssm_xml.proofs.StoreLaws.{text_stored}
use Rattle.pssm_xml.proofs.store.Store.with_text.Goals as goal

pub invariant_of-result : goal.invariant_of-result
invariant_of-result c =
    (text_stored c.self.inside.nodes.items c.self.inside.pairs.items c.self.inside.bytes.items c.in_ok-bytes.bytes.items c.args.text.now c.args.n c.index.result.now c.with_span-node.result c.in_ok-bytes.text
    c.args.self c.self.invariant c.self.view_is c.requires c.index.ensures c.in_ok-bytes.ensures c.with_span-node.ensures).stored

pub returns : goal.returns
returns c =
    (text_stored c.self.inside.nodes.items c.self.inside.pairs.items c.self.inside.bytes.items c.in_ok-bytes.bytes.items c.args.text.now c.args.n c.index.result.now c.with_span-node.result c.in_ok-bytes.text
    c.args.self c.self.invariant c.self.view_is c.requires c.index.ensures c.in_ok-bytes.ensures c.with_span-node.ensures).elements
