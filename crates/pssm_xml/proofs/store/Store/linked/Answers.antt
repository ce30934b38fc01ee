use Rattle.std.proofs.Common.{◌∙◌}
use Rattle.pssm_xml.proofs.LinkLaws.{start_of, linked_tree}
use Rattle.pssm_xml.proofs.store.Store.linked.Goals as goal

pub invariant_of-result : goal.invariant_of-result
invariant_of-result c =
    let t = linked_tree c.self.inside.nodes.items c.with_links-nodes.result.items c.self.inside.pairs.items c.self.inside.bytes.items c.self.invariant c.with_links-nodes.ensures in
    record { nodes = t.stored; pairs = c.self.invariant.pairs_kept; linked = t.linked; few = t.few }

pub returns : goal.returns
returns c =
    let t = linked_tree c.self.inside.nodes.items c.with_links-nodes.result.items c.self.inside.pairs.items c.self.inside.bytes.items c.self.invariant c.with_links-nodes.ensures in
    t.elements ∙ c.self.view_is

pub with_links-nodes-requires-clause-start : goal.with_links-nodes-requires-clause-start
with_links-nodes-requires-clause-start c = start_of c.self.inside.nodes.items c.self.inside.pairs.items c.self.inside.bytes.items c.self.invariant
