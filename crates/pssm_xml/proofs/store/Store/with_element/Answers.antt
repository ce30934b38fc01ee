use Rattle.std.proofs.Common.{rules, ◌≡◌, map, length}
use Rattle.pssm_xml.specs.inner.Cuts.{given_attribute}
use Rattle.pssm_xml.proofs.StoreLaws.{element_stored}
use Rattle.pssm_xml.proofs.store.Store.with_element.Goals as goal

pub invariant_of-result : goal.invariant_of-result
invariant_of-result c =
    let from : c.in_ok-from.from ≡ length c.self.inside.pairs.items = search rules in
    let to : c.in_ok-to.to ≡ length c.in_ok-bytes.pairs.items = search rules in
    (element_stored c.self.inside.nodes.items c.push.new.self.items c.self.inside.pairs.items c.in_ok-bytes.pairs.items c.self.inside.bytes.items c.in_ok-named.named.items c.in_ok-bytes.bytes.items
    c.args.at c.args.parent c.args.name.now c.in_ok-named.name c.in_ok-from.from c.in_ok-to.to (map given_attribute c.args.attributes.now) c.args.self c.self.invariant c.self.view_is c.requires.room c.requires.early
    c.in_ok-named.ensures c.in_ok-bytes.ensures from to c.in_ok-push.ensures.items).stored

pub returns : goal.returns
returns c =
    let from : c.in_ok-from.from ≡ length c.self.inside.pairs.items = search rules in
    let to : c.in_ok-to.to ≡ length c.in_ok-bytes.pairs.items = search rules in
    (element_stored c.self.inside.nodes.items c.push.new.self.items c.self.inside.pairs.items c.in_ok-bytes.pairs.items c.self.inside.bytes.items c.in_ok-named.named.items c.in_ok-bytes.bytes.items
    c.args.at c.args.parent c.args.name.now c.in_ok-named.name c.in_ok-from.from c.in_ok-to.to (map given_attribute c.args.attributes.now) c.args.self c.self.invariant c.self.view_is c.requires.room c.requires.early
    c.in_ok-named.ensures c.in_ok-bytes.ensures from to c.in_ok-push.ensures.items).elements
