use Rattle.std.proofs.Common.{rules, ◌≡◌, length, arith}
use Rattle.std.specs.Vec.{vec_len}
use Rattle.pssm_xml.proofs.LinkLaws.{parent_below, links_none, links_some}
use Rattle.pssm_xml.proofs.links.with_link.Goals as goal

pub overflow_cast-p : goal.overflow_cast-p
overflow_cast-p c =
    let below = parent_below c.args.nodes.items c.args.n c.in-Some.p c.index-node.result.now c.requires.within c.index-node.ensures c.in-Some.is c.requires.early in
    let a = c.requires.within in let b = c.requires.few in omega (arith, below, a, b)

pub index-above-requires : goal.index-above-requires
index-above-requires c =
    let below = parent_below c.args.nodes.items c.args.n c.in-Some.p c.index-node.result.now c.requires.within c.index-node.ensures c.in-Some.is c.requires.early in
    let a = c.requires.within in let long : vec_len c.args.nodes ≡ length c.args.nodes.items = search rules in omega (arith, below, a, long)

pub index_mut-requires-in-Some : goal.index_mut-requires-in-Some
index_mut-requires-in-Some c =
    let below = parent_below c.args.nodes.items c.args.n c.in-Some.p c.index-node.result.now c.requires.within c.index-node.ensures c.in-Some.is c.requires.early in
    let a = c.requires.within in let long : vec_len c.args.nodes ≡ length c.args.nodes.items = search rules in omega (arith, below, a, long)

pub returns-in-None : goal.returns-in-None
returns-in-None c = λ node at. links_none c.args.nodes.items c.args.n c.index-node.result.now node c.requires.within c.index-node.ensures c.in-None.is at

pub returns-in-Some : goal.returns-in-Some
returns-in-Some c = λ node at.
    let below = parent_below c.args.nodes.items c.args.n c.in-Some.p c.index-node.result.now c.requires.within c.index-node.ensures c.in-Some.is c.requires.early in
    let a = c.requires.within in
    links_some c.args.nodes.items c.args.n c.in-Some.p c.index-node.result.now c.index-above.result.now c.before_sibling.result c.above_child.result node c.requires.within c.index-node.ensures c.in-Some.is
    (omega (arith, below, a)) c.index-above.ensures c.before_sibling.ensures c.above_child.ensures at
