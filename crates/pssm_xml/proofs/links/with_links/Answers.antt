use Rattle.std.proofs.Common.{rules, ◌≡◌, ◌-◌, length, arith, subst, ℕ}
use Rattle.pssm_xml.specs.inner.Links.{AreLinkedFrom}
use Rattle.pssm_xml.proofs.LinkLaws.{link_start, link_step, link_early}
use Rattle.pssm_xml.proofs.links.with_links.Goals as goal

pub down-init : goal.down-init
down-init c =
    let same : length c.args.nodes.items ≡ c.len-n.result = search rules in
    subst (λ (k : ℕ). AreLinkedFrom c.args.nodes.items c.args.nodes.items k) same (link_start c.args.nodes.items c.requires.start)

pub with_link-linked-requires-clause-early : goal.with_link-linked-requires-clause-early
with_link-linked-requires-clause-early c = λ node at. link_early c.args.nodes.items c.down.nodes.items c.down.n (c.down.n - 1) node c.requires.start c.down.invariant at

pub down-preserved : goal.down-preserved
down-preserved c =
    let test = c.down-test.true in
    link_step c.args.nodes.items c.down.nodes.items c.with_link-linked.result.items c.down.n (c.down.n - 1) c.requires.start c.down.invariant (omega (arith, test)) c.with_link-linked.ensures
