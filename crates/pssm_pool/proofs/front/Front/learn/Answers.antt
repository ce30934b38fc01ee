-- the kind is known already, or comes as the last
use Rattle.std.proofs.Common.{◌+◌, sym, ap, subst, ◌∙◌, refl, List}
use Rattle.pssm_links.specs.Chained.{list_of}
use Rattle.pssm_pool.specs.declared.pools.Waiting.{Waiting}
use Rattle.pssm_pool.specs.declared.front.Kind.{Kind}
use Rattle.pssm_pool.specs.inner.Fronts.{AreKinds, IsKnownBy}
use Rattle.pssm_pool.proofs.Fronts.{entry-of, value-is, known-kind, new-kind}
use Rattle.pssm_pool.proofs.front.Front.learn.Goals as goal

pub returns-then-knows-clause-kinds : goal.returns-then-knows-clause-kinds
returns-then-knows-clause-kinds c =
    let lists = c.args.chains.now.lists in
    let row = list_of lists c.args.list in
    let self = c.args.self.now in
    let at = entry-of lists c.args.list self.count c.args.slot c.requires.next in
    let value = value-is lists c.args.list self.count at.0 c.get.result.now at.1 (c.get.ensures c.args.list self.count c.requires.next) in
    known-kind row self.kinds.items self.count at.0 c.requires.kinds at.1
    (subst (λ (w : Waiting). IsKnownBy row self.kinds.items self.count w) (sym value) (c.knows.ensures c.if-knows.true))

pub returns-clause-kinds : goal.returns-clause-kinds
returns-clause-kinds c =
    let lists = c.args.chains.now.lists in
    let row = list_of lists c.args.list in
    let self = c.args.self.now in
    let at = entry-of lists c.args.list self.count c.args.slot c.requires.next in
    subst (λ (ks : List Kind). AreKinds row ks (self.count + 1)) (sym c.push_reserved.ensures.items)
    (new-kind row self.kinds.items self.count at.0 _ c.requires.kinds at.1 refl at.2)
