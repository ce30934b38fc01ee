-- the signal has come to the list of the object
use Rattle.std.proofs.Common.{◌≡◌, length, sym, ap, subst, ◌∙◌, ◌<◌, ◌++◌, ◌∷◌, [], arith}
use Rattle.std.proofs.Math.ListN.{length-set}
use Rattle.pssm_links.specs.Chained.{list_of, with_pushed}
use Rattle.pssm_pool.specs.inner.Fronts.{AreFronts}
use Rattle.pssm_pool.proofs.Fronts.{fronts-arrived}
use Rattle.pssm_pool.proofs.Linking.{more-is, lists-count}
use Rattle.pssm_pool.proofs.pools.Pools.arrive.Goals as goal

pub returns-clause-waiting : goal.returns-clause-waiting
returns-clause-waiting c =
    more-is c.self.inside.chains c.args.self.now c.self.view_is c.push_back.new.self.lists c.args.object c.push_back.result c.args.waiting
    (subst (λ l. c.push_back.new.self.lists ≡ with_pushed c.self.inside.chains.lists l c.push_back.result c.args.waiting) c.from.ensures
    c.push_back.ensures.lists)

pub invariant_of-self : goal.invariant_of-self
invariant_of-self c =
    let lists = c.self.inside.chains.lists in
    let there : c.args.object.0 < length lists = let lt = c.requires.object in omega (arith, lt, lists-count c.self.inside.chains c.args.self.now c.self.view_is) in
    let pushed = subst (λ l. c.push_back.new.self.lists ≡ with_pushed lists l c.push_back.result c.args.waiting) c.from.ensures c.push_back.ensures.lists in (
      c.self.invariant.0
          ∙ sym (ap length pushed ∙ length-set lists c.args.object.0 (list_of lists c.args.object.0 ++ record { slot = c.push_back.result; value = c.args.waiting } ∷ [])),
      subst (λ ls. AreFronts ls c.self.inside.fronts.items) (sym pushed)
          (fronts-arrived lists c.self.inside.fronts.items c.args.object.0 there c.self.invariant.1 c.push_back.result c.args.waiting),
    )
