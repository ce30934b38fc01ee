-- the value of the slot has left its list
use Rattle.std.proofs.Common.{◌≡◌, length, Some, slice_get, sym, ap, subst, ◌∙◌, refl, arith}
use Rattle.std.proofs.lemmas.Option.{slice_get_read}
use Rattle.std.specs.List.{remove}
use Rattle.std.proofs.lemmas.List.{length-set}
use Rattle.pssm_links.specs.Chained.{list_of}
use Rattle.pssm_pool.specs.inner.Fronts.{AreFronts}
use Rattle.pssm_pool.proofs.Fronts.{fronts-stay}
use Rattle.pssm_pool.proofs.Linking.{any-linked, slot-linked, stands, left-is, object-there}
use Rattle.pssm_pool.proofs.pools.Pools.take_from.Goals as goal

pub unlink-requires : goal.unlink-requires
unlink-requires c = any-linked c.self.inside.chains c.args.self.now c.self.view_is c.args.slot (c.args.object, c.requires.0, c.requires.1)

pub invariant_of-self : goal.invariant_of-self
invariant_of-self c =
    let lists = c.self.inside.chains.lists in
    let fronts = c.self.inside.fronts.items in
    let o = c.args.object.0 in
    let k = c.requires.0 in
    let there = object-there c.self.inside.chains c.args.self.now c.self.view_is c.args.slot c.args.object k c.requires.1 in
    let at = slot-linked c.self.inside.chains c.args.self.now c.self.view_is c.args.slot c.args.object k c.requires.1 in
    let gone = c.unlink.ensures.lists o k at in
    let front = slice_get_read fronts (length fronts) c.from.result c.index.result.now refl
    (omega (arith, there, c.self.invariant.1.count, c.from.ensures)) c.index.ensures in
    let here = subst (λ n. slice_get fronts n ≡ Some c.index.result.now) c.from.ensures front in
    let left = subst (λ ls. AreFronts ls fronts) (sym gone)
    (fronts-stay lists fronts o there c.self.invariant.1 k c.index.result.now here (c.is_before.ensures c.if-is_before.true)) in
    (c.self.invariant.0 ∙ sym (ap length gone ∙ length-set lists o (remove (list_of lists o) k)), left)

pub returns-then-is_before-clause-taken : goal.returns-then-is_before-clause-taken
returns-then-is_before-clause-taken c = λ k at.
    stands c.self.inside.chains c.args.self.now c.self.view_is c.args.object k c.unlink.result
    (c.unlink.ensures.taken c.args.object.0 k (slot-linked c.self.inside.chains c.args.self.now c.self.view_is c.args.slot c.args.object k at))

pub returns-then-is_before-clause-waiting : goal.returns-then-is_before-clause-waiting
returns-then-is_before-clause-waiting c = λ k at.
    left-is c.self.inside.chains c.args.self.now c.self.view_is c.unlink.new.chains.lists c.args.object k
    (c.unlink.ensures.lists c.args.object.0 k (slot-linked c.self.inside.chains c.args.self.now c.self.view_is c.args.slot c.args.object k at))
