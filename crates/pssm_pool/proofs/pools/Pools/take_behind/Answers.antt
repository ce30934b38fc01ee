-- the front has gone on up to the slot, and the value of the slot has left its list
use Rattle.std.proofs.Common.{◌≡◌, ◌<◌, ◌≤◌, length, sym, ap, subst, ◌∙◌, refl, arith}
use Rattle.std.specs.List.{remove}
use Rattle.std.proofs.lemmas.List.{length-set}
use Rattle.std.proofs.Math.ListN.{set}
use Rattle.std.proofs.lemmas.Option.{slice_get_read}
use Rattle.pssm_links.specs.Chained.{list_of, IsSlotAt, without}
use Rattle.pssm_pool.specs.inner.Fronts.{IsFront, AreFronts}
use Rattle.pssm_pool.proofs.Fronts.{fronts-left}
use Rattle.pssm_pool.proofs.Linking.{any-linked, slot-linked, stands, left-is, lists-count, object-there}
use Rattle.pssm_pool.proofs.pools.Pools.take_behind.Goals as goal

pub let_go-requires-clause-front : goal.let_go-requires-clause-front
let_go-requires-clause-front c =
    let lists = c.self.inside.chains.lists in
    let fronts = c.self.inside.fronts.items in
    let there = object-there c.self.inside.chains c.args.self.now c.self.view_is c.args.slot c.args.object c.requires.0 c.requires.1 in
    let at = slice_get_read fronts (length fronts) c.from.result c.index_mut.result.now refl
    (omega (arith, there, c.self.invariant.1.count, c.from.ensures)) c.index_mut.ensures.value in
    subst (λ l. IsFront (list_of lists l) c.index_mut.result.now) (c.from.ensures ∙ sym c.from-list.ensures)
    (c.self.invariant.1.each c.from.result c.index_mut.result.now at)

pub unlink-requires : goal.unlink-requires
unlink-requires c = any-linked c.self.inside.chains c.args.self.now c.self.view_is c.args.slot (c.args.object, c.requires.0, c.requires.1)

pub invariant_of-self : goal.invariant_of-self
invariant_of-self c =
    let lists = c.self.inside.chains.lists in
    let fronts = c.self.inside.fronts.items in
    let o = c.args.object.0 in
    let k = c.requires.0 in
    let there = object-there c.self.inside.chains c.args.self.now c.self.view_is c.args.slot c.args.object k c.requires.1 in
    let at = slot-linked c.self.inside.chains c.args.self.now c.self.view_is c.args.slot c.args.object k c.requires.1 in
    let gone = c.unlink.ensures.lists o k at in
    let front = subst (λ l. IsFront (list_of lists l) c.let_go.new.self) c.from-list.ensures c.let_go.ensures.front in
    let ahead = c.let_go.ensures.ahead k (subst (λ l. IsSlotAt lists c.args.slot l k) (sym c.from-list.ensures) at) in
    let left = subst (λ ls. AreFronts ls (set fronts o c.let_go.new.self)) (sym gone)
    (fronts-left lists fronts o there c.self.invariant.1 k c.let_go.new.self front ahead) in (
      c.self.invariant.0 ∙ sym (ap length gone ∙ length-set lists o (remove (list_of lists o) k)),
      subst (λ n. AreFronts c.unlink.new.chains.lists (set fronts n c.let_go.new.self)) (sym c.from.ensures) left,
    )

pub returns-clause-taken : goal.returns-clause-taken
returns-clause-taken c = λ k at.
    stands c.self.inside.chains c.args.self.now c.self.view_is c.args.object k c.unlink.result
    (c.unlink.ensures.taken c.args.object.0 k (slot-linked c.self.inside.chains c.args.self.now c.self.view_is c.args.slot c.args.object k at))

pub returns-clause-waiting : goal.returns-clause-waiting
returns-clause-waiting c = λ k at.
    left-is c.self.inside.chains c.args.self.now c.self.view_is c.unlink.new.chains.lists c.args.object k
    (c.unlink.ensures.lists c.args.object.0 k (slot-linked c.self.inside.chains c.args.self.now c.self.view_is c.args.slot c.args.object k at))
