-- the signal of the kind that is met
use Rattle.std.proofs.Common.{◌≡◌, ◌≤◌, sym, ap, subst, ◌∙◌, Some, slice_get, length, refl, arith}
use Rattle.std.proofs.lemmas.Option.{slice_get_read}
use Rattle.pssm_links.specs.Chained.{list_of}
use Rattle.pssm_pool.specs.Telling.{AreAlike}
use Rattle.pssm_pool.specs.declared.pools.Waiting.{Waiting}
use Rattle.pssm_pool.proofs.Fronts.{slot-of, value-is}
use Rattle.pssm_pool.proofs.front.Front.knows.Goals as goal

pub get-requires : goal.get-requires
get-requires c =
    let lists = c.args.chains.now.lists in
    let kind = c.index.result.now in
    let listed = slice_get_read c.args.self.now.kinds.items (length c.args.self.now.kinds.items) c.loop-i.i kind refl
    (omega (arith, c.loop-i-test.true, c.loop-i.auto.i-end, c.as_slice-i-end.ensures.len)) c.index.ensures in
    let is = c.requires.stand c.loop-i.i kind listed in
    (c.args.list, kind.place, slot-of lists c.args.list kind.place is.first kind.slot is.there is.slot_is)

pub returns-then-are_alike : goal.returns-then-are_alike
returns-then-are_alike c = λ yes.
    let lists = c.args.chains.now.lists in
    let kind = c.index.result.now in
    let listed = slice_get_read c.args.self.now.kinds.items (length c.args.self.now.kinds.items) c.loop-i.i kind refl
    (omega (arith, c.loop-i-test.true, c.loop-i.auto.i-end, c.as_slice-i-end.ensures.len)) c.index.ensures in
    let is = c.requires.stand c.loop-i.i kind listed in
    let value = value-is lists c.args.list kind.place is.first c.get.result.now is.there
    (c.get.ensures c.args.list kind.place (slot-of lists c.args.list kind.place is.first kind.slot is.there is.slot_is)) in
    record {
      number = c.loop-i.i;
      kind = kind;
      first = is.first;
      listed = listed;
      order = (let before = is.before in omega (arith, before));
      there = is.there;
      alike = subst (λ (v : Waiting). AreAlike v c.args.waiting.now) (sym value) (c.are_alike.ensures c.if-are_alike.true);
    }
