-- one kind more that is held, the first that is not, and none
use Rattle.std.proofs.Common.{refl, sym, ap, subst, ◌∙◌, length, true, false, map, arith}
use Rattle.std.specs.Fn.{FnReturnsAt}
use Rattle.std.proofs.lemmas.Fn.{says_at}
use Rattle.std.proofs.lemmas.Option.{slice_get_read}
use Rattle.pssm_links.specs.Chained.{list_of}
use Rattle.pssm_pool.specs.declared.pools.Waiting.{Waiting}
use Rattle.pssm_pool.specs.inner.Chaining.{values_of}
use Rattle.pssm_pool.proofs.Fronts.{slot-of, value-is}
use Rattle.pssm_pool.proofs.Linking.{value-here}
use Rattle.pssm_pool.proofs.Looking.{value-in, kinds-more, first-kind-free, all-kinds-held}
use Rattle.pssm_pool.proofs.alike.first_kind.Goals as goal

pub get-requires : goal.get-requires
get-requires g c =
    let lists = c.args.chains.now.lists in
    let kind = c.index.result.now in
    let listed = slice_get_read c.args.front.now.kinds.items (length c.args.front.now.kinds.items) c.loop-i.i kind refl
    (omega (arith, c.loop-i-test.true, c.loop-i.auto.i-end, c.as_slice-i-end.ensures.len)) c.index.ensures in
    let is = c.requires.front.kinds.stand c.loop-i.i kind listed in
    (c.args.list, kind.place, slot-of lists c.args.list kind.place is.first kind.slot is.there is.slot_is)

pub held-requires : goal.held-requires
held-requires g c =
    let lists = c.args.chains.now.lists in
    let kind = c.index.result.now in
    let listed = slice_get_read c.args.front.now.kinds.items (length c.args.front.now.kinds.items) c.loop-i.i kind refl
    (omega (arith, c.loop-i-test.true, c.loop-i.auto.i-end, c.as_slice-i-end.ensures.len)) c.index.ensures in
    let is = c.requires.front.kinds.stand c.loop-i.i kind listed in
    let at = slot-of lists c.args.list kind.place is.first kind.slot is.there is.slot_is in
    c.requires.asked c.get.result
    (value-in (values_of lists c.args.list) kind.place c.get.result.now
    (value-here lists c.args.list kind.place c.get.result.now (c.get.ensures c.args.list kind.place at)))

pub returns-then-not-held-clause-first : goal.returns-then-not-held-clause-first
returns-then-not-held-clause-first g c =
    let lists = c.args.chains.now.lists in
    let kind = c.index.result.now in
    let listed = slice_get_read c.args.front.now.kinds.items (length c.args.front.now.kinds.items) c.loop-i.i kind refl
    (omega (arith, c.loop-i-test.true, c.loop-i.auto.i-end, c.as_slice-i-end.ensures.len)) c.index.ensures in
    let is = c.requires.front.kinds.stand c.loop-i.i kind listed in
    let at = slot-of lists c.args.list kind.place is.first kind.slot is.there is.slot_is in
    let value = value-is lists c.args.list kind.place is.first c.get.result.now is.there (c.get.ensures c.args.list kind.place at) in (
      kind.place,
      at,
      first-kind-free (FnReturnsAt g.T.Fn c.args.held.now) (list_of lists c.args.list) c.args.front.now.kinds.items c.args.front.now.count
          c.requires.front.kinds c.loop-i.i kind is.first listed is.there
          (subst (λ (w : Waiting). FnReturnsAt g.T.Fn c.args.held.now w false) (sym value) (says_at g.T.Fn c.held.ensures c.if-not-held.true)) c.loop-i.invariant,
    )

pub loop-i-preserved : goal.loop-i-preserved
loop-i-preserved g c =
    let lists = c.args.chains.now.lists in
    let kind = c.index.result.now in
    let listed = slice_get_read c.args.front.now.kinds.items (length c.args.front.now.kinds.items) c.loop-i.i kind refl
    (omega (arith, c.loop-i-test.true, c.loop-i.auto.i-end, c.as_slice-i-end.ensures.len)) c.index.ensures in
    let is = c.requires.front.kinds.stand c.loop-i.i kind listed in
    let at = slot-of lists c.args.list kind.place is.first kind.slot is.there is.slot_is in
    let value = value-is lists c.args.list kind.place is.first c.get.result.now is.there (c.get.ensures c.args.list kind.place at) in
    kinds-more (FnReturnsAt g.T.Fn c.args.held.now) (list_of lists c.args.list) c.args.front.now.kinds.items c.loop-i.i kind is.first listed is.there
    (subst (λ (w : Waiting). FnReturnsAt g.T.Fn c.args.held.now w true) (sym value) (says_at g.T.Fn c.held.ensures c.if-not-held.false)) c.loop-i.invariant

pub returns-clause-none : goal.returns-clause-none
returns-clause-none g c =
    let lists = c.args.chains.now.lists in
    all-kinds-held (FnReturnsAt g.T.Fn c.args.held.now) (list_of lists c.args.list) c.args.front.now.kinds.items c.args.front.now.count
    c.requires.front.kinds c.loop-i.i (omega (arith, c.loop-i-test.false, c.loop-i.auto.i-end, c.as_slice-i-end.ensures.len)) c.loop-i.invariant
