-- the signal of the kind that is met
use Rattle.std.proofs.Common.{refl, length, rules, arith}
use Rattle.std.proofs.lemmas.Option.{slice_get_read}
use Rattle.pssm_pool.proofs.Fronts.{slot-of}
use Rattle.pssm_pool.proofs.Linking.{value-here}
use Rattle.pssm_pool.proofs.numbers.numbered_kind.Goals as goal

pub get-requires : goal.get-requires
get-requires c =
    let lists = c.args.chains.now.lists in
    let kind = c.index.result.now in
    let listed = slice_get_read c.args.front.now.kinds.items (length c.args.front.now.kinds.items) c.loop-i.i kind refl
    (omega (arith, c.loop-i-test.true, c.loop-i.auto.i-end, c.as_slice-i-end.ensures.len)) c.index.ensures in
    let is = c.requires.kinds.stand c.loop-i.i kind listed in
    (c.args.list, kind.place, slot-of lists c.args.list kind.place is.first kind.slot is.there is.slot_is)

pub returns-then-get-number : goal.returns-then-get-number
returns-then-get-number c =
    let lists = c.args.chains.now.lists in
    let kind = c.index.result.now in
    let listed = slice_get_read c.args.front.now.kinds.items (length c.args.front.now.kinds.items) c.loop-i.i kind refl
    (omega (arith, c.loop-i-test.true, c.loop-i.auto.i-end, c.as_slice-i-end.ensures.len)) c.index.ensures in
    let is = c.requires.kinds.stand c.loop-i.i kind listed in
    let at = slot-of lists c.args.list kind.place is.first kind.slot is.there is.slot_is in (
      kind.place,
      at,
      (
        c.get.result.now,
        value-here lists c.args.list kind.place c.get.result.now (c.get.ensures c.args.list kind.place at),
        search (rules, c.if-get-number.true),
      ),
    )
