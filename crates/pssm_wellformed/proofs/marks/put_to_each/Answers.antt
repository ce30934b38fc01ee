-- each turn puts the item to one number more
use Rattle.std.proofs.Common.{◌<◌, get_or, refl, sym, subst}
use Rattle.std.proofs.lemmas.List.{take_all}
use Rattle.std.proofs.lemmas.List.Elements.{Contains-get_or}
use Rattle.pssm_wellformed.specs.inner.Marks.{IsPutToEach}
use Rattle.pssm_wellformed.proofs.Marking.{put_to_none, put_to_more}
use Rattle.pssm_wellformed.proofs.marks.put_to_each.Goals as goal

pub put-requires : goal.put-requires
put-requires c =
    let xs = c.args.numbers.now in
    subst (λ n. get_or xs c.loop-number.number-index 0 < n) (sym c.loop-number.invariant.width)
    (c.requires (get_or xs c.loop-number.number-index 0) (Contains-get_or xs c.loop-number.number-index 0 c.loop-number-test.true))

pub loop-number-init : goal.loop-number-init
loop-number-init c = put_to_none c.args.item c.args.lists.now.items

pub loop-number-preserved : goal.loop-number-preserved
loop-number-preserved c =
    let xs = c.args.numbers.now in
    let i = c.loop-number.number-index in
    put_to_more c.args.item xs i (get_or xs i 0) c.args.lists.now.items c.loop-number.lists.items c.put.new.lists.items c.loop-number-test.true refl
    c.in_ok-put.ensures.width c.in_ok-put.ensures.puts c.loop-number.invariant

pub returns : goal.returns
returns c =
    let xs = c.args.numbers.now in
    subst (λ ys. IsPutToEach c.args.item ys c.args.lists.now.items c.loop-number.lists.items) (take_all c.loop-number.number-index xs c.loop-number-test.false)
    c.loop-number.invariant
