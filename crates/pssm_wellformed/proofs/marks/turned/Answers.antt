-- each turn turns the arrows of one number more
use Rattle.std.proofs.Common.{◌<◌, Contains, sym, subst, ◌∙◌, arith}
use Rattle.pssm_wellformed.specs.inner.Marks.{IsPutToEach}
use Rattle.pssm_wellformed.proofs.Marking.{turned_begins, turned_more, turned_ends}
use Rattle.pssm_wellformed.proofs.marks.turned.Goals as goal

pub put_to_each-requires : goal.put_to_each-requires
put_to_each-requires c b h =
    subst (λ n. b < n) (sym c.loop-number.invariant.width) (c.requires.within c.loop-number.number b (subst (λ xs. Contains xs b) c.list_of.ensures h))

pub loop-number-init : goal.loop-number-init
loop-number-init c =
    turned_begins c.args.onward.now.items c.in_ok-back.back.items (c.in_ok-back.ensures.width ∙ sym c.requires.count) c.in_ok-back.ensures.blank

pub loop-number-preserved : goal.loop-number-preserved
loop-number-preserved c =
    turned_more c.loop-number.number c.args.onward.now.items c.loop-number.back.items c.put_to_each.new.lists.items
    (subst (λ xs. IsPutToEach c.loop-number.number xs c.loop-number.back.items c.put_to_each.new.lists.items) c.list_of.ensures c.in_ok-put_to_each.ensures)
    c.loop-number.invariant

pub returns : goal.returns
returns c =
    turned_ends c.loop-number.number c.args.onward.now.items c.loop-number.back.items
    (let last = c.loop-number-test.false in let count = c.requires.count in omega arith) c.loop-number.invariant
