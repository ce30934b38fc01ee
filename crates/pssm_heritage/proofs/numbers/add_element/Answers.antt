-- The element has the number of what it redefines above, or a new one.
use Rattle.std.proofs.Common.{subst, sym, ◌+◌}
use Rattle.pssm_heritage.specs.inner.Tables.{IsNumbering, IsNumbered, element_at}
use Rattle.pssm_heritage.proofs.RowLaws.{on_ok}
use Rattle.pssm_heritage.proofs.NumberLaws.{goes_on, machine_below, cut_of}
use Rattle.pssm_heritage.proofs.numbers.add_element.Goals as goal

pub returns : goal.returns
returns c =
    on_ok
    c.note.result
    (λ noted. subst
    (λ rows. IsNumbering c.args.draft.now c.args.kind c.args.machines.now c.args.k (c.args.i + 1) rows c.next_number.new.firsts.items)
    (sym noted)
    (goes_on
    c.args.draft.now
    c.args.kind
    c.args.machines.now
    c.args.k
    c.args.i
    c.args.numbers.now.rows.items
    c.args.numbers.now.firsts.items
    c.requires.range
    (cut_of _ _ _ c.requires.chain c.requires.place)
    c.requires.so_far
    c.in_ok-number.number
    c.next_number.new.firsts.items
    c.requires.place
    (machine_below c.args.draft.now c.args.machines.now c.args.k c.requires.range c.requires.chain c.requires.place)
    c.requires.there
    (subst
    (λ rows. IsNumbered c.args.draft.now c.args.kind rows c.args.numbers.now.firsts.items (element_at c.args.machines.now c.args.k c.args.i) c.in_ok-number.number c.next_number.new.firsts.items)
    c.as_slice.ensures.value
    c.in_ok-number.ensures)))
    c.note.ensures
