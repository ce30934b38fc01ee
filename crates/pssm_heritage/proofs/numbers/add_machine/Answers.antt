use Rattle.std.proofs.Common.{◌≡◌, subst, arith, get_or}
use Rattle.pssm_heritage.specs.inner.Tables.{IsNumbering, own_count}
use Rattle.pssm_heritage.proofs.NumberLaws.{machine_below, next_machine}
use Rattle.pssm_heritage.proofs.numbers.add_machine.Goals as goal

pub count_of-i-end-requires-clause-there : goal.count_of-i-end-requires-clause-there
count_of-i-end-requires-clause-there c =
    machine_below c.args.draft.now c.args.machines.now c.args.k c.requires.range c.requires.chain c.requires.place

pub returns : goal.returns
returns c =
    let all : c.loop-i.i ≡ own_count c.args.draft.now c.args.kind (get_or c.args.machines.now c.args.k 0) = omega arith in
    next_machine _ _ _ c.args.k _ _ c.requires.range c.requires.chain c.requires.place
    (subst (λ i. IsNumbering c.args.draft.now c.args.kind c.args.machines.now c.args.k i c.loop-i.numbers.rows.items c.loop-i.numbers.firsts.items) all c.loop-i.invariant)
