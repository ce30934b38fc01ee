-- the slot is the one behind the front, and no other
use Rattle.std.proofs.Common.{arith, rules, sym}
use Rattle.pssm_pool.proofs.front.Front.pass_by.Goals as goal

pub returns-else-not-go_on-clause-ahead : goal.returns-else-not-go_on-clause-ahead
returns-else-not-go_on-clause-ahead c = λ k at.
    let met = c.go_on.ensures.met (search (rules, c.if-not-go_on.false)) in
    let same = (c.own_slots.ensures.own c.args.slot c.args.list c.args.list c.go_on.new.self.count k met at).1 in
    omega (arith, same)
