-- one place after the other
use Rattle.std.proofs.Common.{arith}
use Rattle.pssm_wellformed.proofs.Order.{none_checked, all_checked, none_listed}
use Rattle.pssm_wellformed.proofs.checking.check.Goals as goal

pub loop-number-init : goal.loop-number-init
loop-number-init c = rw c.new-faults.ensures.items (none_checked c.args.machine.now)

pub returns-clause-exact : goal.returns-clause-exact
returns-clause-exact c =
    all_checked c.places-places.ensures.shaped c.loop-number.number c.loop-number.faults.items
    (let last = c.loop-number-test.false in let is = c.places-places.ensures.count in omega arith) c.loop-number.invariant

pub returns-clause-keeps_rules : goal.returns-clause-keeps_rules
returns-clause-keeps_rules c =
    none_listed c.args.machine.now c.loop-number.faults.items
    (all_checked c.places-places.ensures.shaped c.loop-number.number c.loop-number.faults.items
    (let last = c.loop-number-test.false in let is = c.places-places.ensures.count in omega arith) c.loop-number.invariant)
