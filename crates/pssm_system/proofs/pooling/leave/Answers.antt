-- where the signal does not wait, all stay
use Rattle.pssm_system.proofs.Pools.{left-none}
use Rattle.pssm_system.proofs.pooling.leave.Goals as goal

pub returns-in_default-numbered-clause-waiting : goal.returns-in_default-numbered-clause-waiting
returns-in_default-numbered-clause-waiting c =
    let said = c.in_default-numbered.ensures in
    left-none c.args.pools.now.waiting c.args.entry.now c.in-Take.object c.in-Take.number c.in-Take.firing c.in-Take.is said.none
