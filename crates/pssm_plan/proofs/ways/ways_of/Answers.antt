use Rattle.std.proofs.Common.{arith}
use Rattle.pssm_plan.proofs.BetweenWays.{between_calls, none_between}
use Rattle.pssm_plan.proofs.ways.ways_of.Goals as goal

pub returns-then-first-last-clause-all : goal.returns-then-first-last-clause-all
returns-then-first-last-clause-all c =
    between_calls c.args.machine.now c.args.ways.now c.args.item.now c.first_calling-first.result c.last_calling-last.result
    c.first_calling-first.ensures.none c.last_calling-last.ensures.none c.last_calling-last.ensures.within

pub returns-else-first-last-clause-all : goal.returns-else-first-last-clause-all
returns-else-first-last-clause-all c =
    λ way there called. absurd (none_between c.args.machine.now c.args.ways.now c.args.item.now c.first_calling-first.result c.last_calling-last.result
    c.first_calling-first.ensures.none c.last_calling-last.ensures.none
    (let over = c.if-first-last.false in omega (arith, over)) way there called)
