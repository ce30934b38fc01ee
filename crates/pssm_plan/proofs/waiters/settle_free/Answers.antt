use Rattle.std.proofs.Common.{arith}
use Rattle.pssm_plan.proofs.Passes.{free_loose}
use Rattle.pssm_plan.proofs.waiters.settle_free.Goals as goal

pub returns-else-nests-calls-clause-left : goal.returns-else-nests-calls-clause-left
returns-else-nests-calls-clause-left c =
    free_loose c.args.machine.now c.args.ways.now c.args.calls.now c.args.since c.args.ran c.first_nesting-nests.result c.requires.new
    c.first_nesting-nests.ensures.loose (omega (arith, c.if-nests-calls.false)) c.requires.left
