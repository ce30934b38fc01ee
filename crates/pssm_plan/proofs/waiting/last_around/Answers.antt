use Rattle.pssm_model.specs.declared.steps.Item.TheVariants.{Enter}
use Rattle.pssm_plan.specs.inner.Sequence.{IsNestedPair}
use Rattle.pssm_plan.proofs.Around.{climbed_more, climbed_all}
use Rattle.pssm_plan.proofs.Looking.{free_none}
use Rattle.pssm_plan.proofs.waiting.last_around.Goals as goal

pub returns-in-None-clause-none : goal.returns-in-None-clause-none
returns-in-None-clause-none c =
    climbed_all c.args.machine.now c.args.calls.now c.args.v c.loop.inner c.loop.last c.args.end c.in-None.ensures c.loop.invariant.2

pub loop-preserved : goal.loop-preserved
loop-preserved c = (
  c.behind_entry-last.ensures.within,
  c.in-Some.ensures.0,
  climbed_more c.args.machine.now c.args.calls.now c.args.v c.loop.inner c.in-Some.s c.loop.last c.behind_entry-last.result c.args.end
      c.in-Some.ensures.1 c.behind_entry-last.ensures.least c.behind_entry-last.ensures.none c.loop.invariant.2,
)

pub returns-clause-none : goal.returns-clause-none
returns-clause-none c = free_none (IsNestedPair c.args.machine.now) c.args.calls.now (Enter c.args.v) c.args.end
