use Rattle.pssm_model.specs.declared.steps.Item.TheVariants.{Exit}
use Rattle.pssm_plan.proofs.NearWays.{way_calls_first}
use Rattle.pssm_plan.proofs.ways.exit_may_lead.Goals as goal

pub returns : goal.returns
returns c = λ h. c.may_exit.ensures (way_calls_first c.args.machine.now c.args.way.now (Exit c.args.s) c.args.second h)
