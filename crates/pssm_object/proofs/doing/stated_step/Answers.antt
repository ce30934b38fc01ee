-- The behaviours of a well-formed class may be run.
use Rattle.pssm_object.proofs.DoingBehaviours.{step_fits}
use Rattle.pssm_object.proofs.doing.stated_step.Goals as goal

pub returns-in-Some-clause-fits : goal.returns-in-Some-clause-fits
returns-in-Some-clause-fits c = step_fits c.args.class.now c.requires.class c.args.s c.args.step c.in-Some.act.now c.in-Some.ensures
