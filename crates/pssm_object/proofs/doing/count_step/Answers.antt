-- A State has at most 64 do steps.
use Rattle.pssm_object.proofs.DoingNext.{few_steps}
use Rattle.pssm_object.proofs.doing.count_step.Goals as goal

pub do_step-requires-clause-room : goal.do_step-requires-clause-room
do_step-requires-clause-room c = few_steps c.args.class.now c.requires.class c.args.s c.args.config.now c.requires.fits c.args.step c.requires.next

pub returns-clause-fits : goal.returns-clause-fits
returns-clause-fits c = c.do_step.ensures.fits c.args.class.now.machine c.args.step c.requires.fits c.requires.next

pub returns-clause-did : goal.returns-clause-did
returns-clause-did c = c.do_step.ensures.stepped c.args.class.now.machine c.args.step c.requires.fits c.requires.next
