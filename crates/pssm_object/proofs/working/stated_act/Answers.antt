-- the behaviours of a well-formed class may be run
use Rattle.pssm_object.proofs.Behaving.{acts_fit}
use Rattle.pssm_object.proofs.working.stated_act.Goals as goal

pub returns-in-Some-clause-fits : goal.returns-in-Some-clause-fits
returns-in-Some-clause-fits c = acts_fit c.args.class.now c.requires.class c.args.item c.in-Some.act.now c.in-Some.ensures
