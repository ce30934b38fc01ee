-- the object stands so
use Rattle.pssm_object.proofs.Views.{config_fits, doers_seen, few_there}
use Rattle.pssm_object.proofs.object.Object.find_task.Goals as goal

pub find_task-requires-clause-fits : goal.find_task-requires-clause-fits
find_task-requires-clause-fits c = config_fits c.self.inside.situation c.args.self.now c.self.view_is c.args.class.now c.requires.stands

pub find_task-requires-clause-doers : goal.find_task-requires-clause-doers
find_task-requires-clause-doers c = doers_seen c.self.inside.situation c.args.self.now c.self.view_is c.args.class.now c.requires.stands

pub returns-clause-few : goal.returns-clause-few
returns-clause-few c = few_there c.self.inside.situation c.args.self.now c.self.view_is c.args.class.now c.requires.class c.requires.stands
