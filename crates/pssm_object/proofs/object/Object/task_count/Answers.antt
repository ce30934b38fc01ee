-- the tasks are the ready ones of the object
use Rattle.pssm_object.proofs.Views.{config_fits, doers_seen, few_seen, tasks_seen}
use Rattle.pssm_object.proofs.object.Object.task_count.Goals as goal

pub returns-clause-listed : goal.returns-clause-listed
returns-clause-listed c = tasks_seen c.self.inside.situation c.args.self.now c.self.view_is c.args.class.now c.requires.class

pub count_tasks-requires-clause-fits : goal.count_tasks-requires-clause-fits
count_tasks-requires-clause-fits c = config_fits c.self.inside.situation c.args.self.now c.self.view_is c.args.class.now c.requires.stands

pub count_tasks-requires-clause-few : goal.count_tasks-requires-clause-few
count_tasks-requires-clause-few c = few_seen c.self.inside.situation c.args.self.now c.self.view_is c.args.class.now c.requires.class c.requires.stands

pub count_tasks-requires-clause-doers : goal.count_tasks-requires-clause-doers
count_tasks-requires-clause-doers c = doers_seen c.self.inside.situation c.args.self.now c.self.view_is c.args.class.now c.requires.stands
