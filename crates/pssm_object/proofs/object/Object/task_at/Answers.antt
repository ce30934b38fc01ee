-- the object stands so
use Rattle.pssm_object.proofs.Views.{config_fits}
use Rattle.pssm_object.proofs.object.Object.task_at.Goals as goal

pub nth_task-requires-clause-fits : goal.nth_task-requires-clause-fits
nth_task-requires-clause-fits c = config_fits c.self.inside.situation c.args.self.now c.self.view_is c.args.class.now c.requires.stands
