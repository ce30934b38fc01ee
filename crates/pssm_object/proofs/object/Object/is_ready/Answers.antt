-- a task is ready after every journal after which the object stands so
use Rattle.pssm_object.proofs.Views.{config_fits, plan_known, task_ready_seen}
use Rattle.pssm_object.proofs.object.Object.is_ready.Goals as goal

pub is_ready-requires-clause-fits : goal.is_ready-requires-clause-fits
is_ready-requires-clause-fits c = config_fits c.self.inside.situation c.args.self.now c.self.view_is c.args.class.now c.requires.stands

pub is_ready-requires-clause-plan : goal.is_ready-requires-clause-plan
is_ready-requires-clause-plan c = plan_known c.self.inside.situation c.args.self.now c.self.view_is c.args.class.now c.requires.stands

pub returns : goal.returns
returns c =
    task_ready_seen c.self.inside.situation c.args.self.now c.self.view_is c.args.class.now c.args.task c.is_ready.result c.is_ready.ensures
