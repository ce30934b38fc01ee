-- the entry of a ready task may follow
use Rattle.std.proofs.lemmas.Result.{IfOk-weaker}
use Rattle.pssm_object.proofs.Views.{config_fits, ready_seen, plan_known, does_seen, task_places_seen, task_seen}
use Rattle.pssm_object.proofs.object.Object.run_task.Goals as goal

pub run_task-requires-clause-plan : goal.run_task-requires-clause-plan
run_task-requires-clause-plan c = plan_known c.self.inside.situation c.args.self.now c.self.view_is c.args.class.now c.requires.stands

pub returns-clause-does : goal.returns-clause-does
returns-clause-does c =
    IfOk-weaker c.run_task.result _ _
    (does_seen c.self.inside.situation c.args.self.now c.self.view_is c.args.class.now c.requires.class c.requires.stands c.args.task c.requires.ready)
    c.run_task.ensures

pub returns-clause-places : goal.returns-clause-places
returns-clause-places c =
    IfOk-weaker c.run_task.result _ _
    (task_places_seen c.self.inside.situation c.args.self.now c.self.view_is c.args.class.now c.requires.class c.requires.stands c.args.task c.requires.ready)
    c.run_task.ensures

pub returns-clause-follows : goal.returns-clause-follows
returns-clause-follows c =
    IfOk-weaker c.run_task.result _ _
    (task_seen c.self.inside.situation c.args.self.now c.self.view_is c.args.class.now c.requires.class c.requires.stands c.args.task c.requires.ready)
    c.run_task.ensures

pub run_task-requires-clause-fits : goal.run_task-requires-clause-fits
run_task-requires-clause-fits c = config_fits c.self.inside.situation c.args.self.now c.self.view_is c.args.class.now c.requires.stands

pub run_task-requires-clause-ready : goal.run_task-requires-clause-ready
run_task-requires-clause-ready c = ready_seen c.self.inside.situation c.args.self.now c.self.view_is c.args.class.now c.args.task c.requires.ready
