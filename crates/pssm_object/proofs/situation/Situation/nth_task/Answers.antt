-- it is one of the step, or a do step
use Rattle.pssm_object.specs.inner.Situations.{standing_of}
use Rattle.pssm_object.proofs.TaskSums.{nth_front, nth_rest, nth_past}
use Rattle.pssm_object.proofs.situation.Situation.nth_task.Goals as goal

pub returns-in-Ok : goal.returns-in-Ok
returns-in-Ok c = nth_front c.args.machine.now (standing_of c.args.self.now) c.args.i c.requires.there c.in-Ok.task c.in-Ok.ensures.there

pub nth_do_task-requires-clause-there : goal.nth_do_task-requires-clause-there
nth_do_task-requires-clause-there c =
    nth_rest c.args.machine.now (standing_of c.args.self.now) c.args.i c.requires.there c.in-Err.rest c.in-Err.ensures.past

pub returns-in-Err : goal.returns-in-Err
returns-in-Err c =
    nth_past c.args.machine.now (standing_of c.args.self.now) c.args.i c.requires.there c.in-Err.rest c.in-Err.ensures.past
    c.nth_do_task.result c.nth_do_task.ensures
