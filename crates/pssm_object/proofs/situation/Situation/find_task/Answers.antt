-- it is one of the step, or a do step
use Rattle.std.proofs.Common.{sym}
use Rattle.pssm_object.specs.inner.Situations.{standing_of}
use Rattle.pssm_object.proofs.TaskSums.{found_none, found_front, found_past}
use Rattle.pssm_object.proofs.situation.Situation.find_task.Goals as goal

pub returns-then-self : goal.returns-then-self
returns-then-self c = found_none c.args.machine.now (standing_of c.args.self.now) c.args.i c.if-self.true

pub returns-in-Ok : goal.returns-in-Ok
returns-in-Ok c = sym (found_front c.args.machine.now (standing_of c.args.self.now) c.args.i c.if-self.false c.in-Ok.task c.in-Ok.ensures.there)

pub returns-in-Err : goal.returns-in-Err
returns-in-Err c =
    found_past c.args.machine.now (standing_of c.args.self.now) c.args.i c.if-self.false c.in-Err.rest c.in-Err.ensures.past
    c.find_do_task.result c.find_do_task.ensures
