-- a ready task has its place in the machine
use Rattle.std.proofs.Common.{Contains, subst}
use Rattle.pssm_semantics.specs.declared.stimulus.Task.{Task}
use Rattle.pssm_semantics.specs.declared.stimulus.Task.TheVariants as tasks
use Rattle.pssm_object.specs.Tasks.{ready_tasks}
use Rattle.pssm_object.specs.inner.Situations.{standing_of}
use Rattle.pssm_object.proofs.TaskLists.{ready_place}
use Rattle.pssm_object.proofs.situation.Situation.run_task.Goals as goal

pub outputs-requires-clause-place : goal.outputs-requires-clause-place
outputs-requires-clause-place c =
    ready_place c.requires.class.rules (standing_of c.args.self.now) c.requires.plan c.requires.fits (tasks.Exit c.in-Exit.state)
    (subst (λ (t : Task). Contains (ready_tasks c.args.class.now.machine (standing_of c.args.self.now)) t) c.in-Exit.is c.requires.ready)

pub outputs-requires-in-Effect-clause-place : goal.outputs-requires-in-Effect-clause-place
outputs-requires-in-Effect-clause-place c =
    ready_place c.requires.class.rules (standing_of c.args.self.now) c.requires.plan c.requires.fits (tasks.Effect c.in-Effect.transition)
    (subst (λ (t : Task). Contains (ready_tasks c.args.class.now.machine (standing_of c.args.self.now)) t) c.in-Effect.is c.requires.ready)

pub outputs-requires-in-Enter-clause-place : goal.outputs-requires-in-Enter-clause-place
outputs-requires-in-Enter-clause-place c =
    ready_place c.requires.class.rules (standing_of c.args.self.now) c.requires.plan c.requires.fits (tasks.Enter c.in-Enter.state)
    (subst (λ (t : Task). Contains (ready_tasks c.args.class.now.machine (standing_of c.args.self.now)) t) c.in-Enter.is c.requires.ready)

pub step_outputs-requires-clause-vertex : goal.step_outputs-requires-clause-vertex
step_outputs-requires-clause-vertex c =
    ready_place c.requires.class.rules (standing_of c.args.self.now) c.requires.plan c.requires.fits (tasks.DoStep c.in-DoStep.state c.in-DoStep.step)
    (subst (λ (t : Task). Contains (ready_tasks c.args.class.now.machine (standing_of c.args.self.now)) t) c.in-DoStep.is c.requires.ready)
