-- the entry of a ready task may come next, whatever waits
use Rattle.pssm_system.proofs.Views.{task_found_next}
use Rattle.pssm_system.proofs.choosing.task_entry.Goals as goal

pub returns : goal.returns
returns c =
    task_found_next c.args.class.now c.args.object.now c.task_at.result c.run_task.result c.run_task.ensures.does c.run_task.ensures.places
    c.run_task.ensures.follows
