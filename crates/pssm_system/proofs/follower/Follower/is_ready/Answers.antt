-- a task is ready after every journal of which this is kept
use Rattle.pssm_system.proofs.Histories.{task_ready_seen}
use Rattle.pssm_system.specs.inner.Telling.{entries_of}
use Rattle.pssm_system.proofs.follower.Follower.is_ready.Goals as goal

pub returns : goal.returns
returns c =
    task_ready_seen c.args.self.now c.self.inside.setting (entries_of c.self.inside.told.items) c.self.inside.situation c.self.invariant c.self.view_is
    c.args.object c.args.task c.is_ready.result c.is_ready.ensures
