-- the tasks of an object are its ready ones
use Rattle.pssm_system.proofs.Histories.{own_ready_seen}
use Rattle.pssm_system.specs.inner.Telling.{entries_of}
use Rattle.pssm_system.proofs.follower.Follower.find_task_of.Goals as goal

pub returns-clause-listed : goal.returns-clause-listed
returns-clause-listed c =
    own_ready_seen c.args.self.now c.self.inside.setting (entries_of c.self.inside.told.items) c.self.inside.situation c.self.invariant c.self.view_is c.args.object
