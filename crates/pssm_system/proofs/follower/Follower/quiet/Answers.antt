-- a system is quiet where its parts are
use Rattle.pssm_system.proofs.Histories.{quiet_seen}
use Rattle.pssm_system.specs.inner.Telling.{entries_of}
use Rattle.pssm_system.proofs.follower.Follower.quiet.Goals as goal

pub returns : goal.returns
returns c =
    quiet_seen c.args.self.now c.self.inside.setting (entries_of c.self.inside.told.items) c.self.inside.situation c.self.invariant c.self.view_is
    c.is_quiet.result c.is_quiet.ensures
