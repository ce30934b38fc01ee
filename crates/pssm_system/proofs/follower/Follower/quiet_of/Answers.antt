-- a system tells it of an object as its parts do
use Rattle.pssm_system.proofs.Histories.{quiet_seen_of}
use Rattle.pssm_system.specs.inner.Telling.{entries_of}
use Rattle.pssm_system.proofs.follower.Follower.quiet_of.Goals as goal

pub returns : goal.returns
returns c =
    quiet_seen_of c.args.self.now c.self.inside.setting (entries_of c.self.inside.told.items) c.self.inside.situation c.self.invariant c.self.view_is
    c.args.object c.is_quiet_of.result c.is_quiet_of.ensures
