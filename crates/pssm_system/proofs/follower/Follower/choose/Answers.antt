-- nothing is chosen exactly where nothing but a post may follow
use Rattle.pssm_system.proofs.Histories.{none_seen}
use Rattle.pssm_system.specs.inner.Telling.{entries_of}
use Rattle.pssm_system.proofs.follower.Follower.choose.Goals as goal

pub returns-clause-none : goal.returns-clause-none
returns-clause-none c =
    none_seen c.args.self.now c.self.inside.setting (entries_of c.self.inside.told.items) c.self.inside.situation c.self.invariant c.self.view_is
    c.choose.result c.choose.ensures
