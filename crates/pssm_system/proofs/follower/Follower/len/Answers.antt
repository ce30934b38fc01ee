-- what a follower tells of its journal
use Rattle.pssm_system.proofs.Histories.{completes_seen, laws_seen}
use Rattle.pssm_system.specs.inner.Telling.{entries_of}
use Rattle.pssm_system.proofs.follower.Follower.len.Goals as goal

pub returns-clause-completes : goal.returns-clause-completes
returns-clause-completes c =
    completes_seen c.args.self.now c.self.inside.setting (entries_of c.self.inside.told.items) c.self.inside.situation c.self.invariant c.self.view_is

pub returns-clause-laws : goal.returns-clause-laws
returns-clause-laws c =
    laws_seen c.args.self.now c.self.inside.setting (entries_of c.self.inside.told.items) c.self.inside.situation c.self.invariant c.self.view_is
