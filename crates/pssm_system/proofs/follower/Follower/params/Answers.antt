-- the parameters are those of the object that is looked up
use Rattle.std.proofs.Common.{◌∙◌}
use Rattle.pssm_system.proofs.Histories.{params_seen}
use Rattle.pssm_system.specs.inner.Telling.{entries_of}
use Rattle.pssm_system.proofs.follower.Follower.params.Goals as goal

pub returns : goal.returns
returns c =
    c.params.ensures
    ∙ params_seen c.args.self.now c.self.inside.setting (entries_of c.self.inside.told.items) c.self.inside.situation c.self.invariant c.self.view_is
    c.args.object c.index.result.now c.from.result c.index.ensures c.from.ensures c.requires
