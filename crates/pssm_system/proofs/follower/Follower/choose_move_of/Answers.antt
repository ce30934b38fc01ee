-- no move of the object is chosen exactly where none may follow
use Rattle.pssm_system.proofs.Histories.{no_move_seen_of}
use Rattle.pssm_system.specs.inner.Telling.{entries_of}
use Rattle.pssm_system.proofs.follower.Follower.choose_move_of.Goals as goal

pub returns-clause-none : goal.returns-clause-none
returns-clause-none c =
    no_move_seen_of c.args.self.now c.self.inside.setting (entries_of c.self.inside.told.items) c.self.inside.situation c.self.invariant c.self.view_is
    c.args.object c.choose_of.result c.choose_of.ensures
