-- the entry advances the object after every journal after which it stands so
use Rattle.std.specs.Option.{option_copied}
use Rattle.std.proofs.lemmas.Result.{on_ok_weaker}
use Rattle.pssm_object.specs.inner.Situations.{standing_of}
use Rattle.pssm_object.proofs.Views.{follows_seen, room_fits, eight_seen, advances_seen}
use Rattle.pssm_object.proofs.object.Object.apply.Goals as goal

pub apply-requires-clause-follows : goal.apply-requires-clause-follows
apply-requires-clause-follows c =
    follows_seen c.self.inside.situation c.args.self.now c.self.view_is c.args.class.now c.requires.class (option_copied c.args.signal) c.args.entry.now
    c.requires.can

pub apply-requires-clause-room : goal.apply-requires-clause-room
apply-requires-clause-room c =
    room_fits c.self.inside.situation c.args.self.now c.self.view_is c.args.class.now c.requires.class (option_copied c.args.signal) c.args.entry.now
    c.requires.can

pub apply-requires-clause-eight : goal.apply-requires-clause-eight
apply-requires-clause-eight c =
    eight_seen c.self.inside.situation c.args.self.now c.self.view_is c.args.class.now c.requires.class (option_copied c.args.signal) c.args.entry.now
    c.requires.can

pub returns-clause-ok : goal.returns-clause-ok
returns-clause-ok c =
    on_ok_weaker c.apply.result
    (advances_seen c.self.inside.situation c.args.self.now c.self.view_is c.args.class.now c.requires.class (option_copied c.args.signal) c.args.entry.now
    c.requires.can (standing_of c.apply.new.self)) c.apply.ensures.ok
