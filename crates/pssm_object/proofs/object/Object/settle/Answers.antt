-- the entry advances the object after every journal after which it stands so
use Rattle.std.specs.Option.{option_copied}
use Rattle.std.proofs.lemmas.Result.{on_ok_weaker}
use Rattle.pssm_object.specs.inner.Situations.{standing_of}
use Rattle.pssm_object.proofs.Views.{follows_seen, room_fits, eight_seen, advances_seen, made_seen}
use Rattle.pssm_object.proofs.object.Object.settle.Goals as goal

pub apply_made-requires-clause-follows : goal.apply_made-requires-clause-follows
apply_made-requires-clause-follows c =
    follows_seen c.self.inside.situation c.args.self.now c.self.view_is c.args.class.now c.requires.class (option_copied c.args.signal) c.args.entry.now
    c.requires.can

pub apply_made-requires-clause-room : goal.apply_made-requires-clause-room
apply_made-requires-clause-room c =
    room_fits c.self.inside.situation c.args.self.now c.self.view_is c.args.class.now c.requires.class (option_copied c.args.signal) c.args.entry.now
    c.requires.can

pub apply_made-requires-clause-eight : goal.apply_made-requires-clause-eight
apply_made-requires-clause-eight c =
    eight_seen c.self.inside.situation c.args.self.now c.self.view_is c.args.class.now c.requires.class (option_copied c.args.signal) c.args.entry.now
    c.requires.can

pub returns-clause-ok : goal.returns-clause-ok
returns-clause-ok c =
    on_ok_weaker c.apply_made.result
    (advances_seen c.self.inside.situation c.args.self.now c.self.view_is c.args.class.now c.requires.class (option_copied c.args.signal) c.args.entry.now
    c.requires.can (standing_of c.apply_made.new.self)) c.apply_made.ensures.ok

pub apply_made-requires-clause-made : goal.apply_made-requires-clause-made
apply_made-requires-clause-made c =
    made_seen c.self.inside.situation c.args.self.now c.self.view_is c.args.class.now c.args.entry.now c.args.store.now c.requires.made
