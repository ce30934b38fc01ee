-- an active State defers the signal exactly where the object defers it
use Rattle.pssm_object.proofs.Views.{defers_seen}
use Rattle.pssm_object.proofs.object.Object.defers.Goals as goal

pub returns : goal.returns
returns c =
    defers_seen c.self.inside.situation c.args.self.now c.self.view_is c.args.class.now c.requires.class c.args.waiting.now c.defers.result c.defers.ensures
