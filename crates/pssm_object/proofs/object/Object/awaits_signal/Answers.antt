-- after every journal after which it stands so
use Rattle.pssm_object.proofs.Views.{wait_seen}
use Rattle.pssm_object.proofs.object.Object.awaits_signal.Goals as goal

pub returns : goal.returns
returns c = λ class. wait_seen c.self.inside.situation c.args.self.now c.self.view_is c.awaits_signal.result c.awaits_signal.ensures class
