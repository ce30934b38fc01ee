-- the first of the queue, after every journal after which it stands so
use Rattle.pssm_object.proofs.Views.{completion_seen}
use Rattle.pssm_object.proofs.object.Object.completion.Goals as goal

pub returns-clause-tells : goal.returns-clause-tells
returns-clause-tells c = λ class. completion_seen c.self.inside.situation c.args.self.now c.self.view_is c.first.result c.first.ensures class
