-- an initial vertex has a transition out
use Rattle.pssm_object.proofs.MachineLaws.{initial_leads}
use Rattle.pssm_object.proofs.opening.from_initial.Goals as goal

pub route_from-requires-clause-out : goal.route_from-requires-clause-out
route_from-requires-clause-out c = initial_leads c.requires.rules c.args.v c.requires.initial
