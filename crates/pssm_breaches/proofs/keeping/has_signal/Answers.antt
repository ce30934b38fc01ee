use Rattle.pssm_breaches.proofs.KeepLaws.{has_iff}
use Rattle.pssm_breaches.proofs.keeping.has_signal.Goals as goal

pub returns : goal.returns
returns c = has_iff c.args.signals.now c.args.signal c.contains.result c.contains.ensures.cases
