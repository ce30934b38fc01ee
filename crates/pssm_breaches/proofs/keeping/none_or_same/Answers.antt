use Rattle.pssm_breaches.proofs.KeepLaws.{filled_iff}
use Rattle.pssm_breaches.proofs.keeping.none_or_same.Goals as goal

pub returns-else-is_empty : goal.returns-else-is_empty
returns-else-is_empty c =
    filled_iff c.args.some.now c.args.others.now c.is_empty.result c.same_signals.result c.is_empty.ensures c.if-is_empty.false c.same_signals.ensures
