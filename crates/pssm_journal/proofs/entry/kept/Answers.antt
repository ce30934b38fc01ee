use Rattle.std.proofs.Common.{refl}
use Rattle.pssm_journal.proofs.entry.kept.Goals as goal

pub returns-then-keeps_names-clause-some : goal.returns-then-keeps_names-clause-some
returns-then-keeps_names-clause-some c = (refl, c.keeps_names.ensures.0 c.if-keeps_names.true)
