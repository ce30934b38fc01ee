use Rattle.pssm_wellformed.proofs.Numbered.{top_iff}
use Rattle.pssm_wellformed.proofs.rules.top_breaks.Goals as goal

pub returns-then-rule-eq1 : goal.returns-then-rule-eq1
returns-then-rule-eq1 c = top_iff c.args.machine.now c.args.rule c.has_no_top_region.result c.if-rule-eq1.true c.has_no_top_region.ensures
