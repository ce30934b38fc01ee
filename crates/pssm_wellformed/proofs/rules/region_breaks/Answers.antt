-- each rule under its number
use Rattle.pssm_wellformed.proofs.Numbered.{region_iff_1, region_iff_2}
use Rattle.pssm_wellformed.proofs.rules.region_breaks.Goals as goal

pub returns-in-1 : goal.returns-in-1
returns-in-1 c = region_iff_1 c.args.machine.now c.args.region c.args.rule c.is_top_without_initial.result c.in-1.is c.is_top_without_initial.ensures

pub returns-in-2 : goal.returns-in-2
returns-in-2 c = region_iff_2 c.args.machine.now c.args.region c.args.rule c.owns_two_entries.result c.in-2.is c.owns_two_entries.ensures
